-- The lines of a text, and what is known after those that were read.
use Rattle.std.proofs.Common.{◌≡◌, refl, ℕ, ◌+◌, ◌-◌, true, false, not, ◌&&◌, ◌||◌, eqb, ◌==◌, Bool, List, [], ◌∷◌, ◌++◌, length, map, take, arith, ap, sym, ◌∙◌, subst, codes, None, Some, if◌then◌else◌, append_assoc, inl, inr, ne_eqb, ⊎_elim, slice_get, length-append}
use Rattle.std.specs.List.{list_all, list_any, slice_split, join_with_byte}
use Rattle.std.proofs.lemmas.Bool.{and_parts, and_from, false≢true, cases_lt}
use Rattle.std.proofs.lemmas.List.{append-nil, length-map, map-append}
use Rattle.std.proofs.lemmas.List.Folds.{list_any-append}
use Rattle.std.proofs.lemmas.List.Splits.{join_with_byte-slice_split, slice_split_at}
use Rattle.std.proofs.Math.Seq.{take-append_seam}
use Rattle.src_sink.proofs.TextLines.{torn_line, first_line}
use Rattle.src_sink.specs.Texts.{TextLine, lines_between, lines_of}
use Rattle.word_lines.specs.FirstFault.{LineTest, line_test, first_word, is_end_line, fault_of_line, fault_at, Pass, FirstFault}
use Rattle.word_lines.specs.Grammar.{Grammar, is_formed, entry_text, entries_text, ends_once, IsWhole}
use Rattle.word_lines.specs.LineFault.{line_fault}
use Rattle.word_lines.specs.Numerals.{same_word}
use Rattle.word_lines.specs.declared.fault.LogKind.{LogKind}
use Rattle.word_lines.specs.declared.fault.LogKind.TheVariants.{NoEnd}
use Rattle.word_lines.proofs.Entries.{cut_entry, entry_lacks, line_passes}

-- the item after those that are done
pub item_after : {X : Type 0} (xs : List X) (x : X) (ys : List X) → slice_get (xs ++ x ∷ ys) (length xs) ≡ Some x
item_after [] x ys = refl
item_after (z ∷ xs) x ys = item_after xs x ys

-- the first test that the next line fails, after those that are done
pub next_fault : (test : LineTest) (done : List TextLine) (l : TextLine) (rest : List TextLine) → fault_at test (done ++ l ∷ rest) (length done + 1) ≡ test done l
next_fault test done l rest =
    let back : length done + 1 - 1 ≡ length done = omega arith in
    ap (λ n. fault_of_line test (take n (done ++ l ∷ rest)) (slice_get (done ++ l ∷ rest) n)) back
    ∙ ap (λ o. fault_of_line test (take (length done) (done ++ l ∷ rest)) o) (item_after done l rest)
    ∙ ap (λ ls. test ls l) (take-append_seam done (l ∷ rest))

-- one line more passes
pub pass_more : (test : LineTest) (lines : List TextLine) (n : ℕ) → Pass test lines n → fault_at test lines (n + 1) ≡ None → Pass test lines (n + 1)
pass_more test lines n h k i low high =
    ⊎_elim (λ below. h i low (omega arith)) (λ above. let same : n + 1 ≡ i = omega arith in subst (λ (j : ℕ). fault_at test lines j ≡ None) same k) (cases_lt i (n + 1))

not_turn : (a b c : Bool) → (not a && (b && not c)) ≡ (b && not (a || c))
not_turn true true c = refl
not_turn true false c = refl
not_turn false b c = refl

and_true : (b : Bool) → b ≡ (b && true)
and_true true = refl
and_true false = refl

-- the last entry is an end, and none before it
pub ends_once-push : {E : Type 0} (is_end : E → Bool) (entries : List E) (e : E) → ends_once is_end (entries ++ e ∷ []) ≡ (is_end e && not (list_any is_end entries))
ends_once-push is_end [] e = and_true (is_end e)
ends_once-push is_end (o ∷ []) e = ap (λ r. not (is_end o) && r) (and_true (is_end e)) ∙ not_turn (is_end o) (is_end e) false
ends_once-push is_end (o ∷ p ∷ entries) e = ap (λ r. not (is_end o) && r) (ends_once-push is_end (p ∷ entries) e) ∙ not_turn (is_end o) (is_end e) (list_any is_end (p ∷ entries))

any_pushed : (b c : Bool) → b ≡ false → (b || (c || false)) ≡ true → (c && not b) ≡ true
any_pushed true c none h = cc
any_pushed false true none h = refl
any_pushed false false none h = h

module _ {E : Type 0} (g : Grammar E) where
  -- the line of an entry
  abbrev pub whole_line : E → TextLine
  whole_line e = record { text = entry_text g e; whole = true }

  -- the lines of a text are those of its entries
  pub lines_of_entries : (entries : List E) → list_all (is_formed g) entries ≡ true → lines_of (entries_text g entries) ≡ map whole_line entries
  lines_of_entries [] h = refl
  lines_of_entries (e ∷ entries) h =
      let p = and_parts (is_formed g e) (list_all (is_formed g) entries) h in
      let cut : slice_split (λ b. b == 10) (entries_text g (e ∷ entries)) ≡ entry_text g e ∷ slice_split (λ b. b == 10) (entries_text g entries) =
      ap (slice_split (λ b. b == 10)) (append_assoc (entry_text g e) (10 ∷ []) (entries_text g entries))
      ∙ slice_split_at (λ b. b == 10) (entry_text g e) 10 (entries_text g entries) (entry_lacks g e p.0) refl in
      first_line (entries_text g (e ∷ entries)) (entry_text g e) (entries_text g entries) cut ∙ ap (λ ls. whole_line e ∷ ls) (lines_of_entries entries p.1)

  text_of_pieces : (pieces : List (List ℕ)) (entries : List E) → lines_between pieces ≡ map whole_line entries → join_with_byte 10 pieces ≡ entries_text g entries
  text_of_pieces [] [] e = refl
  text_of_pieces [] (o ∷ entries) e = cc
  text_of_pieces (piece ∷ []) entries e = by (length piece == 0) refl entries e
    where
      empty : (p : List ℕ) → eqb (length p) 0 ≡ true → p ≡ []
      empty [] h = refl
      empty (x ∷ p) h = absurd (false≢true (sym (ne_eqb (length (x ∷ p)) 0 (λ none. absurd (omega (arith, none)))) ∙ h))

      by : (b : Bool) → eqb (length piece) 0 ≡ b → (es : List E) → (if b then [] else torn_line piece ∷ []) ≡ map whole_line es → piece ≡ entries_text g es
      by true k [] e = empty piece k
      by true k (o ∷ es) e = cc
      by false k [] e = cc
      by false k (o ∷ es) e = let torn : torn_line piece ≡ whole_line o = cc in absurd (false≢true (ap (λ (l : TextLine). l.whole) torn))
  text_of_pieces (piece ∷ next ∷ pieces) [] e = cc
  text_of_pieces (piece ∷ next ∷ pieces) (o ∷ entries) e =
      let first : record { text = piece; whole = true } ≡ whole_line o = cc in
      let tails : lines_between (next ∷ pieces) ≡ map whole_line entries = cc in
      let piece_is : piece ≡ entry_text g o = ap (λ (l : TextLine). l.text) first in
      (λ i. piece_is i ++ 10 ∷ text_of_pieces (next ∷ pieces) entries tails i) ∙ sym (append_assoc (entry_text g o) (10 ∷ []) (entries_text g entries))

  -- a text with the lines of entries is theirs
  pub text_of_lines : (bytes : List ℕ) (entries : List E) → lines_of bytes ≡ map whole_line entries → bytes ≡ entries_text g entries
  text_of_lines bytes entries e = sym (join_with_byte-slice_split 10 bytes) ∙ text_of_pieces (slice_split (λ b. b == 10) bytes) entries e

  ends_alike : (e : E) → is_formed g e ≡ true → is_end_line (whole_line e) ≡ g.is_end e
  ends_alike e h = ap (λ ws. same_word (first_word ws) (codes "end")) (cut_entry g e h) ∙ g.ends e

  pub any_end : (entries : List E) → list_all (is_formed g) entries ≡ true → list_any is_end_line (map whole_line entries) ≡ list_any g.is_end entries
  any_end [] h = refl
  any_end (e ∷ entries) h =
      let p = and_parts (is_formed g e) (list_all (is_formed g) entries) h in
      λ i. ends_alike e p.0 i || any_end entries p.1 i

  -- the tests of its lines
  abbrev test : LineTest
  test = line_test g.forms_of

  -- the first lines were read as these entries, and these are left
  pub record IsReadTo (bytes : List ℕ) (rest : List TextLine) (entries : List E) : Type 0 where
    pub lines_are : lines_of bytes ≡ map whole_line entries ++ rest
    pub formed : list_all (is_formed g) entries ≡ true
    pub pass : Pass test (lines_of bytes) (length entries)
    pub ends : list_any g.is_end entries ≡ true → ends_once g.is_end entries ≡ true

  pub read_none : (bytes : List ℕ) → IsReadTo bytes (lines_of bytes) []
  read_none bytes = record { lines_are = refl; formed = refl; pass = λ i low high. absurd (omega arith); ends = λ h. h }

  -- the first test that the next line fails
  pub fault_next : (bytes : List ℕ) (l : TextLine) (rest : List TextLine) (entries : List E) → IsReadTo bytes (l ∷ rest) entries → fault_at test (lines_of bytes) (length entries + 1) ≡ line_fault g.forms_of (list_any g.is_end entries) l.whole l.text
  fault_next bytes l rest entries r =
      (λ i. fault_at test (r.lines_are i) (sym (length-map entries whole_line) i + 1))
      ∙ next_fault test (map whole_line entries) l rest
      ∙ ap (λ b. line_fault g.forms_of b l.whole l.text) (any_end entries r.formed)

  all_formed-push : (entries : List E) (e : E) → list_all (is_formed g) entries ≡ true → is_formed g e ≡ true → list_all (is_formed g) (entries ++ e ∷ []) ≡ true
  all_formed-push [] e h k = and_from (is_formed g e) true k refl
  all_formed-push (o ∷ entries) e h k =
      let p = and_parts (is_formed g o) (list_all (is_formed g) entries) h in
      and_from (is_formed g o) _ p.0 (all_formed-push entries e p.1 k)

  -- one more line
  pub read_next : (bytes : List ℕ) (l : TextLine) (rest : List TextLine) (entries : List E) (e : E) → IsReadTo bytes (l ∷ rest) entries → list_any g.is_end entries ≡ false → is_formed g e ≡ true → l ≡ whole_line e → IsReadTo bytes rest (entries ++ e ∷ [])
  read_next bytes l rest entries e r none formed same =
      let more : length (entries ++ e ∷ []) ≡ length entries + 1 = length-append entries (e ∷ []) in
      let passes : fault_at test (lines_of bytes) (length entries + 1) ≡ None =
      fault_next bytes l rest entries r ∙ (λ i. line_fault g.forms_of (none i) (same i).whole (same i).text) ∙ line_passes g e formed in
      record {
        lines_are = r.lines_are ∙ ap (λ x. map whole_line entries ++ x ∷ rest) same ∙ sym (append_assoc (map whole_line entries) (whole_line e ∷ []) rest) ∙ ap (λ ls. ls ++ rest) (sym (map-append whole_line entries (e ∷ [])));
        formed = all_formed-push entries e r.formed formed;
        pass = subst (Pass test (lines_of bytes)) (sym more) (pass_more test (lines_of bytes) (length entries) r.pass passes);
        ends = λ h. ends_once-push g.is_end entries e ∙ any_pushed (list_any g.is_end entries) (g.is_end e) none (sym (list_any-append g.is_end entries (e ∷ [])) ∙ h);
      }

  -- the next line has the first fault
  pub read_fault : (bytes : List ℕ) (l : TextLine) (rest : List TextLine) (entries : List E) (k : LogKind) → IsReadTo bytes (l ∷ rest) entries → line_fault g.forms_of (list_any g.is_end entries) l.whole l.text ≡ Some k → FirstFault test bytes (record { line = length entries + 1; kind = k })
  read_fault bytes l rest entries k r h =
      let back : length entries ≡ length entries + 1 - 1 = omega arith in
      inl (omega arith, subst (Pass test (lines_of bytes)) back r.pass, fault_next bytes l rest entries r ∙ h)

  all_read : (bytes : List ℕ) (entries : List E) → IsReadTo bytes [] entries → lines_of bytes ≡ map whole_line entries
  all_read bytes entries r = r.lines_are ∙ append-nil (map whole_line entries)

  -- no line is left, and none was an end
  pub read_open : (bytes : List ℕ) (entries : List E) → IsReadTo bytes [] entries → list_any g.is_end entries ≡ false → FirstFault test bytes (record { line = length entries + 1; kind = NoEnd })
  read_open bytes entries r none =
      let count : length (lines_of bytes) ≡ length entries = ap length (all_read bytes entries r) ∙ length-map entries whole_line in
      inr (
        subst (Pass test (lines_of bytes)) (sym count) r.pass,
        ap (list_any is_end_line) (all_read bytes entries r) ∙ any_end entries r.formed ∙ none,
        (λ i. record { line = sym count i + 1; kind = NoEnd }),
      )

  -- no line is left, and the last was an end
  pub read_all_lines : (bytes : List ℕ) (entries : List E) → IsReadTo bytes [] entries → list_any g.is_end entries ≡ true → IsWhole g entries × (bytes ≡ entries_text g entries)
  read_all_lines bytes entries r closed = (record { formed = r.formed; ends = r.ends closed }, text_of_lines bytes entries (all_read bytes entries r))
