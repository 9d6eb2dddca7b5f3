-- Each list of bytes is the text of entries or has a first fault, never both, and but one of either.
use Rattle.std.proofs.Common.{◌≡◌, refl, ℕ, zero, suc, ◌-◌, ◌<◌, ◌≤◌, true, false, not, ◌&&◌, ◌||◌, Bool, List, [], ◌∷◌, ◌++◌, length, map, take, arith, ap, sym, ◌∙◌, subst, None, Some, Option, ◌⊎◌, inl, inr, ⊎_elim, slice_get}
use Rattle.std.specs.List.{list_all, list_any}
use Rattle.std.proofs.lemmas.Bool.{and_parts, false≢true, cases_lt}
use Rattle.std.proofs.lemmas.Option.{slice_get_past}
use Rattle.src_sink.specs.Texts.{TextLine, lines_of}
use Rattle.word_lines.specs.FirstFault.{LineTest, line_test, is_end_line, fault_of_line, fault_at, Pass, IsFirstFault, FirstFault}
use Rattle.word_lines.specs.Grammar.{Grammar, is_formed, entry_text, ends_once, IsWhole, IsTextOf}
use Rattle.word_lines.specs.Laws.{OneReading}
use Rattle.word_lines.specs.LineFault.{line_fault}
use Rattle.word_lines.specs.declared.fault.LogFault.{LogFault}
use Rattle.word_lines.specs.declared.fault.LogKind.{LogKind}
use Rattle.word_lines.proofs.Entries.{line_passes}
use Rattle.word_lines.proofs.Lines.{whole_line, lines_of_entries, any_end, IsReadTo, read_none, read_next, read_fault, read_open, read_all_lines}
use Rattle.word_lines.proofs.OneEntry.{same_entry}
use Rattle.word_lines.proofs.Written.{IsComplete, line_written}

-- a line past the last has no fault
pub past : (test : LineTest) (lines : List TextLine) (i : ℕ) → length lines < i → fault_at test lines i ≡ None
past test lines i h = ap (fault_of_line test (take (i - 1) lines)) (slice_get_past lines (i - 1) (omega arith))

all_pass : (test : LineTest) (lines : List TextLine) (i : ℕ) → 1 ≤ i → Pass test lines (length lines) → fault_at test lines i ≡ None
all_pass test lines i low h = ⊎_elim (λ below. past test lines i below) (λ above. h i low (omega arith)) (cases_lt (length lines) i)

not_both : (test : LineTest) (lines : List TextLine) (i : ℕ) (k : LogKind) → fault_at test lines i ≡ None → fault_at test lines i ≡ Some k → ⊥
not_both test lines i k none some = no_kind (sym none ∙ some)
  where
    no_kind : None ≡ Some k → ⊥
    no_kind e = cc

fault_same : (f g : LogFault) → f.line ≡ g.line → f.kind ≡ g.kind → f ≡ g
fault_same f g line kind = λ i. record { line = line i; kind = kind i }

-- a text has but one first fault
pub one_first_fault : (test : LineTest) (lines : List TextLine) (f g : LogFault) → IsFirstFault test lines f → IsFirstFault test lines g → f ≡ g
one_first_fault test lines f g (inl h) (inl k) =
    let not_less : f.line < g.line → ⊥ = λ less. not_both test lines f.line f.kind (k.1 f.line h.0 (omega arith)) h.2 in
    let not_more : g.line < f.line → ⊥ = λ less. not_both test lines g.line g.kind (h.1 g.line k.0 (omega arith)) k.2 in
    let line : f.line ≡ g.line = omega arith in
    let kinds : Some f.kind ≡ Some g.kind = sym h.2 ∙ ap (fault_at test lines) line ∙ k.2 in
    fault_same f g line cc
one_first_fault test lines f g (inl h) (inr k) = absurd (not_both test lines f.line f.kind (all_pass test lines f.line h.0 k.0) h.2)
one_first_fault test lines f g (inr h) (inl k) = absurd (not_both test lines g.line g.kind (all_pass test lines g.line k.0 h.0) k.2)
one_first_fault test lines f g (inr h) (inr k) = h.2 ∙ sym k.2

-- no entry but the last is an end

before_end : {E : Type 0} (is_end : E → Bool) (entries : List E) (n : ℕ) → ends_once is_end entries ≡ true → n < length entries → list_any is_end (take n entries) ≡ false
before_end is_end [] n h low = absurd (omega arith)
before_end is_end (e ∷ entries) zero h low = refl
before_end is_end (e ∷ []) (suc n) h low = absurd (omega arith)
before_end is_end (e ∷ o ∷ entries) (suc n) h low =
    let p = and_parts (not (is_end e)) (ends_once is_end (o ∷ entries)) h in
    (λ i. is_not (is_end e) p.0 i || before_end is_end (o ∷ entries) n p.1 (omega arith) i)
  where
    is_not : (b : Bool) → not b ≡ true → b ≡ false
    is_not true k = cc
    is_not false k = refl

ends_somewhere : {E : Type 0} (is_end : E → Bool) (entries : List E) → ends_once is_end entries ≡ true → list_any is_end entries ≡ true
ends_somewhere is_end [] h = cc
ends_somewhere is_end (e ∷ []) h = ap (λ b. b || false) h
ends_somewhere is_end (e ∷ o ∷ entries) h =
    let p = and_parts (not (is_end e)) (ends_once is_end (o ∷ entries)) h in
    right (is_end e) (list_any is_end (o ∷ entries)) (ends_somewhere is_end (o ∷ entries) p.1)
  where
    right : (a b : Bool) → b ≡ true → (a || b) ≡ true
    right true b k = refl
    right false b k = k

module _ {E : Type 0} (g : Grammar E) (complete : IsComplete g) where
  abbrev test : LineTest
  test = line_test g.forms_of

  -- reading on, line by line

  abbrev Outcome : List ℕ → Type 0
  Outcome bytes = ((entries : List E) × IsTextOf g bytes entries) ⊎ ((f : LogFault) × FirstFault test bytes f)

  line_is : (l : TextLine) (e : E) → l.whole ≡ true → l.text ≡ entry_text g e → l ≡ whole_line g e
  line_is l e h k = λ i. record { text = k i; whole = h i }

  closes : (bytes : List ℕ) (entries : List E) (b : Bool) → list_any g.is_end entries ≡ b → IsReadTo g bytes [] entries → Outcome bytes
  closes bytes entries true e r = inl (entries, read_all_lines g bytes entries r e)
  closes bytes entries false e r = inr (_, read_open g bytes entries r e)

  reads : (bytes : List ℕ) (rest : List TextLine) (entries : List E) → IsReadTo g bytes rest entries → Outcome bytes
  reads bytes [] entries r = closes bytes entries (list_any g.is_end entries) refl r
  reads bytes (l ∷ rest) entries r = by (λ e k. reads bytes rest (entries ++ e ∷ []) k) (line_fault g.forms_of (list_any g.is_end entries) l.whole l.text) refl
    where
      by : ((e : E) → IsReadTo g bytes rest (entries ++ e ∷ []) → Outcome bytes) → (o : Option LogKind) → line_fault g.forms_of (list_any g.is_end entries) l.whole l.text ≡ o → Outcome bytes
      by more (Some k) h = inr (_, read_fault g bytes l rest entries k r h)
      by more None h =
          let w = line_written g complete (list_any g.is_end entries) l.whole l.text h in
          more w.2.0 (read_next g bytes l rest entries w.2.0 r w.0 w.2.1 (line_is l w.2.0 w.1 w.2.2))

  formed_front : (n : ℕ) (entries : List E) → list_all (is_formed g) entries ≡ true → list_all (is_formed g) (take n entries) ≡ true
  formed_front zero entries h = refl
  formed_front (suc n) [] h = refl
  formed_front (suc n) (e ∷ entries) h =
      let p = and_parts (is_formed g e) (list_all (is_formed g) entries) h in
      (λ i. p.0 i && formed_front n entries p.1 i)

  front_of_lines : (n : ℕ) (entries : List E) → take n (map (whole_line g) entries) ≡ map (whole_line g) (take n entries)
  front_of_lines zero entries = refl
  front_of_lines (suc n) [] = refl
  front_of_lines (suc n) (e ∷ entries) = ap (λ ls. whole_line g e ∷ ls) (front_of_lines n entries)

  line_passes_at : (entries : List E) (n : ℕ) → list_all (is_formed g) entries ≡ true → (before : List TextLine) → (n < length entries → list_any is_end_line before ≡ false) → fault_of_line test before (slice_get (map (whole_line g) entries) n) ≡ None
  line_passes_at [] n h before e = refl
  line_passes_at (o ∷ entries) zero h before e =
      let p = and_parts (is_formed g o) (list_all (is_formed g) entries) h in
      ap (λ c. line_fault g.forms_of c true (entry_text g o)) (e (omega arith)) ∙ line_passes g o p.0
  line_passes_at (o ∷ entries) (suc n) h before e =
      let p = and_parts (is_formed g o) (list_all (is_formed g) entries) h in
      line_passes_at entries n p.1 before (λ low. e (omega arith))

  -- no line of a text has a fault
  entries_pass : (entries : List E) → IsWhole g entries → (i : ℕ) → fault_at test (map (whole_line g) entries) i ≡ None
  entries_pass entries h i =
      let before : i - 1 < length entries → list_any is_end_line (take (i - 1) (map (whole_line g) entries)) ≡ false =
      λ low. ap (list_any is_end_line) (front_of_lines (i - 1) entries) ∙ any_end g (take (i - 1) entries) (formed_front (i - 1) entries h.formed) ∙ before_end g.is_end entries (i - 1) h.ends low in
      line_passes_at entries (i - 1) h.formed (take (i - 1) (map (whole_line g) entries)) before

  text_passes : (bytes : List ℕ) (entries : List E) → IsTextOf g bytes entries → (lines_of bytes ≡ map (whole_line g) entries)
  text_passes bytes entries h = ap lines_of h.1 ∙ lines_of_entries g entries h.0.formed

  apart_by : (entries : List E) (f : LogFault) → IsWhole g entries → IsFirstFault test (map (whole_line g) entries) f → ⊥
  apart_by entries f h (inl k) = let none = entries_pass entries h f.line in cc_none _ (sym none ∙ k.2)
    where
      cc_none : (k : LogKind) → None ≡ Some k → ⊥
      cc_none k e = cc
  apart_by entries f h (inr k) = false≢true (sym k.1 ∙ any_end g entries h.formed ∙ ends_somewhere g.is_end entries h.ends)

  apart : (bytes : List ℕ) (entries : List E) (f : LogFault) → IsTextOf g bytes entries → FirstFault test bytes f → ⊥
  apart bytes entries f h k = apart_by entries f h.0 (subst (λ ls. IsFirstFault test ls f) (text_passes bytes entries h) k)

  same_lines : (entries others : List E) → list_all (is_formed g) entries ≡ true → list_all (is_formed g) others ≡ true → map (whole_line g) entries ≡ map (whole_line g) others → entries ≡ others
  same_lines [] [] h k e = refl
  same_lines [] (o ∷ others) h k e = cc
  same_lines (e ∷ entries) [] h k same = cc
  same_lines (e ∷ entries) (o ∷ others) h k same =
      let p = and_parts (is_formed g e) (list_all (is_formed g) entries) h in
      let q = and_parts (is_formed g o) (list_all (is_formed g) others) k in
      let first : whole_line g e ≡ whole_line g o = cc in
      let heads = same_entry g complete e o p.0 q.0 (ap (λ (l : TextLine). l.text) first) in
      let tails = same_lines entries others p.1 q.1 (cc) in
      λ i. heads i ∷ tails i

  one_list : (bytes : List ℕ) (entries others : List E) → IsTextOf g bytes entries → IsTextOf g bytes others → entries ≡ others
  one_list bytes entries others h k =
      same_lines entries others h.0.formed k.0.formed (sym (text_passes bytes entries h) ∙ text_passes bytes others k)

  pub one_reading : OneReading g
  one_reading = record {
    total = λ bytes. reads bytes (lines_of bytes) [] (read_none g bytes);
    apart = apart;
    one_list = one_list;
    one_fault = λ bytes f h a b. one_first_fault test (lines_of bytes) f h a b;
  }
