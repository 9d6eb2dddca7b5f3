-- The lines of a representation that were read, and what is known after them.
use Rattle.std.proofs.Common.{◌≡◌, refl, ℕ, suc, ◌+◌, ◌-◌, ◌<◌, ◌≤◌, true, false, not, ◌||◌, nat_le, eqb, ◌==◌, Bool, List, [], ◌∷◌, ◌++◌, length, map, arith, ap, sym, ◌∙◌, subst, codes, decimal, None, Some, Option, if◌then◌else◌, Ok, append_assoc, inl, inr, ne_eqb, length-append}
use Rattle.std.specs.List.{list_all, list_any, slice_split, join_with_byte, flat_map}
use Rattle.std.specs.Option.{option_or}
use Rattle.std.proofs.lemmas.Bool.{and_parts, and_from, false≢true, leb-false}
use Rattle.std.proofs.lemmas.List.{append-nil, length-map, map-append}
use Rattle.std.proofs.lemmas.List.Folds.{list_any-append}
use Rattle.std.proofs.lemmas.List.Splits.{join_with_byte-slice_split}
use Rattle.src_sink.proofs.TextLines.{torn_line}
use Rattle.src_sink.specs.Texts.{TextLine, line_text, lines_between, lines_of, words_text}
use Rattle.frac128.specs.Text.{frac_text}
use Rattle.word_lines.specs.FirstFault.{Pass, fault_at, is_end_line}
use Rattle.word_lines.specs.declared.fault.LogKind.{LogKind}
use Rattle.word_lines.specs.declared.fault.LogKind.TheVariants.{BadLine, OutOfRange, NoEnd}
use Rattle.word_lines.proofs.Forms.{Words}
use Rattle.word_lines.proofs.Lines.{next_fault, pass_more}
use Rattle.rep_text.specs.Fits.{row_fits, row_held}
use Rattle.rep_text.specs.RepFault.{RepFirstFault, head_fault, rep_test, row_fault, row_under, words_in}
use Rattle.rep_text.specs.RepReading.{ReadsFirst, ReadsLine, ReadsRow, checked, is_width, place_fault, with_line}
use Rattle.rep_text.specs.RepText.{end_words, head_name, head_words, kind_name, row_words}
use Rattle.rep_text.specs.declared.reader.Head.{Head}
use Rattle.rep_text.specs.declared.reader.Reading.{Reading}
use Rattle.rep_text.specs.declared.rep.RepRow.{RepRow}
use Rattle.rep_text.proofs.RowWords.{line_of, checked_passes, end_by_name, head_passes, no_end_head, no_end_row, printed_end, printed_head, printed_row, row_passes, under_head}

-- ---- lines and their text

text_of_pieces : (pieces : List (List ℕ)) (lines : List Words) → lines_between pieces ≡ map line_of lines → join_with_byte 10 pieces ≡ flat_map line_text lines
text_of_pieces [] [] e = refl
text_of_pieces [] (o ∷ lines) e = cc
text_of_pieces (piece ∷ []) lines e = by (length piece == 0) refl lines e
  where
    empty : (p : List ℕ) → eqb (length p) 0 ≡ true → p ≡ []
    empty [] h = refl
    empty (x ∷ p) h = absurd (false≢true (sym (ne_eqb (length (x ∷ p)) 0 (λ none. absurd (omega (arith, none)))) ∙ h))

    by : (b : Bool) → eqb (length piece) 0 ≡ b → (ls : List Words) → (if b then [] else torn_line piece ∷ []) ≡ map line_of ls → piece ≡ flat_map line_text ls
    by true k [] e = empty piece k
    by true k (o ∷ ls) e = cc
    by false k [] e = cc
    by false k (o ∷ ls) e = let torn : torn_line piece ≡ line_of o = cc in absurd (false≢true (ap (λ (l : TextLine). l.whole) torn))
text_of_pieces (piece ∷ next ∷ pieces) [] e = cc
text_of_pieces (piece ∷ next ∷ pieces) (o ∷ lines) e =
    let first : record { text = piece; whole = true } ≡ line_of o = cc in
    let tails : lines_between (next ∷ pieces) ≡ map line_of lines = cc in
    let piece_is : piece ≡ words_text o = ap (λ (l : TextLine). l.text) first in
    (λ i. piece_is i ++ 10 ∷ text_of_pieces (next ∷ pieces) lines tails i) ∙ sym (append_assoc (words_text o) (10 ∷ []) (flat_map line_text lines))

-- a text with the lines of these words is theirs
pub text_of_lines : (bytes : List ℕ) (lines : List Words) → lines_of bytes ≡ map line_of lines → bytes ≡ flat_map line_text lines
text_of_lines bytes lines e = sym (join_with_byte-slice_split 10 bytes) ∙ text_of_pieces (slice_split (λ b. b == 10) bytes) lines e

-- ---- what was read

abbrev pub row_line : RepRow → TextLine
row_line row = line_of (row_words row)

abbrev pub end_lines : Bool → List TextLine
end_lines true = line_of end_words ∷ []
end_lines false = []

-- the lines that were read
abbrev pub done : Reading → List TextLine
done s = line_of (head_words s.head.gens s.head.width) ∷ (map row_line s.rows ++ end_lines s.ended)

-- the first lines were read so, and these are left
pub record IsReadTo (bytes : List ℕ) (rest : List TextLine) (s : Reading) : Type 0 where
  pub lines_are : lines_of bytes ≡ done s ++ rest
  pub pass : Pass rep_test (lines_of bytes) s.before
  pub count : length (done s) ≡ s.before
  pub few : s.before ≤ 10000
  pub wide : is_width s.head.width ≡ true
  pub fit : list_all (row_fits s.head.gens s.head.width) s.rows ≡ true
  pub held : list_all row_held s.rows ≡ true

-- ---- ends

no_row_ends : (rows : List RepRow) → list_all row_held rows ≡ true → list_any is_end_line (map row_line rows) ≡ false
no_row_ends [] h = refl
no_row_ends (row ∷ rows) h =
    let p = and_parts (row_held row) (list_all row_held rows) h in
    λ i. (end_by_name (kind_name row.kind) (map frac_text row.v) (printed_row row p.0) ∙ no_end_row row.kind) i || no_row_ends rows p.1 i

end_ends : (b : Bool) → list_any is_end_line (end_lines b) ≡ b
end_ends true = ap (λ b. b || false) (end_by_name (codes "end") [] printed_end)
end_ends false = refl

pub ends_alike : (s : Reading) → is_width s.head.width ≡ true → list_all row_held s.rows ≡ true → list_any is_end_line (done s) ≡ s.ended
ends_alike s wide held =
    let head = end_by_name (head_name s.head.gens) (decimal s.head.width ∷ []) (printed_head s.head.gens s.head.width wide) ∙ no_end_head s.head.gens in
    ap (λ b. b || list_any is_end_line (map row_line s.rows ++ end_lines s.ended)) head
    ∙ list_any-append is_end_line (map row_line s.rows) (end_lines s.ended)
    ∙ ap (λ b. b || list_any is_end_line (end_lines s.ended)) (no_row_ends s.rows held)
    ∙ end_ends s.ended

-- ---- the next line

splits : (a b : Bool) (o : Option LogKind) → (if a then Some OutOfRange else if b then Some BadLine else o) ≡ option_or (if a then Some OutOfRange else if b then Some BadLine else None) o
splits true b o = refl
splits false true o = refl
splits false false o = refl

-- the first test that the next line fails
abbrev pub next_test : Reading → TextLine → Option LogKind
next_test s l = option_or (place_fault s.before s.ended l.whole) (checked (row_fault s.head.gens s.head.width) l.text)

pub tested : (s : Reading) (l : TextLine) → length (done s) ≡ s.before → is_width s.head.width ≡ true → list_all row_held s.rows ≡ true → rep_test (done s) l ≡ next_test s l
tested s l count wide held =
    let words = words_in l in
    let fault : Option LogKind = row_under (words_in (line_of (head_words s.head.gens s.head.width))) words in
    ap (λ n. if nat_le 10000 n then Some OutOfRange else if list_any is_end_line (done s) || not l.whole then Some BadLine else if list_any (λ w. length w == 0) words then Some BadLine else fault) count
    ∙ ap (λ b. if nat_le 10000 s.before then Some OutOfRange else if b || not l.whole then Some BadLine else if list_any (λ w. length w == 0) words then Some BadLine else fault) (ends_alike s wide held)
    ∙ ap (λ o. if nat_le 10000 s.before then Some OutOfRange else if s.ended || not l.whole then Some BadLine else if list_any (λ w. length w == 0) words then Some BadLine else o) (under_head s.head.gens s.head.width words wide)
    ∙ splits (nat_le 10000 s.before) (s.ended || not l.whole) (checked (row_fault s.head.gens s.head.width) l.text)

pub fault_next : (bytes : List ℕ) (l : TextLine) (rest : List TextLine) (s : Reading) → IsReadTo bytes (l ∷ rest) s → fault_at rep_test (lines_of bytes) (s.before + 1) ≡ next_test s l
fault_next bytes l rest s r =
    (λ i. fault_at rep_test (r.lines_are i) (sym r.count i + 1)) ∙ next_fault rep_test (done s) l rest ∙ tested s l r.count r.wide r.held

-- the next line has the first fault
pub read_fault : (bytes : List ℕ) (l : TextLine) (rest : List TextLine) (s : Reading) (k : LogKind) → IsReadTo bytes (l ∷ rest) s → next_test s l ≡ Some k → RepFirstFault bytes (record { line = s.before + 1; kind = k })
read_fault bytes l rest s k r h =
    let back : s.before ≡ s.before + 1 - 1 = omega arith in
    inl (omega arith, subst (Pass rep_test (lines_of bytes)) back r.pass, fault_next bytes l rest s r ∙ h)

-- ---- a line more

place_tests : (a b c : Bool) → (if a then Some OutOfRange else if b || not c then Some BadLine else None) ≡ None → (a ≡ false) × (b ≡ false) × (c ≡ true)
place_tests true b c h = cc
place_tests false true c h = cc
place_tests false false true h = (refl, refl, refl)
place_tests false false false h = cc

all_push : {X : Type 0} (good : X → Bool) (xs : List X) (x : X) → list_all good xs ≡ true → good x ≡ true → list_all good (xs ++ x ∷ []) ≡ true
all_push good [] x h k = and_from (good x) true k refl
all_push good (y ∷ xs) x h k = let p = and_parts (good y) (list_all good xs) h in and_from (good y) _ p.0 (all_push good xs x p.1 k)

-- the words of a row that was read pass their tests
pub row_line_passes : (head : Head) (text : List ℕ) (row : Option RepRow) → ReadsRow head text (Ok row) → checked (row_fault head.gens head.width) text ≡ None
row_line_passes head text (Some row) h =
    ap (checked (row_fault head.gens head.width)) h.2
    ∙ checked_passes (row_fault head.gens head.width) (kind_name row.kind) (map frac_text row.v) (printed_row row h.1) (row_passes head.gens head.width row h.0 h.1)
row_line_passes head text None h =
    ap (checked (row_fault head.gens head.width)) h ∙ checked_passes (row_fault head.gens head.width) (codes "end") [] printed_end refl

line_is : (l : TextLine) (words : Words) → l.whole ≡ true → l.text ≡ words_text words → l ≡ line_of words
line_is l words h k = λ i. record { text = k i; whole = h i }

-- the lines with one more
done_more : (s : Reading) (l : TextLine) (row : Option RepRow) → s.ended ≡ false → l.whole ≡ true → ReadsRow s.head l.text (Ok row) → done (with_line s row) ≡ done s ++ l ∷ []
done_more s l (Some row) going whole h =
    let head = line_of (head_words s.head.gens s.head.width) in
    ap (λ ls. head ∷ ls) (
    ap (λ b. map row_line (s.rows ++ row ∷ []) ++ end_lines b) going
    ∙ append-nil (map row_line (s.rows ++ row ∷ []))
    ∙ map-append row_line s.rows (row ∷ [])
    ∙ ap (λ x. map row_line s.rows ++ x ∷ []) (sym (line_is l (row_words row) whole h.2))
    ∙ ap (λ ls. ls ++ l ∷ []) (sym (ap (λ b. map row_line s.rows ++ end_lines b) going ∙ append-nil (map row_line s.rows)))
    )
done_more s l None going whole h =
    let head = line_of (head_words s.head.gens s.head.width) in
    ap (λ ls. head ∷ ls) (
    ap (λ x. map row_line s.rows ++ x ∷ []) (sym (line_is l end_words whole h))
    ∙ ap (λ ls. ls ++ l ∷ []) (sym (ap (λ b. map row_line s.rows ++ end_lines b) going ∙ append-nil (map row_line s.rows)))
    )

counted : (s : Reading) (row : Option RepRow) → (with_line s row).before ≡ s.before + 1
counted s (Some row) = refl
counted s None = refl

pub read_next : (bytes : List ℕ) (l : TextLine) (rest : List TextLine) (s : Reading) (row : Option RepRow) → IsReadTo bytes (l ∷ rest) s → ReadsLine s.head s.before s.ended l.whole l.text row → IsReadTo bytes rest (with_line s row)
read_next bytes l rest s row r h =
    let t = place_tests (nat_le 10000 s.before) s.ended l.whole h.0 in
    let low : s.before < 10000 = leb-false 10000 s.before t.0 in
    let more = done_more s l row t.1 t.2 h.1 in
    let lines : lines_of bytes ≡ done (with_line s row) ++ rest =
    r.lines_are ∙ sym (append_assoc (done s) (l ∷ []) rest) ∙ ap (λ ls. ls ++ rest) (sym more) in
    let count : length (done (with_line s row)) ≡ s.before + 1 = ap length more ∙ length-append (done s) (l ∷ []) ∙ ap (λ n. n + 1) r.count in
    let passes : fault_at rep_test (lines_of bytes) (s.before + 1) ≡ None =
    fault_next bytes l rest s r ∙ ap (λ o. option_or o (checked (row_fault s.head.gens s.head.width) l.text)) h.0 ∙ row_line_passes s.head l.text row h.1 in
    let pass = pass_more rep_test (lines_of bytes) s.before r.pass passes in
    by row h.1 lines count pass (omega (arith, low))
  where
    by : (o : Option RepRow) → ReadsRow s.head l.text (Ok o) → lines_of bytes ≡ done (with_line s o) ++ rest → length (done (with_line s o)) ≡ s.before + 1 → Pass rep_test (lines_of bytes) (s.before + 1) → s.before + 1 ≤ 10000 → IsReadTo bytes rest (with_line s o)
    by (Some row) k lines count pass few = record {
      lines_are = lines;
      pass = pass;
      count = count;
      few = few;
      wide = r.wide;
      fit = all_push (row_fits s.head.gens s.head.width) s.rows row r.fit k.0;
      held = all_push row_held s.rows row r.held k.1;
    }
    by None k lines count pass few = record { lines_are = lines; pass = pass; count = count; few = few; wide = r.wide; fit = r.fit; held = r.held }

-- ---- the last line

-- no line is left, and none was an end
pub read_open : (bytes : List ℕ) (s : Reading) → IsReadTo bytes [] s → s.ended ≡ false → RepFirstFault bytes (record { line = s.before + 1; kind = NoEnd })
read_open bytes s r going =
    let all : lines_of bytes ≡ done s = r.lines_are ∙ append-nil (done s) in
    let count : length (lines_of bytes) ≡ s.before = ap length all ∙ r.count in
    inr (
      subst (Pass rep_test (lines_of bytes)) (sym count) r.pass,
      ap (list_any is_end_line) all ∙ ends_alike s r.wide r.held ∙ going,
      (λ i. record { line = sym count i + 1; kind = NoEnd }),
    )

-- no line is left, and the last was an end
pub read_all : (bytes : List ℕ) (s : Reading) → IsReadTo bytes [] s → s.ended ≡ true → (bytes ≡ flat_map line_text (head_words s.head.gens s.head.width ∷ (map row_words s.rows ++ end_words ∷ []))) × (length s.rows + 2 ≤ 10000)
read_all bytes s r closed =
    let lines : List Words = head_words s.head.gens s.head.width ∷ (map row_words s.rows ++ end_words ∷ []) in
    let rows : map row_line s.rows ≡ map line_of (map row_words s.rows) = mapped s.rows in
    let same : done s ≡ map line_of lines =
    ap (λ ls. line_of (head_words s.head.gens s.head.width) ∷ ls) (
    (λ i. rows i ++ end_lines (closed i)) ∙ sym (map-append line_of (map row_words s.rows) (end_words ∷ []))
    ) in
    let long : length (done s) ≡ length s.rows + 2 =
    ap length same ∙ length-map lines line_of ∙ ap suc (length-append (map row_words s.rows) (end_words ∷ []) ∙ ap (λ n. n + 1) (length-map s.rows row_words)) ∙ omega arith in
    (text_of_lines bytes lines (r.lines_are ∙ append-nil (done s) ∙ same), omega (arith, long, r.count, r.few))
  where
    mapped : (rows : List RepRow) → map row_line rows ≡ map line_of (map row_words rows)
    mapped [] = refl
    mapped (row ∷ rows) = ap (λ ls. row_line row ∷ ls) (mapped rows)

-- ---- the first line

-- the first test that the first line fails
abbrev pub first_test : Bool → List ℕ → Option LogKind
first_test whole text = if not whole then Some BadLine else checked head_fault text

pub first_fault : (bytes : List ℕ) (l : TextLine) (rest : List TextLine) → lines_of bytes ≡ l ∷ rest → fault_at rep_test (lines_of bytes) 1 ≡ first_test l.whole l.text
first_fault bytes l rest e = ap (λ ls. fault_at rep_test ls 1) e

pub first_refused : (bytes : List ℕ) (l : TextLine) (rest : List TextLine) (k : LogKind) → lines_of bytes ≡ l ∷ rest → first_test l.whole l.text ≡ Some k → RepFirstFault bytes (record { line = 1; kind = k })
first_refused bytes l rest k e h = inl (omega arith, (λ i low high. absurd (omega (arith, low, high))), first_fault bytes l rest e ∙ h)

pub first_read : (bytes : List ℕ) (l : TextLine) (rest : List TextLine) (s : Reading) → lines_of bytes ≡ l ∷ rest → ReadsFirst l.whole l.text s → IsReadTo bytes rest s
first_read bytes l rest s e h =
    let wide = h.1.0 in
    let line : l ≡ line_of (head_words s.head.gens s.head.width) = line_is l (head_words s.head.gens s.head.width) h.0 h.1.1 in
    let is_done : done s ≡ l ∷ [] = (λ i. sym line i ∷ (map row_line (h.2 i) ++ end_lines (h.4 i))) in
    let passes : first_test l.whole l.text ≡ None =
    ap (λ b. if not b then Some BadLine else checked head_fault l.text) h.0 ∙ ap (checked head_fault) h.1.1
    ∙ checked_passes head_fault (head_name s.head.gens) (decimal s.head.width ∷ []) (printed_head s.head.gens s.head.width wide) (head_passes s.head.gens s.head.width wide) in
    let before = h.3 in
    record {
      lines_are = e ∙ ap (λ ls. ls ++ rest) (sym is_done);
      pass = λ i low high. let at : 1 ≡ i = omega (arith, low, high, before) in subst (λ (j : ℕ). fault_at rep_test (lines_of bytes) j ≡ None) at (first_fault bytes l rest e ∙ passes);
      count = ap length is_done ∙ sym before;
      few = omega (arith, before);
      wide = wide;
      fit = ap (list_all (row_fits s.head.gens s.head.width)) h.2;
      held = ap (list_all row_held) h.2;
    }

-- a text without a line
pub none_read : (bytes : List ℕ) → lines_of bytes ≡ [] → RepFirstFault bytes (record { line = 1; kind = NoEnd })
none_read bytes e =
    inr ((λ i low high. absurd (omega (arith, low, high, ap length e))), ap (list_any is_end_line) e, (λ i. record { line = length (sym e i) + 1; kind = NoEnd }))
