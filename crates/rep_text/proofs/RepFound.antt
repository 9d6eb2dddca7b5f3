-- Words that pass the tests of a line of a representation are those of its first line, of a row, or of its end.
use Rattle.std.proofs.Common.{◌≡◌, refl, ℕ, true, false, not, ◌&&◌, ◌||◌, nat_le, ◌==◌, Bool, List, [], ◌∷◌, length, map, ap, sym, ◌∙◌, codes, decimal, None, Some, Option, if◌then◌else◌, Ok, Err}
use Rattle.std.specs.List.{list_any, slice_split}
use Rattle.std.specs.Option.{option_or}
use Rattle.std.specs.Str.Parse.{digits_value}
use Rattle.std.proofs.lemmas.Bool.{and_from, eq-eqb}
use Rattle.std.proofs.lemmas.List.{append-nil}
use Rattle.std.proofs.lemmas.List.Splits.{join_with_byte-slice_split}
use Rattle.src_sink.specs.Texts.{TextLine, words_text}
use Rattle.frac128.specs.Text.{frac_text}
use Rattle.word_lines.specs.LineFault.{Left, left_over, times, word}
use Rattle.word_lines.specs.Numerals.{same_word, natural_fault, number_fault}
use Rattle.word_lines.specs.declared.fault.LogKind.{LogKind}
use Rattle.word_lines.specs.declared.fault.LogKind.TheVariants.{BadLine, OutOfRange}
use Rattle.word_lines.proofs.Forms.{Words, word_read}
use Rattle.word_lines.proofs.Numerals.{natural_text, same_word-true}
use Rattle.rep_text.specs.Fits.{kind_fits, row_length}
use Rattle.rep_text.specs.RepFault.{head_fault, is_head, kind_named, left_after_head, left_after_kind, left_after_row, row_fault, width_fault}
use Rattle.rep_text.specs.RepReading.{ReadsFirst, ReadsLine, ReadsRow, checked, is_width, place_fault}
use Rattle.rep_text.specs.RepText.{head_name, head_words}
use Rattle.rep_text.specs.declared.reader.Head.{Head}
use Rattle.rep_text.specs.declared.reader.Reading.{Reading}
use Rattle.rep_text.specs.declared.rep.RepKind.{RepKind}
use Rattle.rep_text.specs.declared.rep.RepRow.{RepRow}
use Rattle.rep_text.proofs.RepLines.{first_test, next_test}
use Rattle.rep_text.proofs.RowRead.{kind_read}
use Rattle.rep_text.proofs.RowWords.{numbers_taken}

nothing_left : (l : Left) → left_over l ≡ None → l ≡ Ok []
nothing_left (Ok []) h = refl
nothing_left (Ok (w ∷ words)) h = cc
nothing_left (Err k) h = cc

none_empty : (b : Bool) (o : Option LogKind) → (if b then Some BadLine else o) ≡ None → o ≡ None
none_empty true o h = cc
none_empty false o h = h

text_by : (text : List ℕ) (words : Words) → slice_split (λ b. b == 32) text ≡ words → text ≡ words_text words
text_by text words e = sym (join_with_byte-slice_split 32 text) ∙ ap words_text e

-- ---- the first line

name_found : (name : List ℕ) → is_head name ≡ true → (gens : Bool) × (name ≡ head_name gens)
name_found name h = first (same_word name (codes "sides")) refl h
  where
    second : (b : Bool) → same_word name (codes "gens") ≡ b → b ≡ true → (gens : Bool) × (name ≡ head_name gens)
    second true e k = (true, same_word-true name (codes "gens") e)
    second false e k = cc

    first : (b : Bool) → same_word name (codes "sides") ≡ b → (b || same_word name (codes "gens")) ≡ true → (gens : Bool) × (name ≡ head_name gens)
    first true e k = (false, same_word-true name (codes "sides") e)
    first false e k = second (same_word name (codes "gens")) refl k

width_tests : (o : Option LogKind) (b : Bool) → option_or o (if b then None else Some OutOfRange) ≡ None → (o ≡ None) × (b ≡ true)
width_tests None true h = (refl, refl)
width_tests None false h = cc
width_tests (Some k) b h = cc

width_found : (w : List ℕ) → width_fault w ≡ None → (width : ℕ) × (is_width width ≡ true) × (w ≡ decimal width)
width_found w h =
    let t = width_tests (natural_fault w) (nat_le 1 (digits_value 10 w) && nat_le (digits_value 10 w) 19) h in
    (digits_value 10 w, t.1, sym (natural_text w t.0).1)

-- the first line of these words
abbrev Heads : Words → Type 0
Heads words = (gens : Bool) × (width : ℕ) × (is_width width ≡ true) × (words ≡ head_words gens width)

words_head : (words : Words) → head_fault words ≡ None → Heads words
words_head [] h = cc
words_head (name ∷ ws) h = by (is_head name) refl (nothing_left (left_after_head name ws) h)
  where
    by : (b : Bool) → is_head name ≡ b → (if b then word width_fault ws else Err BadLine) ≡ Ok [] → Heads (name ∷ ws)
    by true e k =
        let n = name_found name e in
        let w = word_read width_fault ws [] k in
        let v = width_found w.0 w.1 in
        (n.0, v.0, v.1, (λ i. n.1 i ∷ (w.2 ∙ ap (λ x. x ∷ []) v.2) i))
    by false e k = cc

pub head_found : (text : List ℕ) → checked head_fault text ≡ None → (gens : Bool) × (width : ℕ) × (is_width width ≡ true) × (text ≡ words_text (head_words gens width))
head_found text h =
    let words = slice_split (λ b. b == 32) text in
    let found = words_head words (none_empty (list_any (λ w. length w == 0) words) (head_fault words) h) in
    (found.0, found.1, found.2, text_by text (head_words found.0 found.1) found.3)

first_tests : (w : Bool) (o : Option LogKind) → (if not w then Some BadLine else o) ≡ None → (w ≡ true) × (o ≡ None)
first_tests true o h = (refl, h)
first_tests false o h = cc

-- a first line that passes its tests
pub first_found : (l : TextLine) → first_test l.whole l.text ≡ None → (s : Reading) × ReadsFirst l.whole l.text s
first_found l h =
    let t = first_tests l.whole (checked head_fault l.text) h in
    let found = head_found l.text t.1 in
    (record { head = record { gens = found.0; width = found.1 }; rows = []; before = 1; ended = false }, (t.0, (found.2, found.3), refl, refl, refl))

-- ---- rows

-- the row, or the end, of these words
abbrev Rows : Head → Words → Type 0
Rows head words = (row : Option RepRow) × ((text : List ℕ) → text ≡ words_text words → ReadsRow head text (Ok row))

numbers_found : (head : Head) (name : List ℕ) (ws : Words) (kind : RepKind) → kind_named head.gens name ≡ Some kind → times (word number_fault) (row_length head.width kind) ws ≡ Ok [] → Rows head (name ∷ ws)
numbers_found head name ws kind e h =
    let v = numbers_taken (row_length head.width kind) ws [] h in
    let k = kind_read head.gens name kind e in
    let row : RepRow = record { kind = kind; v = v.0 } in
    let words : ws ≡ map frac_text v.0 = v.3 ∙ append-nil (map frac_text v.0) in (
      Some row,
      λ text is. (
        and_from (kind_fits head.gens kind) _ k.0 (eq-eqb (length v.0) (row_length head.width kind) v.1),
        v.2,
        is ∙ ap words_text (λ i. k.1 i ∷ words i),
      ),
    )

words_row : (head : Head) (words : Words) → row_fault head.gens head.width words ≡ None → Rows head words
words_row head [] h = cc
words_row head (name ∷ ws) h = by (same_word name (codes "end")) refl (nothing_left (left_after_row head.gens head.width name ws) h)
  where
    by_kind : (o : Option RepKind) → kind_named head.gens name ≡ o → left_after_kind head.width o ws ≡ Ok [] → Rows head (name ∷ ws)
    by_kind None e k = cc
    by_kind (Some kind) e k = numbers_found head name ws kind e k

    by : (b : Bool) → same_word name (codes "end") ≡ b → (if b then Ok ws else left_after_kind head.width (kind_named head.gens name) ws) ≡ Ok [] → Rows head (name ∷ ws)
    by true e k =
        let none : ws ≡ [] = cc in
        (None, λ text is. is ∙ ap words_text (λ i. same_word-true name (codes "end") e i ∷ none i))
    by false e k = by_kind (kind_named head.gens name) refl k

pub row_found : (head : Head) (text : List ℕ) → checked (row_fault head.gens head.width) text ≡ None → (row : Option RepRow) × ReadsRow head text (Ok row)
row_found head text h =
    let words = slice_split (λ b. b == 32) text in
    let found = words_row head words (none_empty (list_any (λ w. length w == 0) words) (row_fault head.gens head.width words) h) in
    (found.0, found.1 text (text_by text words refl))

both_none : (o p : Option LogKind) → option_or o p ≡ None → (o ≡ None) × (p ≡ None)
both_none None p h = (refl, h)
both_none (Some k) p h = cc

-- a line that passes its tests
pub next_found : (s : Reading) (l : TextLine) → next_test s l ≡ None → (row : Option RepRow) × ReadsLine s.head s.before s.ended l.whole l.text row
next_found s l h =
    let t = both_none (place_fault s.before s.ended l.whole) (checked (row_fault s.head.gens s.head.width) l.text) h in
    let found = row_found s.head l.text t.1 in
    (found.0, (t.0, found.1))
