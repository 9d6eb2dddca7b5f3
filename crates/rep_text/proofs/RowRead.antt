-- The words of a line of a representation, as they were taken.
use Rattle.std.proofs.Common.{◌≡◌, refl, ℕ, ◌^◌, ◌<◌, ◌≤◌, true, false, ◌&&◌, nat_le, ◌==◌, cond, Bool, List, [], ◌∷◌, ◌++◌, length, map, arith, ap, sym, ◌∙◌, codes, decimal, None, Some, Option, if◌then◌else◌, Ok, Err}
use Rattle.std.specs.List.{list_all, list_any, slice_split, flat_map}
use Rattle.std.specs.Option.{option_or}
use Rattle.std.specs.Str.Parse.{digits_value}
use Rattle.std.proofs.lemmas.Bool.{and_from, le-leb, lt-leb, ltb-true, eq-eqb}
use Rattle.std.proofs.lemmas.List.{append-nil}
use Rattle.std.proofs.lemmas.List.Splits.{join_with_byte-slice_split}
use Rattle.src_sink.specs.Texts.{words_text}
use Rattle.exact_field.specs.Rational.{ℚ}
use Rattle.frac128.specs.Held.{is_held}
use Rattle.frac128.specs.Text.{frac_text}
use Rattle.word_lines.specs.LineFault.{left_over, unless, word}
use Rattle.word_lines.specs.Numerals.{same_word, natural_fault}
use Rattle.word_lines.specs.Parts.{is_short}
use Rattle.word_lines.specs.declared.fault.LogKind.TheVariants.{BadLine, OutOfRange}
use Rattle.word_lines.proofs.Forms.{Words, one_each, word_passes}
use Rattle.word_lines.proofs.Numerals.{natural_passes, same_word-true, value_of_decimal}
use Rattle.rep_text.specs.Fits.{kind_fits, row_length}
use Rattle.rep_text.specs.RepFault.{kind_named, left_after_row, row_fault, width_fault}
use Rattle.rep_text.specs.RepReading.{ReadsRow, TakesRow, checked, is_width}
use Rattle.rep_text.specs.RepText.{head_name, head_words, kind_name}
use Rattle.rep_text.specs.declared.reader.Head.{Head}
use Rattle.rep_text.specs.declared.rep.RepKind.{RepKind}
use Rattle.rep_text.specs.declared.rep.RepKind.TheVariants.{Side, Equal, Line, Point, Direction}
use Rattle.rep_text.specs.declared.rep.RepRow.{RepRow}
use Rattle.rep_text.proofs.RowWords.{row_after, width_passes}

-- ---- the width

pub width_taken : (n : ℕ) (old new : Words) → 1 ≤ n → n ≤ 19 → (is_short n ≡ true) × (word natural_fault old ≡ Ok new) × (old ≡ (decimal n ∷ []) ++ new) → (is_width n ≡ true) × (word width_fault old ≡ Ok new) × (old ≡ decimal n ∷ new)
width_taken n old new low high h =
    let good : is_width n ≡ true = and_from (nat_le 1 n) (nat_le n 19) (le-leb 1 n low) (le-leb n 19 high) in
    (good, ap (word width_fault) h.2 ∙ word_passes width_fault (decimal n) new (width_passes n good), h.2)

pub width_fails : (n : ℕ) (old new : Words) → is_width n ≡ false → (is_short n ≡ true) × (word natural_fault old ≡ Ok new) × (old ≡ (decimal n ∷ []) ++ new) → word width_fault old ≡ Err OutOfRange
width_fails n old new bad h =
    let short = ltb-true n (2 ^ 32) h.0 in
    let fails : width_fault (decimal n) ≡ Some OutOfRange =
    ap (λ o. option_or o (if nat_le 1 (digits_value 10 (decimal n)) && nat_le (digits_value 10 (decimal n)) 19 then None else Some OutOfRange)) (natural_passes n short)
    ∙ ap (λ m. if nat_le 1 m && nat_le m 19 then None else Some OutOfRange) (value_of_decimal n (omega (arith, short)))
    ∙ ap (λ b. if b then None else Some OutOfRange) bad in
    ap (word width_fault) h.2 ∙ ap (λ o. unless o (Ok new)) fails

pub too_small : (n : ℕ) → n < 1 → is_width n ≡ false
too_small n h = ap (λ b. b && nat_le n 19) (lt-leb 1 n h)

pub too_large : (n : ℕ) → 19 < n → is_width n ≡ false
too_large n h = by (nat_le 1 n) (lt-leb n 19 h)
  where
    by : (a : Bool) → nat_le n 19 ≡ false → (a && nat_le n 19) ≡ false
    by true k = k
    by false k = refl

-- all words of the first line are those of its parts
pub head_read : (text name : List ℕ) (ws new : Words) (gens : Bool) (width : ℕ) → slice_split (λ b. b == 32) text ≡ name ∷ ws → name ≡ head_name gens → (is_width width ≡ true) × (word width_fault ws ≡ Ok new) × (ws ≡ decimal width ∷ new) → new ≡ [] → (is_width width ≡ true) × (text ≡ words_text (head_words gens width))
head_read text name ws new gens width cut named h left =
    let tail : ws ≡ decimal width ∷ [] = h.2 ∙ ap (λ v. decimal width ∷ v) left in
    (h.0, sym (join_with_byte-slice_split 32 text) ∙ ap words_text (cut ∙ (λ i. named i ∷ tail i)))

-- ---- rows

-- a kind by its word
pub kind_read : (gens : Bool) (name : List ℕ) (kind : RepKind) → kind_named gens name ≡ Some kind → (kind_fits gens kind ≡ true) × (name ≡ kind_name kind)
kind_read true name kind h = first (same_word name (codes "l")) refl h
  where
    third : (b : Bool) → same_word name (codes "0") ≡ b → (if b then Some Direction else None) ≡ Some kind → (kind_fits true kind ≡ true) × (name ≡ kind_name kind)
    third true e k = let is : Direction ≡ kind = cc in (ap (kind_fits true) (sym is), same_word-true name (codes "0") e ∙ ap kind_name is)
    third false e k = cc

    second : (b : Bool) → same_word name (codes "1") ≡ b → (if b then Some Point else if same_word name (codes "0") then Some Direction else None) ≡ Some kind → (kind_fits true kind ≡ true) × (name ≡ kind_name kind)
    second true e k = let is : Point ≡ kind = cc in (ap (kind_fits true) (sym is), same_word-true name (codes "1") e ∙ ap kind_name is)
    second false e k = third (same_word name (codes "0")) refl k

    first : (b : Bool) → same_word name (codes "l") ≡ b → (if b then Some Line else if same_word name (codes "1") then Some Point else if same_word name (codes "0") then Some Direction else None) ≡ Some kind → (kind_fits true kind ≡ true) × (name ≡ kind_name kind)
    first true e k = let is : Line ≡ kind = cc in (ap (kind_fits true) (sym is), same_word-true name (codes "l") e ∙ ap kind_name is)
    first false e k = second (same_word name (codes "1")) refl k
kind_read false name kind h = first (same_word name (codes "h")) refl h
  where
    second : (b : Bool) → same_word name (codes "e") ≡ b → (if b then Some Equal else None) ≡ Some kind → (kind_fits false kind ≡ true) × (name ≡ kind_name kind)
    second true e k = let is : Equal ≡ kind = cc in (ap (kind_fits false) (sym is), same_word-true name (codes "e") e ∙ ap kind_name is)
    second false e k = cc

    first : (b : Bool) → same_word name (codes "h") ≡ b → (if b then Some Side else if same_word name (codes "e") then Some Equal else None) ≡ Some kind → (kind_fits false kind ≡ true) × (name ≡ kind_name kind)
    first true e k = let is : Side ≡ kind = cc in (ap (kind_fits false) (sym is), same_word-true name (codes "h") e ∙ ap kind_name is)
    first false e k = second (same_word name (codes "e")) refl k

-- a row by its kind and numbers
pub row_taken : (head : Head) (name : List ℕ) (old new : Words) (kind : RepKind) (v : List ℚ) → kind_named head.gens name ≡ Some kind → (length v ≡ row_length head.width kind) × (list_all is_held v ≡ true) × (old ≡ flat_map (λ q. frac_text q ∷ []) v ++ new) → TakesRow head name old new (Ok (Some (record { kind = kind; v = v })))
row_taken head name old new kind v named h =
    let k = kind_read head.gens name kind named in
    (and_from (kind_fits head.gens kind) _ k.0 (eq-eqb (length v) (row_length head.width kind) h.0), h.1, k.1, h.2 ∙ ap (λ ws. ws ++ new) (one_each frac_text v))

-- the words that are left after it
taken_after : (head : Head) (name : List ℕ) (old new : Words) (row : Option RepRow) → TakesRow head name old new (Ok row) → left_after_row head.gens head.width name old ≡ Ok new
taken_after head name old new (Some row) h =
    (λ i. left_after_row head.gens head.width (h.2 i) (h.3 i)) ∙ row_after head.gens head.width row new h.0 h.1
taken_after head name old new None h = (λ i. left_after_row head.gens head.width (h.0 i) (h.1 i))

-- words that are left over
pub row_too_long : (head : Head) (text name : List ℕ) (ws new : Words) (w : List ℕ) (rest : Words) (row : Option RepRow) → list_any (λ v. length v == 0) (slice_split (λ b. b == 32) text) ≡ false → slice_split (λ b. b == 32) text ≡ name ∷ ws → TakesRow head name ws new (Ok row) → new ≡ w ∷ rest → checked (row_fault head.gens head.width) text ≡ Some BadLine
row_too_long head text name ws new w rest row none cut h left =
    ap (λ b. cond b (Some BadLine) (row_fault head.gens head.width (slice_split (λ b. b == 32) text))) none
    ∙ ap (row_fault head.gens head.width) cut
    ∙ ap left_over (taken_after head name ws new row h)
    ∙ ap (λ v. left_over (Ok v)) left

-- all words of a line are those of its row
pub row_read : (head : Head) (text name : List ℕ) (ws new : Words) (row : Option RepRow) → slice_split (λ b. b == 32) text ≡ name ∷ ws → TakesRow head name ws new (Ok row) → new ≡ [] → ReadsRow head text (Ok row)
row_read head text name ws new (Some row) cut h left =
    let tail : ws ≡ map frac_text row.v = h.3 ∙ ap (λ v. map frac_text row.v ++ v) left ∙ append-nil (map frac_text row.v) in
    (h.0, h.1, sym (join_with_byte-slice_split 32 text) ∙ ap words_text (cut ∙ (λ i. h.2 i ∷ tail i)))
row_read head text name ws new None cut h left =
    sym (join_with_byte-slice_split 32 text) ∙ ap words_text (cut ∙ (λ i. h.0 i ∷ (h.1 ∙ left) i))
