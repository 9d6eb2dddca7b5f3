-- The words of the lines of a representation: they are cut back from their line, and pass its tests.
use Rattle.std.proofs.Common.{◌≡◌, refl, ℕ, ◌≤◌, true, false, ◌&&◌, nat_le, ◌==◌, cond, Bool, List, [], ◌∷◌, ◌++◌, length, map, arith, ap, sym, ◌∙◌, codes, decimal, None, Some, Option, if◌then◌else◌, Ok, Err}
use Rattle.std.specs.List.{list_all, list_any, slice_split}
use Rattle.std.specs.Option.{option_or}
use Rattle.std.specs.Str.Parse.{digits_value}
use Rattle.std.proofs.lemmas.Bool.{and_parts, eqb-true, leb-true}
use Rattle.std.proofs.lemmas.List.{append-nil}
use Rattle.src_sink.specs.Texts.{TextLine, words_text}
use Rattle.exact_field.specs.Rational.{ℚ}
use Rattle.frac128.specs.Held.{is_held}
use Rattle.frac128.specs.Text.{frac_text}
use Rattle.word_lines.specs.FirstFault.{is_end_line, first_word}
use Rattle.word_lines.specs.LineFault.{left_over, times, word}
use Rattle.word_lines.specs.Numerals.{same_word, number_fault}
use Rattle.word_lines.specs.declared.fault.LogKind.{LogKind}
use Rattle.word_lines.specs.declared.fault.LogKind.TheVariants.{BadLine, OutOfRange}
use Rattle.word_lines.proofs.Cutting.{Lacks, slice_split-join, Lacks-join}
use Rattle.word_lines.proofs.Forms.{Words, Reads, one_each, times_found, times_pass, word_passes, word_read}
use Rattle.word_lines.proofs.Fractions.{number_passes, number_text}
use Rattle.word_lines.proofs.Numerals.{natural_passes, value_of_decimal}
use Rattle.word_lines.proofs.PrintedWords.{IsPrinted, Printed, no_blanks, no_feeds, none_empty, printed_letters, printed_map, printed_natural, printed_number}
use Rattle.rep_text.specs.Fits.{kind_fits, row_fits, row_held, row_length}
use Rattle.rep_text.specs.RepFault.{head_fault, is_head, kind_named, left_after_kind, left_after_row, row_fault, row_under, width_fault, words_in}
use Rattle.rep_text.specs.RepReading.{checked, is_width}
use Rattle.rep_text.specs.RepText.{end_words, head_name, head_words, kind_name, row_words}
use Rattle.rep_text.specs.declared.rep.RepKind.{RepKind}
use Rattle.rep_text.specs.declared.rep.RepKind.TheVariants.{Side, Equal, Line, Point, Direction}
use Rattle.rep_text.specs.declared.rep.RepRow.{RepRow}

-- a line with these words
abbrev pub line_of : Words → TextLine
line_of words = record { text = words_text words; whole = true }

-- ---- words of a line are cut back

pub wide : (width : ℕ) → is_width width ≡ true → (1 ≤ width) × (width ≤ 19)
wide width h =
    let p = and_parts (nat_le 1 width) (nat_le width 19) h in
    (leb-true 1 width p.0, leb-true width 19 p.1)

printed_head_name : (gens : Bool) → IsPrinted (head_name gens)
printed_head_name true = printed_letters (codes "gens") (omega arith) refl
printed_head_name false = printed_letters (codes "sides") (omega arith) refl

pub printed_head : (gens : Bool) (width : ℕ) → is_width width ≡ true → Printed (head_words gens width)
printed_head gens width h =
    let w = wide width h in
    (printed_head_name gens, (printed_natural width (omega (arith, w.1)), tt))

printed_kind : (kind : RepKind) → IsPrinted (kind_name kind)
printed_kind Side = printed_letters (codes "h") (omega arith) refl
printed_kind Equal = printed_letters (codes "e") (omega arith) refl
printed_kind Line = printed_letters (codes "l") (omega arith) refl
printed_kind Point = printed_letters (codes "1") (omega arith) refl
printed_kind Direction = printed_letters (codes "0") (omega arith) refl

pub printed_row : (row : RepRow) → row_held row ≡ true → Printed (row_words row)
printed_row row h = (printed_kind row.kind, printed_map frac_text is_held printed_number row.v h)

pub printed_end : Printed end_words
printed_end = (printed_letters (codes "end") (omega arith) refl, tt)

pub cut_line : (w : List ℕ) (ws : Words) → Printed (w ∷ ws) → slice_split (λ b. b == 32) (words_text (w ∷ ws)) ≡ w ∷ ws
cut_line w ws h = let b = no_blanks (w ∷ ws) h in slice_split-join 32 w ws b.0 b.1

pub line_lacks : (ws : Words) → Printed ws → Lacks 10 (words_text ws)
line_lacks ws h = Lacks-join 10 32 ws (λ x. absurd (omega (arith, x))) (no_feeds ws h)

-- ---- which lines are ends

pub end_by_name : (w : List ℕ) (ws : Words) → Printed (w ∷ ws) → is_end_line (line_of (w ∷ ws)) ≡ same_word w (codes "end")
end_by_name w ws h = ap (λ words. same_word (first_word words) (codes "end")) (cut_line w ws h)

pub no_end_head : (gens : Bool) → same_word (head_name gens) (codes "end") ≡ false
no_end_head true = refl
no_end_head false = refl

pub no_end_row : (kind : RepKind) → same_word (kind_name kind) (codes "end") ≡ false
no_end_row Side = refl
no_end_row Equal = refl
no_end_row Line = refl
no_end_row Point = refl
no_end_row Direction = refl

-- ---- they pass their tests

-- words of which none is empty
pub checked_passes : (fault : Words → Option LogKind) (w : List ℕ) (ws : Words) → Printed (w ∷ ws) → fault (w ∷ ws) ≡ None → checked fault (words_text (w ∷ ws)) ≡ None
checked_passes fault w ws h k =
    ap (λ words. if list_any (λ v. length v == 0) words then Some BadLine else fault words) (cut_line w ws h)
    ∙ ap (λ b. cond b (Some BadLine) (fault (w ∷ ws))) (none_empty (w ∷ ws) h) ∙ k

numbers : Reads ℚ
numbers = record {
  step = word number_fault;
  words_of = λ q. frac_text q ∷ [];
  is_good = is_held;
  passes = λ q rest h. word_passes number_fault (frac_text q) rest (number_passes q h);
  found = λ words rest h. let k = word_read number_fault words rest h in let text = number_text k.0 k.1 in (text.0, text.1, k.2 ∙ ap (λ v. v ∷ rest) text.2);
}

pub numbers_pass : (v : List ℚ) (rest : Words) → list_all is_held v ≡ true → times (word number_fault) (length v) (map frac_text v ++ rest) ≡ Ok rest
unfolding numbers
numbers_pass v rest h =
    ap (λ ws. times (word number_fault) (length v) (ws ++ rest)) (sym (one_each frac_text v)) ∙ times_pass numbers v rest h

-- so many numbers stood first
pub numbers_taken : (n : ℕ) (words rest : Words) → times (word number_fault) n words ≡ Ok rest → (v : List ℚ) × (length v ≡ n) × (list_all is_held v ≡ true) × (words ≡ map frac_text v ++ rest)
unfolding numbers
numbers_taken n words rest h =
    let v = times_found numbers n words rest h in
    (v.0, v.1, v.2, v.3 ∙ ap (λ ws. ws ++ rest) (one_each frac_text v.0))

pub named_kind : (gens : Bool) (kind : RepKind) → kind_fits gens kind ≡ true → kind_named gens (kind_name kind) ≡ Some kind
named_kind true Side h = cc
named_kind true Equal h = cc
named_kind true Line h = refl
named_kind true Point h = refl
named_kind true Direction h = refl
named_kind false Side h = refl
named_kind false Equal h = refl
named_kind false Line h = cc
named_kind false Point h = cc
named_kind false Direction h = cc

-- they leave what stands after them
pub row_after : (gens : Bool) (width : ℕ) (row : RepRow) (rest : Words) → row_fits gens width row ≡ true → row_held row ≡ true → left_after_row gens width (kind_name row.kind) (map frac_text row.v ++ rest) ≡ Ok rest
row_after gens width row rest h k =
    let p = and_parts (kind_fits gens row.kind) (length row.v == row_length width row.kind) h in
    let long : length row.v ≡ row_length width row.kind = eqb-true (length row.v) (row_length width row.kind) p.1 in
    let ws : Words = map frac_text row.v ++ rest in
    ap (λ b. cond b (Ok ws) (left_after_kind width (kind_named gens (kind_name row.kind)) ws)) (no_end_row row.kind)
    ∙ ap (λ o. left_after_kind width o ws) (named_kind gens row.kind p.0)
    ∙ ap (λ n. times (word number_fault) n ws) (sym long)
    ∙ numbers_pass row.v rest k

pub row_passes : (gens : Bool) (width : ℕ) (row : RepRow) → row_fits gens width row ≡ true → row_held row ≡ true → row_fault gens width (row_words row) ≡ None
row_passes gens width row h k =
    ap (λ ws. left_over (left_after_row gens width (kind_name row.kind) ws)) (sym (append-nil (map frac_text row.v)))
    ∙ ap left_over (row_after gens width row [] h k)

head_known : (gens : Bool) → is_head (head_name gens) ≡ true
head_known true = refl
head_known false = refl

pub width_passes : (width : ℕ) → is_width width ≡ true → width_fault (decimal width) ≡ None
width_passes width h =
    let w = wide width h in
    ap (λ o. option_or o (if nat_le 1 (digits_value 10 (decimal width)) && nat_le (digits_value 10 (decimal width)) 19 then None else Some OutOfRange)) (natural_passes width (omega (arith, w.1)))
    ∙ ap (λ n. if nat_le 1 n && nat_le n 19 then None else Some OutOfRange) (value_of_decimal width (omega (arith, w.1)))
    ∙ ap (λ b. if b then None else Some OutOfRange) h

pub head_passes : (gens : Bool) (width : ℕ) → is_width width ≡ true → head_fault (head_words gens width) ≡ None
head_passes gens width h =
    ap (λ b. left_over (cond b (word width_fault (decimal width ∷ [])) (Err BadLine))) (head_known gens)
    ∙ ap left_over (word_passes width_fault (decimal width) [] (width_passes width h))

-- ---- the tests after a first line

gens_named : (gens : Bool) → same_word (head_name gens) (codes "gens") ≡ gens
gens_named true = refl
gens_named false = refl

pub under_head : (gens : Bool) (width : ℕ) (words : Words) → is_width width ≡ true → row_under (words_in (line_of (head_words gens width))) words ≡ row_fault gens width words
under_head gens width words h =
    let w = wide width h in
    ap (λ ws. row_under ws words) (cut_line (head_name gens) (decimal width ∷ []) (printed_head gens width h))
    ∙ ap (λ b. row_fault b (digits_value 10 (decimal width)) words) (gens_named gens)
    ∙ ap (λ n. row_fault gens n words) (value_of_decimal width (omega (arith, w.1)))
