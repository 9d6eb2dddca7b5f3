-- The words of natural numbers: a numeral is what its value prints as, and what a number prints as is a
-- numeral.
use Rattle.std.proofs.Common.{◌≡◌, refl, ℕ, zero, suc, ◌+◌, ◌*◌, ◌/◌, ◌%◌, ◌^◌, ◌<◌, ◌≤◌, true, false, not, ◌||◌, nat_lt, eqb, cond, Bool, List, [], ◌∷◌, ◌++◌, length, get_or, arith, ap, sym, ◌∙◌, decimal, codes, None, Some, ne_eqb, append_assoc, if◌then◌else◌}
use Rattle.std.specs.Str.{all_ascii_digits}
use Rattle.std.specs.Str.Parse.{AllDigits, digits_value, digits_value_after}
use Rattle.std.specs.Char.{digit_value}
use Rattle.std.proofs.lemmas.Bool.{and_parts, and_from, or_right, le-ltb, lt-ltb, ltb-false, eqb-true}
use Rattle.std.proofs.lemmas.Bool.Decides.{nat_tests}
use Rattle.std.proofs.lemmas.Fmt.{decimal_is_IsNumeral_wide, decimal_step_wide, decimal_by_steps_wide, decimal_digit}
use Rattle.std.proofs.lemmas.List.{append-nil}
use Rattle.std.proofs.lemmas.Str.{digit_value_digit}
use Rattle.std.proofs.lemmas.Str.Parse.{IsNumeralModel, numerals_by_value, tells_all_ascii_digits, digit_from_value}
use Rattle.word_lines.specs.Numerals.{same_word, is_numeral, is_positive_numeral, natural_fault}
use Rattle.word_lines.specs.declared.fault.LogKind.TheVariants.{BadNumber, OutOfRange}

own : IsNumeralModel (λ ds. all_ascii_digits ds ≡ true) (digits_value 10)
own = numerals_by_value _ tells_all_ascii_digits

pub all_digits : (ds : List ℕ) → all_ascii_digits ds ≡ true → AllDigits 10 ds
all_digits ds h = own.to ds h

pub same_word-true : (v w : List ℕ) → same_word v w ≡ true → v ≡ w
same_word-true [] [] h = refl
same_word-true [] (y ∷ w) h = absurd cc
same_word-true (x ∷ v) [] h = absurd cc
same_word-true (x ∷ v) (y ∷ w) h =
    let p = and_parts (eqb x y) (same_word v w) h in
    let heads : x ≡ y = eqb-true x y p.0 in
    let tails = same_word-true v w p.1 in
    cc

le_value_after : (n : ℕ) (ds : List ℕ) → n ≤ digits_value_after 10 n ds
le_value_after n [] = omega arith
le_value_after n (c ∷ cs) = omega (arith, le_value_after (n * 10 + digit_value c) cs)

decimal_after : (n : ℕ) (ds : List ℕ) → 0 < n → AllDigits 10 ds → digits_value_after 10 n ds < 10 ^ 64 → decimal (digits_value_after 10 n ds) ≡ decimal n ++ ds
decimal_after n [] some d small = sym (append-nil (decimal n))
decimal_after n (c ∷ cs) some d small =
    let m : ℕ = n * 10 + digit_value c in
    let k = digit_value_digit c (digit_from_value c d.0) in
    let front : m / 10 ≡ n = omega (arith, d.0) in
    let end : 48 + m % 10 ≡ c = omega (arith, d.0) in
    decimal_after m cs (omega arith) d.1 small
    ∙ ap (λ x. x ++ cs) (decimal_step_wide m (omega arith) (omega (arith, le_value_after m cs)) ∙ (λ i. decimal (front i) ++ (end i ∷ [])))
    ∙ append_assoc (decimal n) (c ∷ []) cs

-- digits without a leading zero are what their value prints as
pub positive_text : (ds : List ℕ) → is_positive_numeral ds ≡ true → digits_value 10 ds < 10 ^ 64 → (decimal (digits_value 10 ds) ≡ ds) × (0 < digits_value 10 ds)
positive_text [] h small = absurd cc
positive_text (c ∷ cs) h small =
    let p = and_parts (nat_lt 0 (length (c ∷ cs))) _ h in
    let q = and_parts (all_ascii_digits (c ∷ cs)) (not (eqb c 48)) p.1 in
    let d = all_digits (c ∷ cs) q.0 in
    let k = digit_value_digit c (digit_from_value c d.0) in
    let no : c ≡ 48 → ⊥ = grind (arith, nat_tests) in
    let is : 48 + (0 * 10 + digit_value c) ≡ c = omega arith in
    let low : 0 < 0 * 10 + digit_value c = omega arith in (
      decimal_after (0 * 10 + digit_value c) cs low d.1 small
          ∙ ap (λ x. x ++ cs) (decimal_digit (0 * 10 + digit_value c) (omega (arith, d.0)) ∙ ap (λ x. x ∷ []) is),
      omega (arith, le_value_after (0 * 10 + digit_value c) cs),
    )

-- digits that do not begin with `0`, where their number is not 0
abbrev pub leads : ℕ → List ℕ → Type 0
leads n ds = (0 < length ds) × (0 < n → 48 < get_or ds 0 0)

leads_more : (m : ℕ) (ds : List ℕ) → 10 ≤ m → leads (m / 10) ds → leads m (ds ++ (48 + m % 10) ∷ [])
leads_more m [] l h = absurd (omega arith)
leads_more m (c ∷ ds) l h = (omega arith, λ _. h.1 (omega arith))

pub decimal_leads : (n : ℕ) → n < 10 ^ 64 → leads n (decimal n)
decimal_leads n small = decimal_by_steps_wide leads (λ m h. (omega arith, λ some. omega arith)) leads_more n small

-- what a number prints as has its value, and is a numeral; that of a positive number does not begin with `0`
pub decimal_numeral : (n : ℕ) → n < 10 ^ 64 → 0 < n → is_positive_numeral (decimal n) ≡ true
decimal_numeral n small some =
    let lead = decimal_leads n small in
    let digits = own.from (decimal n) (decimal_is_IsNumeral_wide n small).0.1 in
    let first : 48 < get_or (decimal n) 0 0 = lead.1 some in
    and_from (nat_lt 0 (length (decimal n))) _ (lt-ltb 0 (length (decimal n)) lead.0)
    (and_from (all_ascii_digits (decimal n)) _ digits (ap not (ne_eqb (get_or (decimal n) 0 0) 48 (omega arith))))

pub value_of_decimal : (n : ℕ) → n < 10 ^ 64 → digits_value 10 (decimal n) ≡ n
value_of_decimal n small = (decimal_is_IsNumeral_wide n small).1

-- what 0 prints as
pub decimal_zero : decimal 0 ≡ codes "0"
decimal_zero = decimal_digit 0 (omega arith)

pub is_numeral_decimal : (n : ℕ) → n < 10 ^ 64 → is_numeral (decimal n) ≡ true
is_numeral_decimal zero small = ap is_numeral decimal_zero
is_numeral_decimal (suc n) small = or_right (same_word (decimal (suc n)) (codes "0")) (is_positive_numeral (decimal (suc n))) (decimal_numeral (suc n) small (omega arith))

natural_by : (n v : ℕ) (b : Bool) → b ≡ true → v ≡ n → n < 2 ^ 32 → (if not b then Some BadNumber else if nat_lt 4294967295 v then Some OutOfRange else None) ≡ None
natural_by n v true h same low = ap (λ (t : Bool). cond t (Some OutOfRange) None) (le-ltb 4294967295 v (omega arith))
natural_by n v false h same low = absurd cc

-- what a number of 32 bits prints as passes the tests of a natural number
pub natural_passes : (n : ℕ) → n < 2 ^ 32 → natural_fault (decimal n) ≡ None
natural_passes n low = natural_by n _ (is_numeral (decimal n)) (is_numeral_decimal n (omega arith)) (value_of_decimal n (omega arith)) low

numeral_text : (w : List ℕ) → is_numeral w ≡ true → digits_value 10 w < 10 ^ 64 → decimal (digits_value 10 w) ≡ w
numeral_text w h small = by (same_word w (codes "0")) refl
  where
    by : (b : Bool) → same_word w (codes "0") ≡ b → decimal (digits_value 10 w) ≡ w
    by true e = let same = same_word-true w (codes "0") e in ap (λ v. decimal (digits_value 10 v)) same ∙ decimal_zero ∙ sym same
    by false e = (positive_text w (ap (λ b. b || is_positive_numeral w) (sym e) ∙ h) small).0

natural_tests : (v : ℕ) (b : Bool) → (if not b then Some BadNumber else if nat_lt 4294967295 v then Some OutOfRange else None) ≡ None → (b ≡ true) × (nat_lt 4294967295 v ≡ false)
natural_tests v true h = (refl, by (nat_lt 4294967295 v) h)
  where
    by : (t : Bool) → (if t then Some OutOfRange else None) ≡ None → t ≡ false
    by true e = cc
    by false e = refl
natural_tests v false h = cc

-- a word that passes them is what its value prints as
pub natural_text : (w : List ℕ) → natural_fault w ≡ None → (digits_value 10 w < 2 ^ 32) × (decimal (digits_value 10 w) ≡ w)
natural_text w h =
    let t = natural_tests (digits_value 10 w) (is_numeral w) h in
    let low : digits_value 10 w ≤ 4294967295 = ltb-false 4294967295 (digits_value 10 w) t.1 in
    (omega arith, numeral_text w t.0 (omega arith))
