-- The word of a number, read as this number.
use Rattle.std.proofs.Common.{◌≡◌, refl, ℕ, zero, suc, ◌+◌, ◌-◌, ◌*◌, ◌/◌, ◌%◌, ◌^◌, ◌<◌, ◌≤◌, inl, inr, Bool, true, false, ◌&&◌, ◌||◌, ◌==◌, nat_lt, if◌then◌else◌, ℤ, pos, negsuc, neg_ℤ, ◌+ℤ◌, ◌-ℤ◌, ◌*ℤ◌, List, [], ◌∷◌, ◌++◌, length, decimal, codes, Option, None, Some, is_some, Ok, Err, arith, ap, sym, ◌∙◌, subst}
use Rattle.std.specs.List.{before_first}
use Rattle.std.specs.Str.{all_ascii_digits}
use Rattle.std.specs.Str.Parse.{digits_value, starts_with_minus, without_leading_sign}
use Rattle.std.proofs.lemmas.Bool.{and_parts, and_from, cond-true, cond-false, lt-ltb, ltb-true, eqb-true, cases_Bool, cases_lt, cases_eq, or_cases, false≢true}
use Rattle.std.proofs.lemmas.Fmt.{decimal_step_wide, decimal_digit, length-decimal-le_wide}
use Rattle.std.proofs.lemmas.Int.{ints}
use Rattle.std.proofs.lemmas.List.{append_assoc, append-nil}
use Rattle.std.proofs.lemmas.Nat.{pow-add}
use Rattle.std.proofs.lemmas.Option.{none-some, same_Some}
use Rattle.exact_field.specs.Rational.{ℚ, fraction, zero_ℚ}
use Rattle.exact_field.proofs.Integers.{mul-one_ℤ, neg-mul_ℤ}
use Rattle.exact_field.proofs.RationalLaws.{fraction_same, fraction-one, represented_is}
use Rattle.exact_field.specs.Ring.{◌⊗◌, v0, v1, v2}
use Rattle.exact_field.proofs.RingTool.{ring, integers}
use Rattle.frac128.specs.Held.{is_held}
use Rattle.frac128.specs.Signed.{signed}
use Rattle.vlp_reader.specs.Number.{is_natural, is_e, exponent_of, significant, power, scaled, number_at, number_from, number_of, held_number, without_leading_zeros, without_trailing_zeros}
use Rattle.vlp_reader.specs.declared.fault.FileKind.TheVariants.{NumberWide}
use Rattle.vlp_reader.proofs.Powers.{number_in, power_positive}
use Rattle.vlp_reader.proofs.Zeros.{length-trailing, trailing-zero, nothing}
use Rattle.vlp_printer.specs.Decimal.{places, places_from, mantissa, is_short, decimal_at, decimal_of, decimal_text, number_text, is_decimal}
use Rattle.vlp_printer.proofs.ReadDigits.{all_digits, some_digit, value_back, no_leading_zero, trailing_value, unsigned_text, whole_exponent, exponent_back, parts_back, front_alone, front_of}

-- a whole number times a power of ten over another is one fraction
pub scaled_is : (m : ℤ) (z k : ℕ) → scaled m (pos z -ℤ pos k) ≡ fraction (m *ℤ pos (10 ^ z)) (10 ^ k)
scaled_is m z k = elim (cases_lt z k) [
  | inl less ↦
      let d : ℕ = k - z - 1 in
      let form : pos z -ℤ pos k ≡ negsuc d = omega (arith, ints) in
      let gap : k ≡ z + (d + 1) = omega arith in
      ap (scaled m) form
      ∙ (fraction_same m (m *ℤ pos (10 ^ z)) (10 ^ (d + 1)) (10 ^ k) (power_positive (d + 1)) (power_positive k)).1
      (ap (λ (n : ℕ). m *ℤ pos n) (ap (λ (n : ℕ). 10 ^ n) gap ∙ pow-add 10 z (d + 1)) ∙ ring integers (m ∷ pos (10 ^ z) ∷ pos (10 ^ (d + 1)) ∷ []) (v0 ⊗ (v1 ⊗ v2)) (v0 ⊗ v1 ⊗ v2) refl)
  | inr more ↦
      let d : ℕ = z - k in
      let form : pos z -ℤ pos k ≡ pos d = omega (arith, ints) in
      let gap : z ≡ d + k = omega arith in
      ap (scaled m) form ∙ sym (fraction-one (m *ℤ pos (10 ^ d)))
      ∙ (fraction_same (m *ℤ pos (10 ^ d)) (m *ℤ pos (10 ^ z)) 1 (10 ^ k) (omega arith) (power_positive k)).1
      (ring integers (m ∷ pos (10 ^ d) ∷ pos (10 ^ k) ∷ []) (v0 ⊗ v1 ⊗ v2) (v0 ⊗ (v1 ⊗ v2)) refl ∙ ap (λ (n : ℕ). m *ℤ pos n) (sym (pow-add 10 d k) ∙ ap (λ (n : ℕ). 10 ^ n) (sym gap)) ∙ sym (mul-one_ℤ (m *ℤ pos (10 ^ z))))
]

-- ---- mantissas
-- at most 37 digits, and a number with 37 ends with 0
pub below_37 : (a : ℕ) → (nat_lt a (10 ^ 36) || a % 10 == 0 && nat_lt a (10 ^ 37)) ≡ true → a < 10 ^ 37
below_37 a h = elim (or_cases (nat_lt a (10 ^ 36)) (a % 10 == 0 && nat_lt a (10 ^ 37)) h) [
  | inl small ↦ let less = ltb-true a (10 ^ 36) small in omega arith
  | inr long ↦ ltb-true a (10 ^ 37) (and_parts (a % 10 == 0) (nat_lt a (10 ^ 37)) long).1
]

-- so it has at most 36 significant digits
few_digits : (a : ℕ) → 0 < a → (nat_lt a (10 ^ 36) || a % 10 == 0 && nat_lt a (10 ^ 37)) ≡ true → length (without_trailing_zeros (decimal a)) ≤ 36
few_digits a some h = elim (or_cases (nat_lt a (10 ^ 36)) (a % 10 == 0 && nat_lt a (10 ^ 37)) h) [
  | inl small ↦
      let less : a < 10 ^ 36 = ltb-true a (10 ^ 36) small in
      let count : length (decimal a) ≤ 36 = length-decimal-le_wide 36 a (omega arith) less (omega arith) in
      let fewer = length-trailing (decimal a) in
      omega arith
  | inr long ↦
      let parts = and_parts (a % 10 == 0) (nat_lt a (10 ^ 37)) long in
      let less : a < 10 ^ 37 = ltb-true a (10 ^ 37) parts.1 in
      let zero_digit : a % 10 ≡ 0 = eqb-true (a % 10) 0 parts.0 in
      let large : 10 ≤ a = omega arith in
      let front : a / 10 < 10 ^ 36 = omega arith in
      let count : length (decimal (a / 10)) ≤ 36 = length-decimal-le_wide 36 (a / 10) (omega arith) front (omega arith) in
      let fewer = length-trailing (decimal (a / 10)) in
      let same : without_trailing_zeros (decimal a) ≡ without_trailing_zeros (decimal (a / 10)) =
      ap without_trailing_zeros (decimal_step_wide a large (omega arith)) ∙ trailing-zero (decimal (a / 10)) (48 + a % 10) (omega arith) in
      omega (arith, ap length same)
]

-- the significant digits of a mantissa times the power of ten that they leave
digits_back : (a k : ℕ) (negative : Bool) → 0 < a → k ≤ 36 → (nat_lt a (10 ^ 36) || a % 10 == 0 && nat_lt a (10 ^ 37)) ≡ true
    → number_from negative (decimal a) 0 (Some (neg_ℤ (pos k))) ≡ held_number (fraction (signed negative a) (10 ^ k))
digits_back a k negative some short h =
    let ds = decimal a in
    let s = without_trailing_zeros ds in
    let z : ℕ = length ds - length s in
    let wide : a < 10 ^ 37 = below_37 a h in
    let digits = all_digits a (omega arith) in
    let lead : without_leading_zeros ds ≡ ds = no_leading_zero a some (omega arith) in
    let significant_is : significant ds ≡ s = ap without_trailing_zeros lead in
    let count : length ds ≤ 37 = length-decimal-le_wide 37 a (omega arith) wide (omega arith) in
    let few : length s ≤ 36 = few_digits a some h in
    let value : digits_value 10 s * 10 ^ z ≡ a = sym (trailing_value 0 ds) ∙ value_back a (omega arith) in
    let nonempty : length s ≡ 0 → ⊥ = λ e. absurd (omega (arith, some, sym value ∙ ap (λ (l : List ℕ). digits_value 10 l * 10 ^ z) (nothing s e))) in
    let small : z ≤ 36 = omega arith in
    let power_is : power ds 0 (neg_ℤ (pos k)) ≡ pos z -ℤ pos k =
    ap (λ (n : ℕ). neg_ℤ (pos k) -ℤ pos 0 +ℤ pos n) (ap (λ (l : List ℕ). length l - length (without_trailing_zeros l)) lead) ∙ power_sum z k in
    cond-true (is_natural ds) _ _ (and_from _ _ (lt-ltb 0 (length ds) (some_digit a (omega arith))) digits)
    ∙ ap (λ (p : ℤ). number_at negative (significant ds) p) power_is ∙ ap (λ (l : List ℕ). number_at negative l (pos z -ℤ pos k)) significant_is
    ∙ number_in negative s (pos z -ℤ pos k) nonempty few (omega (arith, ints)) (omega (arith, ints))
    ∙ ap held_number (scaled_is (signed negative (digits_value 10 s)) z k ∙ ap (λ (m : ℤ). fraction m (10 ^ k)) (signed_times negative (digits_value 10 s) (10 ^ z) ∙ ap (signed negative) value))
  where
    power_sum : (z k : ℕ) → neg_ℤ (pos k) -ℤ pos 0 +ℤ pos z ≡ pos z -ℤ pos k
    power_sum z k = omega (arith, ints)

    signed_times : (negative : Bool) (n t : ℕ) → signed negative n *ℤ pos t ≡ signed negative (n * t)
    signed_times true n t = neg-mul_ℤ (pos n) (pos t)
    signed_times false n t = refl

-- ---- words
-- the digits of a mantissa, and an exponent where it is not 0
abbrev unsigned_word : List ℕ → ℕ → List ℕ
unsigned_word ds k = if k == 0 then ds else ds ++ codes "e-" ++ decimal k

record Parted (text ds : List ℕ) (k : ℕ) : Type 0 where
  rest : List ℕ
  begins : text ≡ ds ++ rest
  front : before_first is_e text ≡ ds
  exponent : exponent_of text ≡ Some (neg_ℤ (pos k))

parted : (ds : List ℕ) (k : ℕ) → all_ascii_digits ds ≡ true → k ≤ 36 → Parted (unsigned_word ds k) ds k
parted ds k digits small = elim (cases_Bool (k == 0)) [
  | inl alone ↦
      let form : unsigned_word ds k ≡ ds = cond-true (k == 0) ds (ds ++ codes "e-" ++ decimal k) alone in
      let nil : k ≡ 0 = eqb-true k 0 alone in
      record {
        rest = [];
        begins = form ∙ sym (append-nil ds);
        front = ap (before_first is_e) form ∙ front_alone ds digits;
        exponent = ap exponent_of form ∙ whole_exponent ds digits ∙ ap (λ (n : ℕ). Some (neg_ℤ (pos n))) (sym nil);
      }
  | inr more ↦
      let form : unsigned_word ds k ≡ ds ++ 101 ∷ 45 ∷ decimal k = cond-false (k == 0) ds (ds ++ codes "e-" ++ decimal k) more ∙ append_assoc ds (codes "e-") (decimal k) in
      record {
        rest = 101 ∷ 45 ∷ decimal k;
        begins = form;
        front = ap (before_first is_e) form ∙ front_of ds (45 ∷ decimal k) digits;
        exponent = ap exponent_of form ∙ exponent_back ds k digits (omega arith);
      }
]

unsigned_back : (ds : List ℕ) (k : ℕ) → 0 < length ds → all_ascii_digits ds ≡ true → k ≤ 36 → number_of (unsigned_word ds k) ≡ number_from false ds 0 (Some (neg_ℤ (pos k)))
unsigned_back ds k some digits small =
    let p = parted ds k digits small in
    let sign = unsigned_text ds p.rest some digits in
    parts_back (unsigned_word ds k) (unsigned_word ds k) ds false (Some (neg_ℤ (pos k))) (ap starts_with_minus p.begins ∙ sign.0) (ap without_leading_sign p.begins ∙ sign.1 ∙ sym p.begins) p.front digits p.exponent

negative_back : (ds : List ℕ) (k : ℕ) → all_ascii_digits ds ≡ true → k ≤ 36 → number_of (45 ∷ unsigned_word ds k) ≡ number_from true ds 0 (Some (neg_ℤ (pos k)))
negative_back ds k digits small =
    let p = parted ds k digits small in
    parts_back (45 ∷ unsigned_word ds k) (unsigned_word ds k) ds true (Some (neg_ℤ (pos k))) refl refl p.front digits p.exponent

signed_word : (ds : List ℕ) (k : ℕ) → (if k == 0 then 45 ∷ ds else (45 ∷ ds) ++ codes "e-" ++ decimal k) ≡ 45 ∷ unsigned_word ds k
signed_word ds k = by (k == 0)
  where
    by : (b : Bool) → (if b then 45 ∷ ds else (45 ∷ ds) ++ codes "e-" ++ decimal k) ≡ 45 ∷ (if b then ds else ds ++ codes "e-" ++ decimal k)
    by true = refl
    by false = refl

held_is : (q r : ℚ) → r ≡ q → is_held q ≡ true → held_number r ≡ Ok q
held_is q r same held = ap held_number same ∙ cond-true (is_held q) (Ok q) (Err NumberWide) held

no_times : (n : ℕ) → pos 0 *ℤ pos n ≡ pos 0 *ℤ pos 1
no_times n = let none : 0 * n ≡ 0 * 1 = omega arith in ap pos none

word_back : (m : ℤ) (k : ℕ) (q : ℚ) → is_short m ≡ true → k ≤ 36 → fraction m (10 ^ k) ≡ q → is_held q ≡ true → number_of (decimal_text (Some (record { mantissa = m; places = k }))) ≡ Ok q
word_back (pos zero) k q short small is held =
    let nothing_else : decimal 0 ≡ 48 ∷ [] = decimal_digit 0 (omega arith) in
    let none : zero_ℚ ≡ q = sym (fraction-one (pos 0)) ∙ (fraction_same (pos 0) (pos 0) 1 (10 ^ k) (omega arith) (power_positive k)).1 (no_times (10 ^ k)) ∙ is in
    unsigned_back (decimal 0) k (some_digit 0 (omega arith)) (all_digits 0 (omega arith)) small
    ∙ ap (λ (ds : List ℕ). number_from false ds 0 (Some (neg_ℤ (pos k)))) nothing_else ∙ ap Ok none
word_back (pos (suc n)) k q short small is held =
    let wide = below_37 (suc n) short in
    unsigned_back (decimal (suc n)) k (some_digit (suc n) (omega arith)) (all_digits (suc n) (omega arith)) small
    ∙ digits_back (suc n) k false (omega arith) small short ∙ held_is q (fraction (pos (suc n)) (10 ^ k)) is held
word_back (negsuc n) k q short small is held =
    let wide = below_37 (suc n) short in
    ap number_of (signed_word (decimal (suc n)) k) ∙ negative_back (decimal (suc n)) k (all_digits (suc n) (omega arith)) small
    ∙ digits_back (suc n) k true (omega arith) small short ∙ held_is q (fraction (negsuc n) (10 ^ k)) is held

-- ---- numbers
-- the first power of ten that a denominator divides
pub record IsFirstPower (den k n j : ℕ) : Type 0 where
  pub low : k ≤ j
  pub high : j < k + n
  pub divides : (10 ^ j % den == 0) ≡ true
  pub before : (i : ℕ) → k ≤ i → i < j → (10 ^ i % den == 0) ≡ false

pub first_power : (den k n j : ℕ) → places_from den k n ≡ Some j → IsFirstPower den k n j
first_power den k zero j h = absurd (none-some j h)
first_power den k (suc n) j h = elim (cases_Bool (10 ^ k % den == 0)) [
  | inl now ↦
      let here : k ≡ j = same_Some k j (sym (cond-true (10 ^ k % den == 0) (Some k) (places_from den (k + 1) n) now) ∙ h) in
      record { low = omega arith; high = omega arith; divides = subst (λ (i : ℕ). (10 ^ i % den == 0) ≡ true) here now; before = λ i low less. absurd (omega arith) }
  | inr other ↦
      let later = first_power den (k + 1) n j (sym (cond-false (10 ^ k % den == 0) (Some k) (places_from den (k + 1) n) other) ∙ h) in
      let low : k + 1 ≤ j = later.low in
      let high : j < k + 1 + n = later.high in
      record {
        low = omega arith;
        high = omega arith;
        divides = later.divides;
        before = λ i at less. elim (cases_eq i k) [
          | inl same ↦ subst (λ (m : ℕ). (10 ^ m % den == 0) ≡ false) (sym same) other
          | inr apart ↦ later.before i (omega arith) less
        ];
      }
]

-- a number over a power of ten that its denominator divides
pub over_power : (q : ℚ) (k : ℕ) → (10 ^ k % q.den == 0) ≡ true → fraction (mantissa q k) (10 ^ k) ≡ q
over_power q k h =
    let positive : 0 < q.den = q.positive in
    let whole_part : 10 ^ k / q.den * q.den ≡ 10 ^ k = exact (10 ^ k) q.den positive (eqb-true (10 ^ k % q.den) 0 h) in
    sym (represented_is q (mantissa q k) (10 ^ k) (record {
      positive = power_positive k;
      cross =
          ap (λ (n : ℕ). q.num *ℤ pos n) (sym whole_part) ∙ ring integers (q.num ∷ pos (10 ^ k / q.den) ∷ pos q.den ∷ []) (v0 ⊗ (v1 ⊗ v2)) (v0 ⊗ v1 ⊗ v2) refl;
    }))
  where
    exact : (p d : ℕ) → 0 < d → p % d ≡ 0 → p / d * d ≡ p
    exact p d h k = omega arith

-- what a number with a decimal form has
pub record HasDecimal (q : ℚ) : Type 0 where
  pub held : is_held q ≡ true
  pub digits : ℕ
  pub placed : places q ≡ Some digits
  pub short : is_short (mantissa q digits) ≡ true
  pub form : decimal_of q ≡ Some (record { mantissa = mantissa q digits; places = digits })

pub has_decimal : (q : ℚ) → is_decimal q ≡ true → HasDecimal q
has_decimal q h = elim (cases_Bool (is_held q)) [
  | inl held ↦ by (places q) refl held (cond-true (is_held q) (decimal_at q (places q)) None held)
  | inr wide ↦ absurd (false≢true (sym (ap is_some (cond-false (is_held q) (decimal_at q (places q)) None wide)) ∙ h))
]
  where
    by : (o : Option ℕ) → places q ≡ o → is_held q ≡ true → decimal_of q ≡ decimal_at q (places q) → HasDecimal q
    by None e held form = absurd (false≢true (sym (ap is_some (form ∙ ap (decimal_at q) e)) ∙ h))
    by (Some k) e held form = elim (cases_Bool (is_short (mantissa q k))) [
      | inl short ↦ record { held = held; digits = k; placed = e; short = short; form = form ∙ ap (decimal_at q) e ∙ cond-true (is_short (mantissa q k)) _ None short }
      | inr long ↦ absurd (false≢true (sym (ap is_some (form ∙ ap (decimal_at q) e ∙ cond-false (is_short (mantissa q k)) (Some (record { mantissa = mantissa q k; places = k })) None long)) ∙ h))
    ]

pub number_back : (q : ℚ) → is_decimal q ≡ true → number_of (number_text q) ≡ Ok q
number_back q h =
    let d = has_decimal q h in
    let first = first_power q.den 0 37 d.digits d.placed in
    let high : d.digits < 37 = first.high in
    ap number_of (ap decimal_text d.form) ∙ word_back (mantissa q d.digits) d.digits q d.short (omega arith) (over_power q d.digits first.divides) d.held
