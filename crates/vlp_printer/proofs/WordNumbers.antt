-- A number that a word has as its value has a decimal form.
use Rattle.std.proofs.Common.{◌≡◌, All, refl, ℕ, zero, suc, ◌+◌, ◌*◌, ◌/◌, ◌%◌, ◌^◌, ◌<◌, ◌≤◌, inl, inr, Bool, true, false, not, ◌==◌, nat_lt, if◌then◌else◌, ℤ, pos, negsuc, ◌*ℤ◌, List, [], ◌∷◌, length, Option, None, Some, is_some, Result, Ok, Err, arith, ap, sym, ◌∙◌, subst}
use Rattle.std.specs.Prelude.{unsigned_abs, int_le}
use Rattle.std.specs.Int.{◌∣◌}
use Rattle.std.specs.List.{find, list_all}
use Rattle.std.specs.Str.{all_ascii_digits}
use Rattle.std.specs.Str.Parse.{digits_value, starts_with_minus, without_leading_sign}
use Rattle.std.proofs.Math.Nat.{pow-suc, mul_assoc, mul_comm, pow-le-pow_right, mul-mod_right, mul-div_cancel, div-mul-le_self, mul-le-mul_left, div-mul_cancel, dvd-mul_left}
use Rattle.std.proofs.lemmas.Bool.{and_parts, and_from, cond-true, cond-false, lt-ltb, ltb-true, leb-true, ltb-false, eq-eqb, cases_Bool, or_left, or_right, not-true, not-false, false≢true}
use Rattle.std.proofs.lemmas.Int.{unsigned_abs-mul}
use Rattle.std.proofs.lemmas.Int.Digits.{digits_value-lt}
use Rattle.std.proofs.lemmas.List.Elements.{All-nil, All-cons, All-head, All-tail}
use Rattle.std.proofs.lemmas.Nat.{le-div}
use Rattle.std.proofs.lemmas.Nat.Gcd.{mod-eq-zero_of_dvd}
use Rattle.std.proofs.lemmas.Option.{none-some, same_Some}
use Rattle.exact_field.specs.Rational.{ℚ, whole, fraction, zero_ℚ}
use Rattle.exact_field.proofs.Integers.{mul-one_ℤ}
use Rattle.exact_field.proofs.RationalLaws.{fraction_represents, divides_other_factor, whole-num, whole-den}
use Rattle.frac128.specs.Held.{is_held}
use Rattle.frac128.specs.Signed.{signed}
use Rattle.vlp_reader.specs.Number.{is_natural, significant, power, scaled, in_range, number_at, number_from, number_of, held_number, without_leading_zeros, mantissa_digits, decimals, exponent_of}
use Rattle.vlp_reader.specs.declared.fault.FileKind.{FileKind}
use Rattle.vlp_reader.specs.declared.fault.FileKind.TheVariants.{BadNumber, NumberWide, Digits}
use Rattle.vlp_reader.proofs.Digits.{are_digits, digits-leading, digits-trailing, digits-natural}
use Rattle.vlp_reader.proofs.Powers.{power_positive}
use Rattle.vlp_printer.specs.Printing.{HasWord, IsFirstWithoutWord}
use Rattle.vlp_printer.proofs.ReadNumbers.{number_back}
use Rattle.vlp_printer.specs.Decimal.{places, places_from, mantissa, is_short, decimal_at, is_decimal, number_text}

-- ---- the first power of ten that a denominator divides
some_power : (den k n i : ℕ) → k ≤ i → i < k + n → (10 ^ i % den == 0) ≡ true → (j : ℕ) × (places_from den k n ≡ Some j) × (j ≤ i)
some_power den k zero i low high h = absurd (omega arith)
some_power den k (suc n) i low high h = elim (cases_Bool (10 ^ k % den == 0)) [
  | inl now ↦ (k, cond-true (10 ^ k % den == 0) (Some k) (places_from den (k + 1) n) now, low)
  | inr later ↦
      let other : k ≡ i → ⊥ = λ e. false≢true (sym later ∙ ap (λ (m : ℕ). 10 ^ m % den == 0) e ∙ h) in
      let found = some_power den (k + 1) n i (omega arith) (omega arith) h in
      (found.0, cond-false (10 ^ k % den == 0) (Some k) (places_from den (k + 1) n) later ∙ found.1, found.2)
]

-- a held number with these places and a short mantissa
by_parts : (q : ℚ) (k : ℕ) → is_held q ≡ true → places q ≡ Some k → is_short (mantissa q k) ≡ true → is_decimal q ≡ true
by_parts q k held placed short = ap is_some (cond-true (is_held q) (decimal_at q (places q)) None held ∙ ap (decimal_at q) placed ∙ cond-true (is_short (mantissa q k)) _ None short)

-- ---- a whole number times a power of ten
whole_decimal : (m : ℤ) (k : ℕ) → unsigned_abs m < 10 ^ 36 → k ≤ 36 → is_held (whole (m *ℤ pos (10 ^ k))) ≡ true → is_decimal (whole (m *ℤ pos (10 ^ k))) ≡ true
whole_decimal m k small high held =
    let q : ℚ = whole (m *ℤ pos (10 ^ k)) in
    let one : q.den ≡ 1 = whole-den (m *ℤ pos (10 ^ k)) in
    let placed : places q ≡ Some 0 = ap (λ (d : ℕ). places_from d 0 37) one in
    let mantissa_is : mantissa q 0 ≡ m *ℤ pos (10 ^ k) =
    ap (λ (d : ℕ). q.num *ℤ pos (10 ^ 0 / d)) one ∙ mul-one_ℤ q.num ∙ whole-num (m *ℤ pos (10 ^ k)) in
    let size : unsigned_abs (m *ℤ pos (10 ^ k)) ≡ unsigned_abs m * 10 ^ k = unsigned_abs-mul m (pos (10 ^ k)) in
    let below : unsigned_abs (m *ℤ pos (10 ^ k)) < 2 ^ 120 =
    subst (λ (n : ℤ). unsigned_abs n < 2 ^ 120) (whole-num (m *ℤ pos (10 ^ k))) (ltb-true (unsigned_abs q.num) (2 ^ 120) (and_parts (nat_lt (unsigned_abs q.num) (2 ^ 120)) (nat_lt q.den (2 ^ 120)) held).0) in
    by_parts q 0 held placed (ap is_short mantissa_is ∙ short k size below)
  where
    short : (k : ℕ) → unsigned_abs (m *ℤ pos (10 ^ k)) ≡ unsigned_abs m * 10 ^ k → unsigned_abs (m *ℤ pos (10 ^ k)) < 2 ^ 120 → is_short (m *ℤ pos (10 ^ k)) ≡ true
    short zero size below = or_left (nat_lt (unsigned_abs (m *ℤ pos (10 ^ 0))) (10 ^ 36)) _ (lt-ltb (unsigned_abs (m *ℤ pos (10 ^ 0))) (10 ^ 36) (omega arith))
    short (suc k) size below =
        let n : ℕ = unsigned_abs (m *ℤ pos (10 ^ suc k)) in
        let tens : n ≡ 10 * (unsigned_abs m * 10 ^ k) = size ∙ ap (λ (p : ℕ). unsigned_abs m * p) (pow-suc 10 k) ∙ omega arith in
        or_right (nat_lt n (10 ^ 36)) _
        (and_from (n % 10 == 0) (nat_lt n (10 ^ 37)) (eq-eqb (n % 10) 0 (ap (λ (x : ℕ). x % 10) tens ∙ mul-mod_right 10 (unsigned_abs m * 10 ^ k))) (lt-ltb n (10 ^ 37) (omega arith)))

-- ---- one over a power of ten
fraction_decimal : (m : ℤ) (k : ℕ) → unsigned_abs m < 10 ^ 36 → k ≤ 36 → is_held (fraction m (10 ^ k)) ≡ true → is_decimal (fraction m (10 ^ k)) ≡ true
fraction_decimal m k small high held =
    let q : ℚ = fraction m (10 ^ k) in
    let n : ℕ = unsigned_abs q.num in
    let cross : n * 10 ^ k ≡ unsigned_abs m * q.den =
    sym (unsigned_abs-mul q.num (pos (10 ^ k))) ∙ ap unsigned_abs (fraction_represents m (10 ^ k) (power_positive k)).cross ∙ unsigned_abs-mul m (pos q.den) in
    let divides : q.den ∣ 10 ^ k =
    divides_other_factor n q.den (10 ^ k) q.lowest (subst (λ (x : ℕ). q.den ∣ x) (sym (mul_comm (10 ^ k) n ∙ cross)) (dvd-mul_left q.den (unsigned_abs m))) in
    let found = some_power q.den 0 37 k (omega arith) (omega arith) (eq-eqb (10 ^ k % q.den) 0 (mod-eq-zero_of_dvd q.den divides)) in
    let j : ℕ = found.0 in
    let less : 10 ^ j ≤ 10 ^ k = pow-le-pow_right {n = 10} (omega arith) found.2 in
    let part = div-mul-le_self (10 ^ j) q.den in
    let scales : 10 ^ j / q.den ≤ 10 ^ k / q.den = le-div (10 ^ j / q.den) (10 ^ k) q.den q.positive (omega arith) in
    let all : n * (10 ^ k / q.den) ≡ unsigned_abs m =
    sym (mul-div_cancel (n * (10 ^ k / q.den)) q.positive)
    ∙ ap (λ (x : ℕ). x / q.den) (mul_assoc n (10 ^ k / q.den) q.den ∙ ap (λ (x : ℕ). n * x) (div-mul_cancel q.den divides) ∙ cross)
    ∙ mul-div_cancel (unsigned_abs m) q.positive in
    let size : unsigned_abs (mantissa q j) ≡ n * (10 ^ j / q.den) = unsigned_abs-mul q.num (pos (10 ^ j / q.den)) in
    let bound : n * (10 ^ j / q.den) ≤ n * (10 ^ k / q.den) = mul-le-mul_left n scales in
    by_parts q j held found.1 (or_left (nat_lt (unsigned_abs (mantissa q j)) (10 ^ 36)) _ (lt-ltb (unsigned_abs (mantissa q j)) (10 ^ 36) (omega arith)))

-- ---- words
pub zero_decimal : is_decimal zero_ℚ ≡ true
unfolding whole
zero_decimal = refl

abbrev is_ok_part : {A : Type 0} → A → Result A FileKind → A
is_ok_part d (Ok x) = x
is_ok_part d (Err kind) = d

same_ok : (p q : ℚ) (r : Result ℚ FileKind) → r ≡ Ok p → r ≡ Ok q → p ≡ q
same_ok p q r e f = ap (is_ok_part p) (sym e ∙ f)

refused : (kind : FileKind) (q : ℚ) (r : Result ℚ FileKind) → r ≡ Err kind → r ≡ Ok q → ⊥
refused kind q r e f = let both : Err kind ≡ Ok q = sym e ∙ f in cc

scaled_decimal : (m p : ℤ) → unsigned_abs m < 10 ^ 36 → in_range p ≡ true → is_held (scaled m p) ≡ true → is_decimal (scaled m p) ≡ true
scaled_decimal m (pos k) small range held = whole_decimal m k small (leb-true k 36 (and_parts (int_le (negsuc 35) (pos k)) (int_le (pos k) (pos 36)) range).1) held
scaled_decimal m (negsuc k) small range held =
    let high : k ≤ 35 = leb-true k 35 (and_parts (int_le (negsuc 35) (negsuc k)) (int_le (negsuc k) (pos 36)) range).0 in
    fraction_decimal m (k + 1) small (omega arith) held

held_decimal : (r q : ℚ) → (is_held r ≡ true → is_decimal r ≡ true) → held_number r ≡ Ok q → is_decimal q ≡ true
held_decimal r q decimal h = elim (cases_Bool (is_held r)) [
  | inl held ↦ subst (λ (x : ℚ). is_decimal x ≡ true) (same_ok r q (held_number r) (cond-true (is_held r) (Ok r) (Err NumberWide) held) h) (decimal held)
  | inr wide ↦ absurd (refused NumberWide q (held_number r) (cond-false (is_held r) (Ok r) (Err NumberWide) wide) h)
]

signed_size : (negative : Bool) (n : ℕ) → unsigned_abs (signed negative n) ≡ n
signed_size true zero = refl
signed_size true (suc n) = refl
signed_size false n = refl

at_decimal : (negative : Bool) (digits : List ℕ) (p : ℤ) (q : ℚ) → all_ascii_digits digits ≡ true → number_at negative digits p ≡ Ok q → is_decimal q ≡ true
at_decimal negative digits p q natural h =
    let m : ℤ = signed negative (digits_value 10 digits) in
    let inner : Result ℚ FileKind = if not (in_range p) then Err NumberWide else held_number (scaled m p) in
    let middle : Result ℚ FileKind = if nat_lt 36 (length digits) then Err Digits else inner in
    elim (cases_Bool (length digits == 0)) [
      | inl none ↦ subst (λ (x : ℚ). is_decimal x ≡ true) (same_ok zero_ℚ q (number_at negative digits p) (cond-true (length digits == 0) (Ok zero_ℚ) middle none) h) zero_decimal
      | inr some ↦
          let second : middle ≡ Ok q = sym (cond-false (length digits == 0) (Ok zero_ℚ) middle some) ∙ h in
          elim (cases_Bool (nat_lt 36 (length digits))) [
            | inl long ↦ absurd (refused Digits q middle (cond-true (nat_lt 36 (length digits)) (Err Digits) inner long) second)
            | inr short ↦
                let third : inner ≡ Ok q = sym (cond-false (nat_lt 36 (length digits)) (Err Digits) inner short) ∙ second in
                elim (cases_Bool (not (in_range p))) [
                  | inl outside ↦ absurd (refused NumberWide q inner (cond-true (not (in_range p)) (Err NumberWide) (held_number (scaled m p)) outside) third)
                  | inr inside ↦
                      let few : length digits ≤ 36 = ltb-false 36 (length digits) short in
                      let value : digits_value 10 digits < 10 ^ length digits = digits_value-lt 10 digits (are_digits digits natural) in
                      let power_bound : 10 ^ length digits ≤ 10 ^ 36 = pow-le-pow_right {n = 10} (omega arith) few in
                      let size = signed_size negative (digits_value 10 digits) in
                      held_decimal (scaled m p) q (scaled_decimal m p (omega arith) (not-false (in_range p) inside))
                      (sym (cond-false (not (in_range p)) (Err NumberWide) (held_number (scaled m p)) inside) ∙ third)
                ]
          ]
    ]

from_decimal : (negative : Bool) (digits : List ℕ) (n : ℕ) (exponent : Option ℤ) (q : ℚ) → number_from negative digits n exponent ≡ Ok q → is_decimal q ≡ true
from_decimal negative digits n None q h = absurd (refused BadNumber q (Err BadNumber) refl h)
from_decimal negative digits n (Some e) q h = elim (cases_Bool (is_natural digits)) [
  | inl natural ↦ at_decimal negative (significant digits) (power digits n e) q (digits-trailing (without_leading_zeros digits) (digits-leading digits (digits-natural digits natural)))
      (sym (cond-true (is_natural digits) (number_at negative (significant digits) (power digits n e)) (Err BadNumber) natural) ∙ h)
  | inr other ↦ absurd (refused BadNumber q (number_from negative digits n (Some e)) (cond-false (is_natural digits) (number_at negative (significant digits) (power digits n e)) (Err BadNumber) other) h)
]

-- what a word of the grammar has as its value has a decimal form
pub word_decimal : (word : List ℕ) (q : ℚ) → number_of word ≡ Ok q → is_decimal q ≡ true
word_decimal word q h = from_decimal (starts_with_minus word) (mantissa_digits word) (length (decimals word)) (exponent_of (without_leading_sign word)) q h

pub no_word : (q : ℚ) → is_decimal q ≡ false → ¬ HasWord q
no_word q h w = false≢true (sym h ∙ word_decimal w.0 q w.1)

-- ---- the numbers of a problem
abbrev wide : ℚ → Bool
wide q = not (is_decimal q)

pub own_word : (q : ℚ) → is_decimal q ≡ true → HasWord q
own_word q h = (number_text q, number_back q h)

-- none without a decimal form is among them
pub all_words : (numbers : List ℚ) → find wide numbers ≡ None → All HasWord numbers
all_words [] h = All-nil HasWord
all_words (x ∷ numbers) h = elim (cases_Bool (wide x)) [
  | inl here ↦ absurd (none-some x (sym h ∙ cond-true (wide x) (Some x) (find wide numbers) here))
  | inr later ↦ All-cons HasWord x numbers (own_word x (not-false (is_decimal x) later)) (all_words numbers (sym (cond-false (wide x) (Some x) (find wide numbers) later) ∙ h))
]

pub all_decimal : (numbers : List ℚ) → All HasWord numbers → list_all is_decimal numbers ≡ true
all_decimal [] h = refl
all_decimal (x ∷ numbers) h =
    let w = All-head HasWord x numbers h in
    and_from (is_decimal x) (list_all is_decimal numbers) (word_decimal w.0 x w.1) (all_decimal numbers (All-tail HasWord x numbers h))

-- or one is the first
pub first_without_word : (numbers : List ℚ) (q : ℚ) → find wide numbers ≡ Some q → IsFirstWithoutWord numbers q
first_without_word [] q h = absurd (none-some q h)
first_without_word (x ∷ numbers) q h = elim (cases_Bool (wide x)) [
  | inl here ↦
      let same : x ≡ q = same_Some x q (sym (cond-true (wide x) (Some x) (find wide numbers) here) ∙ h) in
      record { before = []; after = numbers; place = ap (λ (p : ℚ). p ∷ numbers) same; words = All-nil HasWord; no_word = no_word q (ap is_decimal (sym same) ∙ not-true (is_decimal x) here) }
  | inr later ↦
      let rest = first_without_word numbers q (sym (cond-false (wide x) (Some x) (find wide numbers) later) ∙ h) in
      record {
        before = x ∷ rest.before;
        after = rest.after;
        place = ap (λ (l : List ℚ). x ∷ l) rest.place;
        words = All-cons HasWord x rest.before (own_word x (not-false (is_decimal x) later)) rest.words;
        no_word = rest.no_word;
      }
]
