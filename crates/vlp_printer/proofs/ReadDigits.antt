-- Words of digits, read as their value.
use Rattle.std.proofs.Common.{◌≡◌, refl, ℕ, ◌+◌, ◌-◌, ◌*◌, ◌/◌, ◌%◌, ◌^◌, ◌<◌, ◌≤◌, Bool, true, false, not, ◌||◌, ◌==◌, ℤ, pos, neg_ℤ, List, [], ◌∷◌, ◌++◌, length, get_or, take, drop, decimal, Option, Some, arith, ap, sym, ◌∙◌}
use Rattle.std.specs.Char.{is_ascii_digit, digit_value}
use Rattle.std.specs.List.{list_all, list_any, position_or_len, before_first, after_first}
use Rattle.std.specs.Option.{option_map}
use Rattle.std.specs.Str.{all_ascii_digits}
use Rattle.std.specs.Str.Parse.{digits_value, digits_value_after, without_leading_sign, without_leading_plus, starts_with_minus}
use Rattle.std.proofs.Math.Nat.{pow-suc, mul_assoc, mul_comm}
use Rattle.std.proofs.Math.Seq.{take-append_seam, drop-append-add, take_at}
use Rattle.std.proofs.Math.ListN.{drop_of_length-le}
use Rattle.std.proofs.lemmas.Bool.{or_parts, and_parts, and_from, cond-true, cond-false, cond_both, lt-ltb, ne_eqb, eqb-true, or_from, or_right}
use Rattle.std.proofs.lemmas.Bool.Decides.{nat_tests}
use Rattle.std.proofs.lemmas.Fmt.{decimal_is_IsNumeral_wide, decimal_by_steps_wide}
use Rattle.std.proofs.lemmas.List.{append-nil, length-append}
use Rattle.vlp_reader.specs.Number.{is_natural, natural, natural_value, is_e, is_point, is_nought, exponent_of, without_leading_zeros, without_trailing_zeros, decimals, mantissa_digits, number_of, number_from}
use Rattle.frac128.specs.Signed.{signed}
use Rattle.vlp_reader.proofs.Digits.{digits_are, digit_range}
use Rattle.vlp_reader.proofs.Zeros.{leading-none}

-- ---- the digits that a natural number is written with
pub all_digits : (n : ℕ) → n < 10 ^ 64 → all_ascii_digits (decimal n) ≡ true
all_digits n h = digits_are (decimal n) (decimal_is_IsNumeral_wide n h).0.1

pub some_digit : (n : ℕ) → n < 10 ^ 64 → 0 < length (decimal n)
some_digit n h = (decimal_is_IsNumeral_wide n h).0.0

pub value_back : (n : ℕ) → n < 10 ^ 64 → digits_value 10 (decimal n) ≡ n
value_back n h = (decimal_is_IsNumeral_wide n h).1

-- a natural number that fits is read back
pub natural_back : (n : ℕ) → n < 2 ^ 32 → natural (decimal n) ≡ Some n
natural_back n h =
    let wide : n < 10 ^ 64 = omega arith in
    let value = value_back n wide in
    let same : natural_value (decimal n) ≡ n = omega arith in
    cond-true (is_natural (decimal n)) _ _ (and_from _ _ (lt-ltb 0 (length (decimal n)) (some_digit n wide)) (all_digits n wide)) ∙ ap Some same

-- the first digit of a number other than 0 is not 0
first_of : (n : ℕ) → n < 10 ^ 64 → (0 < length (decimal n)) × (0 < n → 48 < get_or (decimal n) 0 0)
first_of n h = decimal_by_steps_wide (λ m ds. (0 < length ds) × (0 < m → 48 < get_or ds 0 0)) (λ m small. (omega arith, λ some. omega arith)) (λ m ds large old. more m ds large old) n h
  where
    front : (ds : List ℕ) (d : ℕ) → 0 < length ds → get_or (ds ++ d ∷ []) 0 0 ≡ get_or ds 0 0
    front [] d h = absurd (omega arith)
    front (c ∷ ds) d h = refl

    more : (m : ℕ) (ds : List ℕ) → 10 ≤ m → (0 < length ds) × (0 < m / 10 → 48 < get_or ds 0 0)
        → (0 < length (ds ++ (48 + m % 10) ∷ [])) × (0 < m → 48 < get_or (ds ++ (48 + m % 10) ∷ []) 0 0)
    more m ds large old =
        let some : 0 < m / 10 = omega arith in
        let first : 48 < get_or ds 0 0 = old.1 some in
        let same = front ds (48 + m % 10) old.0 in
        let longer = length-append ds ((48 + m % 10) ∷ []) in
        (omega arith, λ _. omega arith)

pub no_leading_zero : (n : ℕ) → 0 < n → n < 10 ^ 64 → without_leading_zeros (decimal n) ≡ decimal n
no_leading_zero n some h = by (decimal n) (first_of n h).0 ((first_of n h).1 some)
  where
    by : (ds : List ℕ) → 0 < length ds → 48 < get_or ds 0 0 → without_leading_zeros ds ≡ ds
    by [] h k = absurd (omega arith)
    by (d ∷ ds) h k = leading-none d ds (ne_eqb d 48 (λ e. absurd (omega arith)))

-- ---- zeros at the end
zeros_value : (n : ℕ) (ds : List ℕ) → list_all is_nought ds ≡ true → digits_value_after 10 n ds ≡ n * 10 ^ length ds
zeros_value n [] h = omega arith
zeros_value n (d ∷ ds) h =
    let parts = and_parts (is_nought d) (list_all is_nought ds) h in
    let zero_digit : digit_value d ≡ 0 = ap digit_value (eqb-true d 48 parts.0) in
    ap (λ (m : ℕ). digits_value_after 10 (n * 10 + m) ds) zero_digit ∙ zeros_value (n * 10 + 0) ds parts.1
    ∙ ap (λ (m : ℕ). m * 10 ^ length ds) (omega arith) ∙ mul_assoc n 10 (10 ^ length ds) ∙ ap (λ (m : ℕ). n * m) (mul_comm 10 (10 ^ length ds) ∙ sym (pow-suc 10 (length ds)))

-- the digits without the zeros at their end, and these
pub trailing_value : (n : ℕ) (ds : List ℕ) → digits_value_after 10 n ds ≡ digits_value_after 10 n (without_trailing_zeros ds) * 10 ^ (length ds - length (without_trailing_zeros ds))
trailing_value n [] = omega arith
trailing_value n (d ∷ ds) =
    cond_both (list_all is_nought (d ∷ ds)) [] (d ∷ without_trailing_zeros ds)
    (λ (l : List ℕ). digits_value_after 10 n (d ∷ ds) ≡ digits_value_after 10 n l * 10 ^ (length (d ∷ ds) - length l))
    (λ all. zeros_value n (d ∷ ds) all ∙ ap (λ (k : ℕ). n * 10 ^ k) (omega arith))
    (λ _. trailing_value (n * 10 + digit_value d) ds ∙ ap (λ (k : ℕ). digits_value_after 10 (n * 10 + digit_value d) (without_trailing_zeros ds) * 10 ^ k) (omega arith))

-- ---- where the parts of a word stand
unmet : (p : ℕ → Bool) (xs : List ℕ) → list_any p xs ≡ false → position_or_len p xs ≡ length xs
unmet p [] h = refl
unmet p (x ∷ xs) h =
    let parts = or_parts (p x) (list_any p xs) h in
    cond-true (not (p x)) (1 + position_or_len p xs) 0 (ap not parts.0) ∙ ap (λ (n : ℕ). 1 + n) (unmet p xs parts.1) ∙ omega arith

met : (p : ℕ → Bool) (xs : List ℕ) (y : ℕ) (ys : List ℕ) → list_any p xs ≡ false → p y ≡ true → position_or_len p (xs ++ y ∷ ys) ≡ length xs
met p [] y ys h k = cond-false (not (p y)) (1 + position_or_len p ys) 0 (ap not k)
met p (x ∷ xs) y ys h k =
    let parts = or_parts (p x) (list_any p xs) h in
    cond-true (not (p x)) (1 + position_or_len p (xs ++ y ∷ ys)) 0 (ap not parts.0) ∙ ap (λ (n : ℕ). 1 + n) (met p xs y ys parts.1 k) ∙ omega arith

before_all : (p : ℕ → Bool) (xs : List ℕ) → list_any p xs ≡ false → before_first p xs ≡ xs
before_all p xs h = ap (λ (n : ℕ). take n xs) (unmet p xs h) ∙ ap (take (length xs)) (sym (append-nil xs)) ∙ take-append_seam xs []

after_all : (p : ℕ → Bool) (xs : List ℕ) → list_any p xs ≡ false → after_first p xs ≡ []
after_all p xs h = let place = unmet p xs h in drop_of_length-le xs (omega arith)

before_met : (p : ℕ → Bool) (xs : List ℕ) (y : ℕ) (ys : List ℕ) → list_any p xs ≡ false → p y ≡ true → before_first p (xs ++ y ∷ ys) ≡ xs
before_met p xs y ys h k = take_at xs (y ∷ ys) (position_or_len p (xs ++ y ∷ ys)) (sym (met p xs y ys h k))

after_met : (p : ℕ → Bool) (xs : List ℕ) (y : ℕ) (ys : List ℕ) → list_any p xs ≡ false → p y ≡ true → after_first p (xs ++ y ∷ ys) ≡ ys
after_met p xs y ys h k = ap (λ (n : ℕ). drop (n + 1) (xs ++ y ∷ ys)) (met p xs y ys h k) ∙ drop-append-add xs (y ∷ ys) 1

any_met : (p : ℕ → Bool) (xs : List ℕ) (y : ℕ) (ys : List ℕ) → p y ≡ true → list_any p (xs ++ y ∷ ys) ≡ true
any_met p [] y ys k = ap (λ b. b || list_any p ys) k
any_met p (x ∷ xs) y ys k = or_right (p x) (list_any p (xs ++ y ∷ ys)) (any_met p xs y ys k)

-- digits are neither letters nor points
no_other : (p : ℕ → Bool) → ((b : ℕ) → is_ascii_digit b ≡ true → p b ≡ false) → (ds : List ℕ) → all_ascii_digits ds ≡ true → list_any p ds ≡ false
no_other p other [] h = refl
no_other p other (d ∷ ds) h =
    let parts = and_parts (is_ascii_digit d) (all_ascii_digits ds) h in
    or_from (p d) (list_any p ds) (other d parts.0) (no_other p other ds parts.1)

no_letter : (ds : List ℕ) → all_ascii_digits ds ≡ true → list_any is_e ds ≡ false
no_letter ds h = no_other is_e (λ b k. by b (digit_range b k).0 (digit_range b k).1) ds h
  where
    by : (b : ℕ) → 48 ≤ b → b ≤ 57 → is_e b ≡ false
    by b low high = grind (arith, nat_tests)

no_point : (ds : List ℕ) → all_ascii_digits ds ≡ true → list_any is_point ds ≡ false
no_point ds h = no_other is_point (λ b k. by b (digit_range b k).0 (digit_range b k).1) ds h
  where
    by : (b : ℕ) → 48 ≤ b → b ≤ 57 → is_point b ≡ false
    by b low high = grind (arith, nat_tests)

-- a text that begins with a digit has no sign
pub unsigned_text : (ds rest : List ℕ) → 0 < length ds → all_ascii_digits ds ≡ true → (starts_with_minus (ds ++ rest) ≡ false) × (without_leading_sign (ds ++ rest) ≡ ds ++ rest)
unsigned_text [] rest some h = absurd (omega arith)
unsigned_text (d ∷ ds) rest some h =
    let range = digit_range d (and_parts (is_ascii_digit d) (all_ascii_digits ds) h).0 in
    let low : 48 ≤ d = range.0 in
    let no_minus : (d == 45) ≡ false = ne_eqb d 45 (λ e. absurd (omega arith)) in
    let no_plus : (d == 43) ≡ false = ne_eqb d 43 (λ e. absurd (omega arith)) in (
      no_minus,
      cond-false (d == 45) (drop 1 (d ∷ ds ++ rest)) (without_leading_plus (d ∷ ds ++ rest)) no_minus
          ∙ ap (λ (n : ℕ). drop n (d ∷ ds ++ rest)) (cond-false (d == 43) 1 0 no_plus),
    )

-- ---- exponents
pub whole_exponent : (ds : List ℕ) → all_ascii_digits ds ≡ true → exponent_of ds ≡ Some (pos 0)
whole_exponent ds h = cond-false (list_any is_e ds) _ _ (no_letter ds h)

pub exponent_back : (ds : List ℕ) (k : ℕ) → all_ascii_digits ds ≡ true → k < 2 ^ 32 → exponent_of (ds ++ 101 ∷ 45 ∷ decimal k) ≡ Some (neg_ℤ (pos k))
exponent_back ds k h small =
    cond-true (list_any is_e (ds ++ 101 ∷ 45 ∷ decimal k)) _ _ (any_met is_e ds 101 (45 ∷ decimal k) refl)
    ∙ ap (λ (text : List ℕ). option_map (signed (starts_with_minus text)) (natural (without_leading_sign text))) (after_met is_e ds 101 (45 ∷ decimal k) (no_letter ds h) refl)
    ∙ ap (option_map (signed true)) (natural_back k small)

-- ---- the parts of a word of digits and an exponent
pub parts_back : (word text ds : List ℕ) (negative : Bool) (exponent : Option ℤ) → starts_with_minus word ≡ negative → without_leading_sign word ≡ text → before_first is_e text ≡ ds → all_ascii_digits ds ≡ true
    → exponent_of text ≡ exponent → number_of word ≡ number_from negative ds 0 exponent
parts_back word text ds negative exponent sign unsigned front digits power =
    let other = no_point ds digits in
    ap (λ b. number_from b (mantissa_digits word) (length (decimals word)) (exponent_of (without_leading_sign word))) sign
    ∙ ap (λ (e : Option ℤ). number_from negative (mantissa_digits word) (length (decimals word)) e) (ap exponent_of unsigned ∙ power)
    ∙ ap (λ (m : List ℕ). number_from negative (before_first is_point m ++ after_first is_point m) (length (after_first is_point m)) exponent) (ap (before_first is_e) unsigned ∙ front)
    ∙ ap (λ (m : List ℕ). number_from negative (m ++ after_first is_point ds) (length (after_first is_point ds)) exponent) (before_all is_point ds other)
    ∙ ap (λ (m : List ℕ). number_from negative (ds ++ m) (length m) exponent) (after_all is_point ds other)
    ∙ ap (λ (m : List ℕ). number_from negative m 0 exponent) (append-nil ds)

-- a word of digits, alone or with an exponent after it
pub front_alone : (ds : List ℕ) → all_ascii_digits ds ≡ true → before_first is_e ds ≡ ds
front_alone ds h = before_all is_e ds (no_letter ds h)

pub front_of : (ds rest : List ℕ) → all_ascii_digits ds ≡ true → before_first is_e (ds ++ 101 ∷ rest) ≡ ds
front_of ds rest h = before_met is_e ds 101 rest (no_letter ds h) refl
