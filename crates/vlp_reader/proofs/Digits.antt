-- Words of digits, read from the left.
use Rattle.std.proofs.Common.{◌≡◌, refl, ℕ, zero, suc, ◌+◌, ◌*◌, ◌-◌, ◌^◌, ◌<◌, ◌≤◌, Bool, true, false, ◌&&◌, nat_lt, min, List, [], ◌∷◌, ◌++◌, length, get_or, take, arith, ap, sym, ◌∙◌, subst}
use Rattle.std.specs.Char.{is_ascii_digit, digit_value}
use Rattle.std.specs.Int.{IsInRange}
use Rattle.std.specs.List.{list_all}
use Rattle.std.specs.Str.{all_ascii_digits}
use Rattle.std.specs.Str.Parse.{AllDigits, digits_value, digits_value_after}
use Rattle.std.proofs.lemmas.Bool.{and_parts, and_from, lt-ltb, le-leb, false≢true, cond_both}
use Rattle.std.proofs.lemmas.Bool.Decides.{nat_tests}
use Rattle.std.proofs.lemmas.List.{take_all, take_more}
use Rattle.std.proofs.Math.Seq.{take-append_seam}
use Rattle.std.proofs.lemmas.Str.{digit_value_digit}
use Rattle.std.proofs.lemmas.Str.Parse.{digit_from_value}
use Rattle.std.proofs.lemmas.Int.Digits.{digits_value-lt}
use Rattle.std.proofs.lemmas.Str.Parse.{digits_value-take-le}
use Rattle.std.proofs.Math.Nat.{pow-le-pow_right}
use Rattle.vlp_reader.specs.Number.{is_natural, is_nought, without_leading_zeros, without_trailing_zeros}

pub digit_range : (b : ℕ) → is_ascii_digit b ≡ true → IsInRange 48 57 b
digit_range b h = (grind (arith, nat_tests), grind (arith, nat_tests))

pub digit_small : (b : ℕ) → is_ascii_digit b ≡ true → (digit_value b ≡ b - 48) × (digit_value b < 10)
digit_small b h =
    let range = digit_range b h in
    let value = digit_value_digit b range in
    let low : 48 ≤ b = range.0 in
    let high : b ≤ 57 = range.1 in
    (omega arith, omega arith)

value_range : (b : ℕ) → digit_value b < 10 → is_ascii_digit b ≡ true
value_range b h =
    let range : IsInRange 48 57 b = digit_from_value b h in
    let low : 48 ≤ b = range.0 in
    let high : b ≤ 57 = range.1 in
    and_from _ _ (le-leb 48 b low) (le-leb b 57 high)

pub digits_are : (word : List ℕ) → AllDigits 10 word → all_ascii_digits word ≡ true
digits_are [] h = refl
digits_are (b ∷ word) h = and_from (is_ascii_digit b) (all_ascii_digits word) (value_range b h.0) (digits_are word h.1)

pub not_true : (b : Bool) → (b ≡ true → ⊥) → b ≡ false
not_true true h = absurd (h refl)
not_true false h = refl

and_false : (a b : Bool) → b ≡ false → (a && b) ≡ false
and_false true b h = h
and_false false b h = refl

pub digit_of : (word : List ℕ) (i : ℕ) → i < length word → all_ascii_digits word ≡ true → is_ascii_digit (get_or word i 0) ≡ true
digit_of [] i lt h = absurd (omega arith)
digit_of (b ∷ word) zero lt h = (and_parts (is_ascii_digit b) (all_ascii_digits word) h).0
digit_of (b ∷ word) (suc i) lt h = digit_of word i (omega arith) (and_parts (is_ascii_digit b) (all_ascii_digits word) h).1

pub no_digit : (word : List ℕ) (i : ℕ) → i < length word → is_ascii_digit (get_or word i 0) ≡ false → all_ascii_digits word ≡ false
no_digit word i lt h = not_true (all_ascii_digits word) (λ k. false≢true (sym h ∙ digit_of word i lt k))

pub not_natural : (word : List ℕ) (i : ℕ) → i < length word → is_ascii_digit (get_or word i 0) ≡ false → is_natural word ≡ false
not_natural word i lt h = and_false (nat_lt 0 (length word)) (all_ascii_digits word) (no_digit word i lt h)

pub natural_from : (word : List ℕ) (i : ℕ) → 0 < length word → length word ≤ i → AllDigits 10 (take i word) → is_natural word ≡ true
natural_from word i some all h =
    and_from (nat_lt 0 (length word)) (all_ascii_digits word) (lt-ltb 0 (length word) some) (digits_are word (subst (AllDigits 10) (take_all i word all) h))

-- one digit more, where a number that does not fit reads as the greatest that does
pub saturated : (x d most : ℕ) → min (min (min x most * 10) most + d) most ≡ min (x * 10 + d) most
saturated x d most = omega arith

-- and the other way
pub are_digits : (word : List ℕ) → all_ascii_digits word ≡ true → AllDigits 10 word
are_digits [] h = tt
are_digits (b ∷ word) h =
    let parts = and_parts (is_ascii_digit b) (all_ascii_digits word) h in
    ((digit_small b parts.0).1, are_digits word parts.1)

value_after-push : (n : ℕ) (ds : List ℕ) (c : ℕ) → digits_value_after 10 n (ds ++ c ∷ []) ≡ digits_value_after 10 n ds * 10 + digit_value c
value_after-push n [] c = refl
value_after-push n (d ∷ ds) c = value_after-push (n * 10 + digit_value d) ds c

pub value_after_more : (n : ℕ) (ds : List ℕ) (i : ℕ) → i < length ds → digits_value_after 10 n (take (i + 1) ds) ≡ digits_value_after 10 n (take i ds) * 10 + digit_value (get_or ds i 0)
value_after_more n ds i lt = ap (digits_value_after 10 n) (take_more ds i 0 lt) ∙ value_after-push n (take i ds) (get_or ds i 0)

-- the digits of one text after those of another
pub value-append : (n : ℕ) (xs ys : List ℕ) → digits_value_after 10 n (xs ++ ys) ≡ digits_value_after 10 (digits_value_after 10 n xs) ys
value-append n [] ys = refl
value-append n (x ∷ xs) ys = value-append (n * 10 + digit_value x) xs ys

pub digits-append : (xs ys : List ℕ) → all_ascii_digits (xs ++ ys) ≡ (all_ascii_digits xs && all_ascii_digits ys)
digits-append [] ys = refl
digits-append (x ∷ xs) ys = ap (λ b. is_ascii_digit x && b) (digits-append xs ys) ∙ and_assoc (is_ascii_digit x) (all_ascii_digits xs) (all_ascii_digits ys)
  where
    and_assoc : (a b c : Bool) → (a && (b && c)) ≡ (a && b && c)
    and_assoc true b c = refl
    and_assoc false b c = refl

pub below_most : (n : ℕ) → n < 2 ^ 128 → n ≡ min n (2 ^ 128 - 1)
below_most n h = omega arith

-- the number of at most 36 digits in two parts, which fits
pub value_fits : (xs ys : List ℕ) (first all : ℕ) → all_ascii_digits (xs ++ ys) ≡ true → length (xs ++ ys) ≤ 36
    → first ≡ min (digits_value_after 10 0 xs) (2 ^ 128 - 1) → all ≡ min (digits_value_after 10 first ys) (2 ^ 128 - 1)
    → (all ≡ digits_value 10 (xs ++ ys)) × (all < 10 ^ 36)
value_fits xs ys first all digits short one two =
    let small : digits_value 10 (xs ++ ys) < 10 ^ length (xs ++ ys) = digits_value-lt 10 (xs ++ ys) (are_digits (xs ++ ys) digits) in
    let power : 10 ^ length (xs ++ ys) ≤ 10 ^ 36 = pow-le-pow_right {n = 10} (omega arith) short in
    let part : digits_value 10 (take (length xs) (xs ++ ys)) ≤ digits_value 10 (xs ++ ys) = digits_value-take-le 10 (xs ++ ys) (length xs) (omega arith) in
    let front : digits_value_after 10 0 xs ≤ digits_value 10 (xs ++ ys) = subst (λ (l : List ℕ). digits_value 10 l ≤ digits_value 10 (xs ++ ys)) (take-append_seam xs ys) part in
    let first_is : first ≡ digits_value_after 10 0 xs = omega arith in
    let value : digits_value_after 10 first ys ≡ digits_value 10 (xs ++ ys) = ap (λ (n : ℕ). digits_value_after 10 n ys) first_is ∙ sym (value-append 0 xs ys) in
    (omega arith, omega arith)

pub natural-parts : (xs ys : List ℕ) → is_natural (xs ++ ys) ≡ (nat_lt 0 (length (xs ++ ys)) && (all_ascii_digits xs && all_ascii_digits ys))
natural-parts xs ys = ap (λ b. nat_lt 0 (length (xs ++ ys)) && b) (digits-append xs ys)

pub digits-leading : (ds : List ℕ) → all_ascii_digits ds ≡ true → all_ascii_digits (without_leading_zeros ds) ≡ true
digits-leading [] h = refl
digits-leading (d ∷ ds) h =
    cond_both (is_nought d) (without_leading_zeros ds) (d ∷ ds) (λ (l : List ℕ). all_ascii_digits l ≡ true)
    (λ _. digits-leading ds (and_parts (is_ascii_digit d) (all_ascii_digits ds) h).1) (λ _. h)

pub digits-trailing : (ds : List ℕ) → all_ascii_digits ds ≡ true → all_ascii_digits (without_trailing_zeros ds) ≡ true
digits-trailing [] h = refl
digits-trailing (d ∷ ds) h =
    let parts = and_parts (is_ascii_digit d) (all_ascii_digits ds) h in
    cond_both (list_all is_nought (d ∷ ds)) [] (d ∷ without_trailing_zeros ds) (λ (l : List ℕ). all_ascii_digits l ≡ true)
    (λ _. refl) (λ _. and_from (is_ascii_digit d) (all_ascii_digits (without_trailing_zeros ds)) parts.0 (digits-trailing ds parts.1))

pub digits-natural : (ds : List ℕ) → is_natural ds ≡ true → all_ascii_digits ds ≡ true
digits-natural ds h = (and_parts (nat_lt 0 (length ds)) (all_ascii_digits ds) h).1

pub no_digits : (ds : List ℕ) → length ds ≡ 0 → is_natural ds ≡ false
no_digits [] h = refl
no_digits (d ∷ ds) h = absurd (omega arith)
