-- The canonical text of a held number is that of no other.
use Rattle.std.specs.Prelude.{◌≡◌, ℕ, ℤ, pos, negsuc, suc, ◌<◌, ◌≤◌, ◌^◌, unsigned_abs, Bool, true, false, cond, ◌==◌, List, [], ◌∷◌, ◌++◌, decimal, if◌then◌else◌, refl}
use Rattle.std.specs.Char.{digit_value}
use Rattle.std.specs.Fmt.{signed_decimal}
use Rattle.std.specs.Str.Parse.{AllDigits, digits_value}
use Rattle.std.proofs.Common.{arith, sym, ap, ◌∙◌, subst}
use Rattle.std.proofs.lemmas.Bool.Decides.{nat_tests}
use Rattle.std.proofs.lemmas.Fmt.{decimal_is_IsNumeral_wide}
use Rattle.std.proofs.lemmas.List.{append_cancel_left}
use Rattle.exact_field.specs.Field.{IsSmall}
use Rattle.exact_field.specs.Rational.{ℚ, same_parts}
use Rattle.frac128.specs.Held.{held_small}
use Rattle.frac128.specs.Laws.{OneNumberPerText}
use Rattle.frac128.specs.Text.{frac_text}

-- the bytes before the first `/`
before_slash : List ℕ → List ℕ
before_slash [] = []
before_slash (c ∷ cs) = cond (c == 47) [] (c ∷ before_slash cs)

not_slash : (c : ℕ) → digit_value c < 10 → (c == 47) ≡ false
not_slash c h = grind (arith, nat_tests)

before_slash-digits : (ds rest : List ℕ) → AllDigits 10 ds → before_slash (ds ++ 47 ∷ rest) ≡ ds
unfolding before_slash
before_slash-digits [] rest all = refl
before_slash-digits (c ∷ ds) rest all =
    ap (λ (b : Bool). cond b [] (c ∷ before_slash (ds ++ 47 ∷ rest))) (not_slash c all.0) ∙ ap (λ (xs : List ℕ). c ∷ xs) (before_slash-digits ds rest all.1)

before_slash-all : (ds : List ℕ) → AllDigits 10 ds → before_slash (ds ++ []) ≡ ds
unfolding before_slash
before_slash-all [] all = refl
before_slash-all (c ∷ ds) all =
    ap (λ (b : Bool). cond b [] (c ∷ before_slash (ds ++ []))) (not_slash c all.0) ∙ ap (λ (xs : List ℕ). c ∷ xs) (before_slash-all ds all.1)

wide : (n : ℕ) → n ≤ 2 ^ 120 → n < 10 ^ 64
wide n h = omega arith

decimal_digits : (n : ℕ) → n ≤ 2 ^ 120 → AllDigits 10 (decimal n)
decimal_digits n h = (decimal_is_IsNumeral_wide n (wide n h)).0.1

decimal_of_one : (m n : ℕ) → m ≤ 2 ^ 120 → n ≤ 2 ^ 120 → decimal m ≡ decimal n → m ≡ n
decimal_of_one m n h k e = sym (decimal_is_IsNumeral_wide m (wide m h)).1 ∙ ap (digits_value 10) e ∙ (decimal_is_IsNumeral_wide n (wide n k)).1

minus_is_no_digit : (ds rest : List ℕ) → AllDigits 10 ds → ds ≡ 45 ∷ rest → ⊥
minus_is_no_digit [] rest all e = cc
minus_is_no_digit (c ∷ ds) rest all e =
    let same : c ≡ 45 = cc in
    let digit : digit_value 45 < 10 = subst (λ (n : ℕ). digit_value n < 10) same all.0 in
    absurd (omega arith)

tail_same : (c : ℕ) (xs ys : List ℕ) → c ∷ xs ≡ c ∷ ys → xs ≡ ys
tail_same c xs ys e = cc

signed_of_one : (n m : ℤ) → unsigned_abs n < 2 ^ 120 → unsigned_abs m < 2 ^ 120 → signed_decimal n ≡ signed_decimal m → n ≡ m
signed_of_one (pos n) (pos m) h k e = ap pos (decimal_of_one n m (omega arith) (omega arith) e)
signed_of_one (pos n) (negsuc m) h k e = absurd (minus_is_no_digit (decimal n) (decimal (suc m)) (decimal_digits n (omega arith)) e)
signed_of_one (negsuc n) (pos m) h k e = absurd (minus_is_no_digit (decimal m) (decimal (suc n)) (decimal_digits m (omega arith)) (sym e))
signed_of_one (negsuc n) (negsuc m) h k e =
    let same : suc n ≡ suc m = decimal_of_one (suc n) (suc m) (omega arith) (omega arith) (tail_same 45 (decimal (suc n)) (decimal (suc m)) e) in
    ap negsuc (omega arith)

-- what stands after the numerator
den_text : ℕ → List ℕ
den_text d = if d == 1 then [] else 47 ∷ decimal d

before_slash-den : (ds : List ℕ) (d : ℕ) (b : Bool) → AllDigits 10 ds → before_slash (ds ++ cond b [] (47 ∷ decimal d)) ≡ ds
before_slash-den ds d true all = before_slash-all ds all
before_slash-den ds d false all = before_slash-digits ds (decimal d) all

before_slash-number : (n : ℤ) (d : ℕ) → unsigned_abs n < 2 ^ 120 → before_slash (signed_decimal n ++ den_text d) ≡ signed_decimal n
unfolding before_slash den_text
before_slash-number (pos n) d h = before_slash-den (decimal n) d (d == 1) (decimal_digits n (omega arith))
before_slash-number (negsuc n) d h = ap (λ (xs : List ℕ). 45 ∷ xs) (before_slash-den (decimal (suc n)) d (d == 1) (decimal_digits (suc n) (omega arith)))

den_by : (d e : ℕ) (s t : Bool) → (d == 1) ≡ s → (e == 1) ≡ t → d < 2 ^ 120 → e < 2 ^ 120 → cond s [] (47 ∷ decimal d) ≡ cond t [] (47 ∷ decimal e) → d ≡ e
den_by d e true true hd he h k same = let x : d ≡ 1 = grind (arith, nat_tests) in let y : e ≡ 1 = grind (arith, nat_tests) in omega arith
den_by d e true false hd he h k same = cc
den_by d e false true hd he h k same = cc
den_by d e false false hd he h k same = decimal_of_one d e (omega arith) (omega arith) (tail_same 47 (decimal d) (decimal e) same)

den_of_one : (d e : ℕ) → d < 2 ^ 120 → e < 2 ^ 120 → den_text d ≡ den_text e → d ≡ e
unfolding den_text
den_of_one d e h k same = den_by d e (d == 1) (e == 1) refl refl h k same

text_is : (q : ℚ) → frac_text q ≡ signed_decimal q.num ++ den_text q.den
unfolding den_text
text_is q = refl

pub one_number_per_text : OneNumberPerText
one_number_per_text p q hp hq e =
    let small_p : IsSmall p = held_small p hp in
    let small_q : IsSmall q = held_small q hq in
    let texts : signed_decimal p.num ++ den_text p.den ≡ signed_decimal q.num ++ den_text q.den = sym (text_is p) ∙ e ∙ text_is q in
    let nums : signed_decimal p.num ≡ signed_decimal q.num = sym (before_slash-number p.num p.den small_p.num_small) ∙ ap before_slash texts ∙ before_slash-number q.num q.den small_q.num_small in
    let dens : den_text p.den ≡ den_text q.den = append_cancel_left (signed_decimal q.num) (den_text p.den) (den_text q.den) (ap (λ (xs : List ℕ). xs ++ den_text p.den) (sym nums) ∙ texts) in
    same_parts p q (signed_of_one p.num q.num small_p.num_small small_q.num_small nums) (den_of_one p.den q.den small_p.den_small small_q.den_small dens)
