-- What a scan of a word's bytes tells of its numbers.
use Rattle.std.proofs.Common.{◌≡◌, refl, ℕ, zero, suc, ◌-◌, ◌^◌, ◌<◌, ◌≤◌, true, false, ◌&&◌, ◌||◌, nat_lt, nat_le, eqb, ◌==◌, Bool, IsTrue, IsFalse, List, [], ◌∷◌, ◌++◌, length, drop, get_or, min, arith, ap, sym, ◌∙◌, subst, decimal, codes, None, Some, Option, if◌then◌else◌, ℤ, pos, negsuc, ◌*ℤ◌, unsigned_abs, eq-eqb, ◌⊎◌, inl, inr, MatchOption, to_z, of_z, ◌<ℤ◌, ◌≤ℤ◌}
use Rattle.std.specs.Prelude.{nat_eq}
use Rattle.std.specs.Cmp.Lexicographic.{pointwise, same_text, other_text}
use Rattle.std.specs.Char.{is_ascii_digit, digit_value}
use Rattle.std.specs.Int.{IsInRange, IsGcd, w128}
use Rattle.std.proofs.lemmas.Int.{to_z-of_z, fits_signed_from_abs, ints}
use Rattle.std.specs.Fmt.{signed_decimal}
use Rattle.std.specs.List.{slice_split, join_with_byte}
use Rattle.std.specs.Str.{all_ascii_digits}
use Rattle.std.specs.Str.Parse.{AllDigits, digits_value, starts_with_minus}
use Rattle.std.proofs.lemmas.Bool.{and_parts, and_from, lt-ltb, ltb-true, eqb-true, false≢true}
use Rattle.std.proofs.lemmas.Bool.Decides.{nat_tests}
use Rattle.std.proofs.lemmas.List.Splits.{slice_split_none, join_with_byte-slice_split, length-slice_split}
use Rattle.std.proofs.lemmas.Nat.Gcd.{same_from_IsGcd}
use Rattle.std.proofs.lemmas.Str.{digit_value_digit}
use Rattle.std.proofs.lemmas.Str.Parse.{IsNumeralModel, numerals_by_value, tells_all_ascii_digits}
use Rattle.exact_field.specs.Gcd.{gcd, gcd_is}
use Rattle.exact_field.specs.Rational.{ℚ, fraction}
use Rattle.exact_field.proofs.Integers.{mul-positive_cancel}
use Rattle.exact_field.proofs.RationalLaws.{fraction_represents, parts_of_lowest}
use Rattle.frac128.specs.Held.{is_held, held_small}
use Rattle.frac128.specs.Signed.{signed}
use Rattle.frac128.specs.Text.{frac_text}
use Rattle.word_lines.specs.Numerals.{same_word, is_positive_numeral, natural_fault, is_quotient, numerator, denominator, quotient_fault}
use Rattle.word_lines.specs.declared.number.Quotient.{Quotient}
use Rattle.word_lines.specs.declared.fault.LogKind.TheVariants.{BadNumber, OutOfRange}
use Rattle.word_lines.proofs.Cutting.{digits_lack}
use Rattle.word_lines.proofs.Numerals.{all_digits, same_word-true, positive_text}
use Rattle.word_lines.proofs.Fractions.{den_text, passes_by, not_wide, quotient_parts, held_from, with_minus}

pub digit_small : (b : ℕ) → is_ascii_digit b ≡ true → (digit_value b ≡ b - 48) × (digit_value b < 10) × (48 ≤ b)
digit_small b h =
    let range : IsInRange 48 57 b = (grind (arith, nat_tests), grind (arith, nat_tests)) in
    let value = digit_value_digit b range in
    let low : 48 ≤ b = range.0 in
    let high : b ≤ 57 = range.1 in
    (omega arith, omega arith, low)

pub not_all_digits : (ds : List ℕ) (i : ℕ) → i < length ds → is_ascii_digit (get_or ds i 0) ≡ false → all_ascii_digits ds ≡ false
not_all_digits [] i low h = absurd (omega arith)
not_all_digits (b ∷ ds) zero low h = ap (λ t. t && all_ascii_digits ds) h
not_all_digits (b ∷ ds) (suc i) low h = last (is_ascii_digit b) (all_ascii_digits ds) (not_all_digits ds i (omega arith) h)
  where
    last : (x y : Bool) → y ≡ false → (x && y) ≡ false
    last true y e = e
    last false y e = refl

own : IsNumeralModel (λ ds. all_ascii_digits ds ≡ true) (digits_value 10)
own = numerals_by_value _ tells_all_ascii_digits

pub are_digits : (ds : List ℕ) → AllDigits 10 ds → all_ascii_digits ds ≡ true
are_digits ds h = own.from ds h

-- a word that is not `0`
pub other_word : (v w : List ℕ) → (v ≡ w → ⊥) → same_word v w ≡ false
other_word v w h = by (same_word v w) refl
  where
    by : (b : Bool) → same_word v w ≡ b → same_word v w ≡ false
    by true e = absurd (h (same_word-true v w e))
    by false e = e

-- natural numbers

pub not_natural : (w : List ℕ) → same_word w (codes "0") ≡ false → is_positive_numeral w ≡ false → natural_fault w ≡ Some BadNumber
not_natural w h k = rw (h, k) refl

pub natural_read : (w : List ℕ) (v : ℕ) → is_positive_numeral w ≡ true → v ≡ min (digits_value 10 w) (2 ^ 120) → v < 2 ^ 32 → w ≡ decimal v
natural_read w v h is low =
    let same : digits_value 10 w ≡ v = omega arith in
    sym (positive_text w h (omega arith)).0 ∙ ap decimal same

pub natural_over : (w : List ℕ) (v : ℕ) → same_word w (codes "0") ≡ false → is_positive_numeral w ≡ true → v ≡ min (digits_value 10 w) (2 ^ 120) → 2 ^ 32 ≤ v → natural_fault w ≡ Some OutOfRange
natural_over w v z h is high = rw (z, h, lt-ltb 4294967295 (digits_value 10 w) (omega arith)) refl

-- fractions

pub quotient_cut : (num : List ℕ) (den : List ℕ) → is_positive_numeral den ≡ true → slice_split (λ b. b == 47) den ≡ den ∷ []
quotient_cut num den h =
    let p = and_parts (nat_lt 0 (length den)) _ h in
    let q = and_parts (all_ascii_digits den) _ p.1 in
    slice_split_none (λ b. b == 47) den (digits_lack 47 den (omega arith) (all_digits den q.0))

pub lowest_gcd : (n : ℤ) (d : ℕ) → 0 < d → (fraction n d).den ≡ d → (gcd (unsigned_abs n) d == 1) ≡ true
lowest_gcd n d some same =
    let q : ℚ = fraction n d in
    let cross = (fraction_represents n d some).cross in
    let nums : q.num ≡ n = mul-positive_cancel q.num n d some (cross ∙ ap (λ (e : ℕ). n *ℤ pos e) same) in
    let lowest : IsGcd (unsigned_abs n) d 1 = subst (λ (e : ℕ). IsGcd (unsigned_abs n) e 1) same (subst (λ (m : ℤ). IsGcd (unsigned_abs m) q.den 1) nums q.lowest) in
    eq-eqb _ 1 (same_from_IsGcd (unsigned_abs n) d _ 1 (gcd_is (unsigned_abs n) d) lowest)

pub lowest_parts : (n : ℤ) (d : ℕ) → 0 < d → (gcd (unsigned_abs n) d == 1) ≡ true → ((fraction n d).num ≡ n) × ((fraction n d).den ≡ d)
lowest_parts n d some h =
    parts_of_lowest (fraction n d) n d (fraction_represents n d some) (subst (λ (g : ℕ). IsGcd (unsigned_abs n) d g) (eqb-true _ 1 h) (gcd_is (unsigned_abs n) d))

same_word-refl : (w : List ℕ) → same_word w w ≡ true
same_word-refl [] = refl
same_word-refl (x ∷ w) = and_from (eqb x x) (same_word w w) (eq-eqb x x refl) (same_word-refl w)

pub same_word_by : (v w : List ℕ) (b : Bool) → b ≡ pointwise nat_eq v w → b ≡ same_word v w
same_word_by v w true e = sym (ap (λ x. same_word v x) (sym (same_text v w e)) ∙ same_word-refl v)
same_word_by v w false e = sym (other_word v w (other_text v w e))

-- whole numbers of 128 bits are kept
pub kept : (z : ℤ) → unsigned_abs z < 2 ^ 120 → to_z w128 (of_z w128 z) ≡ z
kept z h = to_z-of_z w128 z (fits_signed_from_abs w128 z (omega arith))

-- a denominator that is no numeral, whatever is cut from it
pub no_quotient : (num den : List ℕ) (pieces : List (List ℕ)) → join_with_byte 47 pieces ≡ den → is_quotient (num ∷ den ∷ []) ≡ false → 0 < length pieces → is_quotient (num ∷ pieces) ≡ false
no_quotient num den [] e h some = absurd (omega arith)
no_quotient num den (d ∷ []) e h some = ap (λ w. is_quotient (num ∷ w ∷ [])) e ∙ h
no_quotient num den (d ∷ f ∷ more) e h some = refl

-- a positive whole number is its magnitude
pub positive_is : (z : ℤ) → pos 0 <ℤ z → (pos (unsigned_abs z) ≡ z) × (0 < unsigned_abs z)
positive_is (pos n) h = (refl, omega (arith, ints, h))
positive_is (negsuc n) h = absurd (omega (arith, ints, h))

pub lowest_some : (num den n d : ℤ) (q : ℚ) → n ≡ num → d ≡ den → pos 0 <ℤ den → q ≡ fraction n (unsigned_abs d) → pos q.den ≡ den → ((gcd (unsigned_abs num) (unsigned_abs den) == 1) ≡ true) × (q.num ≡ num) × (pos q.den ≡ den)
lowest_some num den n d q same_n same_d some is same =
    let p = positive_is den some in
    let q_is : q ≡ fraction num (unsigned_abs den) = is ∙ (λ i. fraction (same_n i) (unsigned_abs (same_d i))) in
    let dens : q.den ≡ unsigned_abs den = ap unsigned_abs same in
    let low = lowest_gcd num (unsigned_abs den) p.1 (ap (λ (x : ℚ). x.den) (sym q_is) ∙ dens) in
    let parts = lowest_parts num (unsigned_abs den) p.1 low in
    (low, ap (λ (x : ℚ). x.num) q_is ∙ parts.0, same)

-- a number in lowest terms has its own denominator
pub lowest_other : (num den n d : ℤ) (q : ℚ) → n ≡ num → d ≡ den → pos 0 <ℤ den → q ≡ fraction n (unsigned_abs d) → (pos q.den ≡ den → ⊥) → (gcd (unsigned_abs num) (unsigned_abs den) == 1) ≡ false
lowest_other num den n d q same_n same_d some is other = by (gcd (unsigned_abs num) (unsigned_abs den) == 1) refl
  where
    by : (b : Bool) → (gcd (unsigned_abs num) (unsigned_abs den) == 1) ≡ b → (gcd (unsigned_abs num) (unsigned_abs den) == 1) ≡ false
    by true e =
        let p = positive_is den some in
        let q_is : q ≡ fraction num (unsigned_abs den) = is ∙ (λ i. fraction (same_n i) (unsigned_abs (same_d i))) in
        absurd (other (ap (λ (x : ℚ). pos x.den) q_is ∙ ap pos (lowest_parts num (unsigned_abs den) p.1 e).1 ∙ p.0))
    by false e = e

-- and is held where its parts are
pub lowest_none : (num den n d : ℤ) → n ≡ num → d ≡ den → pos 0 <ℤ den → unsigned_abs num < 2 ^ 120 → unsigned_abs den < 2 ^ 120 → (d ≤ℤ pos 0) ⊎ IsFalse (is_held (fraction n (unsigned_abs d))) → (gcd (unsigned_abs num) (unsigned_abs den) == 1) ≡ false
lowest_none num den n d same_n same_d some small small_den (inl low) = absurd (not_low d (subst (λ (z : ℤ). pos 0 <ℤ z) (sym same_d) some) low)
  where
    not_low : (z : ℤ) → pos 0 <ℤ z → z ≤ℤ pos 0 → ⊥
    not_low z h k = omega (arith, ints, h, k)
lowest_none num den n d same_n same_d some small small_den (inr wide) = by (gcd (unsigned_abs num) (unsigned_abs den) == 1) refl
  where
    by : (b : Bool) → (gcd (unsigned_abs num) (unsigned_abs den) == 1) ≡ b → (gcd (unsigned_abs num) (unsigned_abs den) == 1) ≡ false
    by true e =
        let p = positive_is den some in
        let parts = lowest_parts num (unsigned_abs den) p.1 e in
        let q_is : fraction n (unsigned_abs d) ≡ fraction num (unsigned_abs den) = λ i. fraction (same_n i) (unsigned_abs (same_d i)) in
        let num_small : unsigned_abs (fraction num (unsigned_abs den)).num < 2 ^ 120 = rw parts.0 small in
        let den_small : (fraction num (unsigned_abs den)).den < 2 ^ 120 = rw parts.1 small_den in
        let held : IsTrue (is_held (fraction num (unsigned_abs den))) = and_from _ _ (lt-ltb _ (2 ^ 120) num_small) (lt-ltb _ (2 ^ 120) den_small) in
        absurd (false≢true (sym wide ∙ ap is_held q_is ∙ held))
    by false e = e

pub cut_quotient : (word num den : List ℕ) (result : Option Quotient) → slice_split (λ b. b == 47) word ≡ num ∷ slice_split (λ b. b == 47) den
    → MatchOption result (is_quotient (num ∷ den ∷ []) ≡ false) (λ q. (is_quotient (num ∷ den ∷ []) ≡ true) × (q.num ≡ min (numerator (num ∷ den ∷ [])) (2 ^ 120)) × (q.den ≡ min (denominator (num ∷ den ∷ [])) (2 ^ 120)))
    → MatchOption result (is_quotient (slice_split (λ b. b == 47) word) ≡ false) (λ q. (is_quotient (slice_split (λ b. b == 47) word) ≡ true) × (q.num ≡ min (numerator (slice_split (λ b. b == 47) word)) (2 ^ 120)) × (q.den ≡ min (denominator (slice_split (λ b. b == 47) word)) (2 ^ 120)))
cut_quotient word num den None cut h =
    ap is_quotient cut ∙ no_quotient num den (slice_split (λ b. b == 47) den) (join_with_byte-slice_split 47 den) h (omega (arith, length-slice_split (λ b. b == 47) den))
cut_quotient word num den (Some q) cut h =
    let p = and_parts (is_positive_numeral num) _ h.0 in
    let forms = and_parts (is_positive_numeral den) _ p.1 in
    let pieces : slice_split (λ b. b == 47) word ≡ num ∷ den ∷ [] = cut ∙ ap (λ ps. num ∷ ps) (quotient_cut num den forms.0) in
    (ap is_quotient pieces ∙ h.0, h.1 ∙ ap (λ ps. min (numerator ps) (2 ^ 120)) (sym pieces), h.2 ∙ ap (λ ps. min (denominator ps) (2 ^ 120)) (sym pieces))

-- a denominator with the bits of a number is this number
pub same_bits : (q : ℚ) (z den : ℤ) → z ≡ pos q.den → IsTrue (is_held q) → unsigned_abs den < 2 ^ 120 → of_z w128 z ≡ of_z w128 den → pos q.den ≡ den
same_bits q z den is held small bits =
    let small_q : q.den < 2 ^ 120 = (held_small q held).den_small in
    sym (kept (pos q.den) small_q) ∙ ap (λ (x : ℤ). to_z w128 (of_z w128 x)) (sym is) ∙ ap (to_z w128) bits ∙ kept den small

text_is : (negative : Bool) (n d : ℕ) (q : ℚ) → 0 < n → q.num ≡ signed negative n → q.den ≡ d → (if negative then 45 ∷ (decimal n ++ den_text d) else decimal n ++ den_text d) ≡ frac_text q
text_is negative zero d q some num den = absurd (omega arith)
text_is true (suc n) d q some num den = λ i. signed_decimal (sym num i) ++ den_text (sym den i)
text_is false (suc n) d q some num den = λ i. signed_decimal (sym num i) ++ den_text (sym den i)

with_sign : (word rest : List ℕ) (b : Bool) → starts_with_minus word ≡ b → rest ≡ (if b then drop 1 word else word) → word ≡ (if b then 45 ∷ rest else rest)
with_sign word rest true e h = with_minus word e ∙ ap (λ w. 45 ∷ w) (sym h)
with_sign word rest false e h = sym h

signed_abs : (b : Bool) (m : ℕ) → unsigned_abs (signed b m) ≡ m
signed_abs true zero = refl
signed_abs true (suc m) = refl
signed_abs false m = refl

-- the word of a quotient in lowest terms is what its number prints as
pub number_read : (word rest : List ℕ) (negative : Bool) (n d : ℕ) (q : ℚ) → negative ≡ starts_with_minus word → rest ≡ (if starts_with_minus word then drop 1 word else word)
    → is_quotient (slice_split (λ b. b == 47) rest) ≡ true → n ≡ min (numerator (slice_split (λ b. b == 47) rest)) (2 ^ 120) → d ≡ min (denominator (slice_split (λ b. b == 47) rest)) (2 ^ 120) → n < 2 ^ 120 → d < 2 ^ 120
    → (gcd n d == 1) ≡ true → q.num ≡ signed negative n → q.den ≡ d → IsTrue (is_held q) × (word ≡ frac_text q)
number_read word rest negative n d q sign rest_is forms n_is d_is small small_den low num den =
    let pieces : List (List ℕ) = slice_split (λ b. b == 47) rest in
    let same_n : numerator pieces ≡ n = omega arith in
    let same_d : denominator pieces ≡ d = omega arith in
    let fault : quotient_fault pieces ≡ None =
    passes_by _ _ _ forms ((λ i. nat_le (2 ^ 120) (same_n i) || nat_le (2 ^ 120) (same_d i)) ∙ not_wide n d small small_den) ((λ i. eqb (gcd (same_n i) (same_d i)) 1) ∙ low) in
    let parts = quotient_parts pieces fault in
    let text : rest ≡ decimal n ++ den_text d = sym (join_with_byte-slice_split 47 rest) ∙ parts.text_is ∙ (λ i. decimal (same_n i) ++ den_text (same_d i)) in
    let some : 0 < n = subst (λ (m : ℕ). 0 < m) same_n parts.some in
    let size : unsigned_abs q.num < 2 ^ 120 = subst (λ (m : ℕ). m < 2 ^ 120) (sym (ap unsigned_abs num ∙ signed_abs negative n)) small in
    let den_small : q.den < 2 ^ 120 = subst (λ (m : ℕ). m < 2 ^ 120) (sym den) small_den in (
      held_from q size den_small,
      with_sign word rest negative (sym sign) (rest_is ∙ ap (λ b. if b then drop 1 word else word) (sym sign))
          ∙ ap (λ w. if negative then 45 ∷ w else w) text ∙ text_is negative n d q some num den,
    )

-- a denominator of a quotient is positive
pub quotient_positive : (pieces : List (List ℕ)) → is_quotient pieces ≡ true → 0 < denominator pieces
quotient_positive [] h = cc
quotient_positive (num ∷ []) h = omega arith
quotient_positive (num ∷ den ∷ []) h =
    let p = and_parts (is_positive_numeral num) _ h in
    let above = ltb-true 1 (digits_value 10 den) (and_parts (is_positive_numeral den) _ p.1).1 in
    omega arith
quotient_positive (num ∷ den ∷ more ∷ pieces) h = cc

sizes : (negative : Bool) (num den : ℕ) (n d : ℤ) → n ≡ signed negative num → d ≡ pos den → (gcd num den == 1) ≡ (gcd (unsigned_abs n) (unsigned_abs d) == 1)
sizes negative num den n d same_n same_d = λ i. gcd (sym (ap unsigned_abs same_n ∙ signed_abs negative num) i) (sym (ap unsigned_abs same_d) i) == 1

pub made_by : (negative : Bool) (num den : ℕ) (n d : ℤ) (result : Option ℚ) → n ≡ signed negative num → d ≡ pos den
    → MatchOption result ((gcd (unsigned_abs n) (unsigned_abs d) == 1) ≡ false) (λ q. ((gcd (unsigned_abs n) (unsigned_abs d) == 1) ≡ true) × (q.num ≡ n) × (pos q.den ≡ d))
    → MatchOption result ((gcd num den == 1) ≡ false) (λ q. ((gcd num den == 1) ≡ true) × (q.num ≡ signed negative num) × (q.den ≡ den))
made_by negative num den n d None same_n same_d h = sizes negative num den n d same_n same_d ∙ h
made_by negative num den n d (Some q) same_n same_d h = (sizes negative num den n d same_n same_d ∙ h.0, h.1 ∙ same_n, ap unsigned_abs (h.2 ∙ same_d))

pub kept_signed : (b : Bool) (m : ℕ) (z : ℤ) → z ≡ signed b m → m < 2 ^ 120 → to_z w128 (of_z w128 z) ≡ signed b m
kept_signed b m z is small = kept z (subst (λ (n : ℕ). n < 2 ^ 120) (sym (ap unsigned_abs is ∙ signed_abs b m)) small) ∙ is
