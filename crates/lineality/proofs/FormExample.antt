-- Lines in space, computed.
use Rattle.std.proofs.Common.{◌≡◌, List, [], ◌∷◌, AllPairs, refl, sym, ◌∙◌, arith, ◌<◌, pos}
use Rattle.std.proofs.lemmas.List.Elements.{All-nil, All-cons, All-head, All-tail}
use Rattle.exact_field.specs.Gcd.{gcd}
use Rattle.exact_field.specs.Rational.{ℚ, zero_ℚ, one_ℚ, whole, fraction, ◌+ℚ◌, ◌*ℚ◌, neg_ℚ, le_ℚ}
use Rattle.exact_field.specs.Vector.{entry}
use Rattle.exact_field.proofs.RationalLaws.{whole_injective}
use Rattle.exact_field.proofs.Rationals.{one-not-zero}
use Rattle.polyhedra.specs.DoubleDescription.{leading}
use Rattle.polyhedra.specs.Examples.{wholes}
use Rattle.polyhedra.proofs.Lists.{wide-nil, wide-cons}
use Rattle.polyhedra.proofs.Members.{pairs-nil, pairs-cons, pairs-head}
use Rattle.polyhedra.proofs.Tests.{same_vector_is}
use Rattle.lineality.specs.Lines.{leading_place, AreEchelon, IsReduced}
use Rattle.lineality.specs.Examples.{first_line, second_line, two_lines, FormExample}

-- ---- places and entries
first_place : leading_place first_line ≡ 1
unfolding whole le_ℚ gcd
first_place = refl

second_place : leading_place second_line ≡ 2
unfolding whole le_ℚ gcd
second_place = refl

first_one : leading first_line ≡ one_ℚ
unfolding whole le_ℚ gcd
first_one = refl

second_one : leading second_line ≡ one_ℚ
unfolding whole le_ℚ gcd
second_one = refl

first_off : entry first_line (leading_place second_line) ≡ zero_ℚ
unfolding whole le_ℚ gcd
first_off = refl

Rises : List ℚ → List ℚ → Type 0
Rises d e = leading_place d < leading_place e

Off : List ℚ → List ℚ → Type 0
Off d e = entry d (leading_place e) ≡ zero_ℚ

IsOne : List ℚ → Type 0
IsOne d = leading d ≡ one_ℚ

pair_of : (R : List ℚ → List ℚ → Type 0) → R first_line second_line → AllPairs R two_lines
pair_of R h = pairs-cons R first_line (second_line ∷ []) (All-cons (R first_line) second_line [] h (All-nil (R first_line)))
    (pairs-cons R second_line [] (All-nil (R second_line)) (pairs-nil R))

form : AreEchelon 3 two_lines
unfolding Rises Off IsOne
form = record {
  wide = wide-cons 3 first_line (second_line ∷ []) refl (wide-cons 3 second_line [] refl (wide-nil 3));
  leading_one = All-cons IsOne first_line (second_line ∷ []) first_one (All-cons IsOne second_line [] second_one (All-nil IsOne));
  places_rise = pair_of Rises (omega (arith, first_place, second_place));
  others_zero = pair_of Off first_off;
}

-- ---- near misses
abbrev beside : List ℚ
beside = wholes (pos 1 ∷ pos 1 ∷ pos 1 ∷ [])

beside_on : entry beside (leading_place second_line) ≡ one_ℚ
unfolding whole le_ℚ gcd
beside_on = refl

not_apart : AreEchelon 3 (beside ∷ second_line ∷ []) → ⊥
unfolding Off
not_apart h = one-not-zero (sym beside_on ∙ All-head (Off beside) second_line [] (pairs-head Off beside (second_line ∷ []) h.others_zero))

not_rising : AreEchelon 3 (second_line ∷ first_line ∷ []) → ⊥
unfolding Rises
not_rising h =
    let falls : leading_place second_line < leading_place first_line = All-head (Rises second_line) first_line [] (pairs-head Rises second_line (first_line ∷ []) h.places_rise) in
    omega (arith, falls, first_place, second_place)

abbrev twice : List ℚ
twice = wholes (pos 2 ∷ pos 0 ∷ pos 4 ∷ [])

twice_two : leading twice ≡ whole (pos 2)
unfolding whole le_ℚ gcd
twice_two = refl

not_one : AreEchelon 3 (twice ∷ []) → ⊥
unfolding IsOne
not_one h = let e : pos 2 ≡ pos 1 = whole_injective (pos 2) (pos 1) (sym twice_two ∙ All-head IsOne twice [] h.leading_one) in cc

-- ---- reduced vectors
abbrev third : List ℚ
third = wholes (pos 0 ∷ pos 0 ∷ pos 5 ∷ [])

third_first : entry third (leading_place first_line) ≡ zero_ℚ
unfolding whole le_ℚ gcd
third_first = refl

third_second : entry third (leading_place second_line) ≡ zero_ℚ
unfolding whole le_ℚ gcd
third_second = refl

reduced : IsReduced two_lines third
reduced = All-cons (λ d. entry third (leading_place d) ≡ zero_ℚ) first_line (second_line ∷ []) third_first
    (All-cons (λ d. entry third (leading_place d) ≡ zero_ℚ) second_line [] third_second (All-nil (λ d. entry third (leading_place d) ≡ zero_ℚ)))

abbrev middle : List ℚ
middle = wholes (pos 0 ∷ pos 1 ∷ pos 0 ∷ [])

middle_on : entry middle (leading_place second_line) ≡ one_ℚ
unfolding whole le_ℚ gcd
middle_on = refl

not_reduced : IsReduced two_lines middle → ⊥
not_reduced h = one-not-zero (sym middle_on ∙ All-head (λ d. entry middle (leading_place d) ≡ zero_ℚ) second_line []
    (All-tail (λ d. entry middle (leading_place d) ≡ zero_ℚ) first_line (second_line ∷ []) h))

pub form_example : FormExample
unfolding whole fraction ◌+ℚ◌ ◌*ℚ◌ neg_ℚ le_ℚ gcd
form_example = record {
  form = form;
  not_apart = not_apart;
  not_rising = not_rising;
  not_one = not_one;
  reduced = reduced;
  not_reduced = not_reduced;
  reduces = same_vector_is _ _ refl;
  places = refl;
  one_open = refl;
  shorter = refl;
  longer = refl;
}
