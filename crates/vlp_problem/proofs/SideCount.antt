-- How many sides a list of bounds has.
use Rattle.std.proofs.Common.{◌≡◌, refl, ℕ, suc, ◌+◌, List, [], ◌∷◌, length, sum_by, ap, ◌∙◌, length-append, sym}
use Rattle.std.proofs.lemmas.List.Sums.{sum_by-cons}
use Rattle.exact_field.specs.Rational.{ℚ}
use Rattle.vlp_problem.specs.Sides.{sides_of, sides_from, side_number}
use Rattle.vlp_problem.specs.declared.problem.Bound.{Bound}
use Rattle.vlp_problem.specs.declared.problem.Bound.TheVariants.{Unsaid, Free, Lower, Upper, Double, Fixed}

length-sides_of : (v : List ℚ) (b : Bound) → length (sides_of v b) ≡ side_number b
length-sides_of v Unsaid = refl
length-sides_of v Free = refl
length-sides_of v (Lower low) = refl
length-sides_of v (Upper high) = refl
length-sides_of v (Double low high) = refl
length-sides_of v (Fixed value) = refl

pub length-sides_from : (v : ℕ → List ℚ) (k : ℕ) (bounds : List Bound) → length (sides_from v k bounds) ≡ sum_by side_number bounds
length-sides_from v k [] = refl
length-sides_from v k (b ∷ bounds) =
    length-append (sides_of (v k) b) (sides_from v (suc k) bounds)
    ∙ ap (λ n. n + length (sides_from v (suc k) bounds)) (length-sides_of (v k) b)
    ∙ ap (λ n. side_number b + n) (length-sides_from v (suc k) bounds)
    ∙ sym (sum_by-cons side_number b bounds)
