-- Differences of numbers of which one is 0.
use Rattle.std.proofs.Common.{◌≡◌, ℕ, List, [], ◌∷◌, ◌++◌, ◌+◌, ◌-◌, length, take, drop, refl, ap, ◌∙◌, arith}
use Rattle.exact_field.specs.Rational.{ℚ, zero_ℚ, ◌+ℚ◌, ◌-ℚ◌, neg_ℚ}
use Rattle.exact_field.proofs.Rationals.{add-zero_ℚ, zero-add_ℚ, neg-zero_ℚ}
use Rattle.tableaux.specs.Table.{minus}
use Rattle.std.specs.List.{slice_range}
use Rattle.vlp_problem.specs.declared.problem.Problem.{Problem}
use Rattle.vlp_problem.specs.declared.problem.Cone.{Cone}
use Rattle.vlp_problem.specs.declared.problem.Cone.TheVariants.{Orthant, Gens, Dual}
use Rattle.lp_form.specs.Programs.{after_w_of, v_of}
use Rattle.lp_form.specs.Reading.{kept_after}

pub less_zero : (x y : ℚ) → y ≡ zero_ℚ → x -ℚ y ≡ x
less_zero x y e = ap (λ q. x +ℚ neg_ℚ q) e ∙ ap (λ q. x +ℚ q) neg-zero_ℚ ∙ add-zero_ℚ x

pub zero_less : (x y : ℚ) → x ≡ zero_ℚ → x -ℚ y ≡ neg_ℚ y
zero_less x y e = ap (λ q. q +ℚ neg_ℚ y) e ∙ zero-add_ℚ (neg_ℚ y)

pub minus-push : (xs ys : List ℚ) (x y : ℚ) → length xs ≡ length ys → minus (xs ++ x ∷ []) (ys ++ y ∷ []) ≡ minus xs ys ++ (x -ℚ y) ∷ []
minus-push [] [] x y h = refl
minus-push [] (b ∷ ys) x y h = absurd (omega (arith, h))
minus-push (a ∷ xs) [] x y h = absurd (omega (arith, h))
minus-push (a ∷ xs) (b ∷ ys) x y h = ap (λ l. (a -ℚ b) ∷ l) (minus-push xs ys x y (omega (arith, h)))

-- a part of a list
pub part_is : (z : List ℚ) (a n b k : ℕ) → a ≡ b → n ≡ k → slice_range z a (a + n) ≡ take k (drop b z)
part_is z a n b k e h =
    let long : a + n - a ≡ n = omega arith in
    ap (λ m. take m (drop a z)) (long ∙ h) ∙ ap (λ m. take k (drop m z)) e

-- what stands after w
pub after_is : (file : Problem) (cone : Cone) (z : List ℚ) → kept_after cone (after_w_of file z) ≡ v_of file cone z
after_is file Orthant z = refl
after_is file (Gens vectors) z = refl
after_is file (Dual vectors) z = refl
