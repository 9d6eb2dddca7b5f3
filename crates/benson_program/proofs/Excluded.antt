-- Answers that exclude each other.
use Rattle.std.proofs.Common.{◌≡◌, List, [], ◌∷◌, length, refl, ap, ◌∙◌, subst}
use Rattle.std.specs.Prelude.{pos}
use Rattle.exact_field.specs.Rational.{ℚ, one_ℚ, ◌+ℚ◌, ◌*ℚ◌, neg_ℚ, ◌≤ℚ◌}
use Rattle.exact_field.specs.Vector.{dot}
use Rattle.exact_field.specs.Ring.{v0, ◌⊕◌, ⊖, num}
use Rattle.exact_field.proofs.RingTool.{ring}
use Rattle.exact_field.proofs.Rationals.{rationals}
use Rattle.frac128.specs.declared.vectors.Spot.{Spot}
use Rattle.polyhedra.specs.Vectors.{scaled}
use Rattle.polyhedra.proofs.Laws.{mul_one, zero_lt_one}
use Rattle.polyhedra.proofs.Linear.{dot-scaled, length-scaled}
use Rattle.polyhedra.proofs.Order.{lt_of_difference, not_lt_of_le}
use Rattle.vlp_problem.specs.declared.problem.Problem.{Problem}
use Rattle.upper_image.specs.UpperImage.{turned, IsInWorkingImage}
use Rattle.upper_image.specs.Witnesses.{IsWhole}
use Rattle.upper_image.proofs.ConvexCones.{ordering_cone_convex}
use Rattle.upper_image.proofs.Coordinates.{length-turned, turned-twice}
use Rattle.upper_image.proofs.WholeImage.{whole_is_all}
use Rattle.upper_image.proofs.WorkingImage.{cut_valid, infeasible_is_empty}
use Rattle.benson_program.specs.Laws.{IsCutNormal, AnswersExclude}

-- far enough along -c a valid cut fails
whole_or_cut : (file : Problem) (c w : List ℚ) (x ray : List Spot) → IsWhole file c x ray → IsCutNormal file c w → ⊥
whole_or_cut file c w x ray h (gamma, u, v, k) =
    let s : ℚ = gamma +ℚ neg_ℚ one_ℚ in
    let y : List ℚ = scaled s c in
    let wide : length y ≡ file.objs = length-scaled s c ∙ (ordering_cone_convex file).wide c h.fits.interior.member in
    let inside : IsInWorkingImage file y = subst (IsInWorkingImage file) (turned-twice file.dir y)
    (whole_is_all file c x ray h (turned file.dir y) (length-turned file.dir y ∙ wide)) in
    let value : dot w y ≡ s = dot-scaled w s c ∙ ap (λ q. s *ℚ q) k.scaled ∙ mul_one s in
    not_lt_of_le gamma s (subst (λ (q : ℚ). gamma ≤ℚ q) value ((cut_valid file c w gamma u v k).valid.holds y inside))
    (lt_of_difference s gamma one_ℚ zero_lt_one (ring rationals (gamma ∷ []) ((v0 ⊕ ⊖ (num (pos 1))) ⊕ num (pos 1)) v0 refl))

pub answers_exclude : AnswersExclude
answers_exclude = record { infeasible = infeasible_is_empty; whole = whole_or_cut }
