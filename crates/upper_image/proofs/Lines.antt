-- Lines of the image: what shows one, and that cuts are level along each.
use Rattle.std.proofs.Common.{List, length, sym, ap, ◌∙◌, subst}
use Rattle.exact_field.specs.Rational.{ℚ, zero_ℚ, ◌+ℚ◌, ◌≤ℚ◌}
use Rattle.exact_field.specs.Vector.{dot}
use Rattle.polyhedra.specs.Farkas.{IsDualVector}
use Rattle.polyhedra.specs.Negatives.{negated}
use Rattle.polyhedra.specs.Vectors.{zeros, combination}
use Rattle.polyhedra.proofs.Farkas.{cut_holds}
use Rattle.polyhedra.proofs.Laws.{add_neg, le_antisymm}
use Rattle.polyhedra.proofs.Linear.{dot_comm, dot-zeros}
use Rattle.polyhedra.proofs.Negatives.{dot-negated}
use Rattle.polyhedra.proofs.Order.{le_of_difference}
use Rattle.upper_image.specs.Laws.{LineShown, CutsAreLevel}
use Rattle.upper_image.specs.OrderingCone.{IsInDualCone}
use Rattle.upper_image.specs.Spots.{dense}
use Rattle.upper_image.specs.UpperImage.{objectives, normals, IsWorkingDirection}
use Rattle.upper_image.proofs.Preimages.{direction_preimage_shows}
use Rattle.upper_image.proofs.Shown.{nonneg-dense, dual_shown}
use Rattle.upper_image.proofs.Widths.{length-dense}
use Rattle.vlp_problem.specs.Sides.{sides}
use Rattle.vlp_problem.specs.declared.problem.Problem.{Problem}
use Rattle.std.proofs.lemmas.List.{length-map}

pub line_shown : LineShown
line_shown file d x y h k = record { forth = direction_preimage_shows file d x h; back = direction_preimage_shows file (negated d) y k }

-- a dual vector shows that its normal grows along each direction, by weak duality for the bounds 0
grows : (file : Problem) (w u d : List ℚ) → IsDualVector file.cols (normals file) (combination file.cols w (objectives file)) u → IsInDualCone file w →
    IsWorkingDirection file d → zero_ℚ ≤ℚ dot w d
grows file w u d h m k = subst (λ (b : ℚ). b ≤ℚ dot w d) (dot_comm (zeros (length (normals file))) u ∙ dot-zeros u (length (normals file)))
    (cut_holds file.cols (normals file) (zeros (length (normals file))) (objectives file) w u k.solution d k.beyond h k.meets k.same (m.within k.beyond k.in_cone))

pub cuts_are_level : CutsAreLevel
cuts_are_level file c w gamma u v d h k =
    le_antisymm (dot w d) zero_ℚ
    (le_of_difference (dot w d) zero_ℚ (dot w (negated d)) (along (negated d) k.back) (ap (λ a. dot w d +ℚ a) (dot-negated w d) ∙ add_neg (dot w d)))
    (along d k.forth)
  where
    along : (e : List ℚ) → IsWorkingDirection file e → zero_ℚ ≤ℚ dot w e
    along e r = grows file w (dense (length (sides file)) u) e record {
      one_each = length-dense (length (sides file)) u ∙ sym (length-map (sides file) (λ s. s.normal));
      at_least_zero = nonneg-dense (length (sides file)) u h.sign;
      balanced = h.balance;
    } (dual_shown file.objs file.cone w v file.cone_vectors h.lengths h.cone) r
