use Rattle.std.proofs.Common.{sym, ap, ap₂, arith, ◌∙◌, ◌≡◌, ◌+◌, List, [], ◌∷◌, ◌++◌}
use Rattle.exact_field.specs.Rational.{ℚ}
use Rattle.frac128.specs.declared.vectors.Spot.{Spot}
use Rattle.vlp_matrices.proofs.Cells.{numbers-more}
use Rattle.vlp_matrices.specs.Matrices.{unit_spots}
use Rattle.vlp_matrices.proofs.matrix.units.Goals as goal

pub loop-before-preserved : goal.loop-before-preserved
loop-before-preserved c =
    let number : 1 + c.loop-before.before ≡ c.loop-before.before + 1 = omega arith in
    let unit = c.in_ok-push.ensures.ok ∙ ap₂ (λ (us : List Spot) (q : ℚ). us ++ record { at = c.loop-before.before + 1; value = q } ∷ []) c.new-unit.ensures c.from.ensures in
    c.in_ok-push-2.ensures.items ∙ ap₂ (λ (ls : List (List Spot)) (u : List Spot). ls ++ u ∷ []) c.loop-before.invariant (unit ∙ ap unit_spots (sym number))
    ∙ sym (numbers-more unit_spots 1 c.loop-before.before)
