use Rattle.std.proofs.Common.{◌≡◌, ◌*◌, ◌≤◌, drop, map}
use Rattle.exact_field.specs.Rational.{zero_ℚ, ◌+ℚ◌}
use Rattle.exact_field.specs.Vector.{dot}
use Rattle.double_descr.proofs.steps.product_by_steps.Given as goal
use Rattle.double_descr.specs.Steps.{IsSoFar, product_steps}

abbrev pub invariant-loop-i : goal.invariant-loop-i
invariant-loop-i g l =
    let value = g.F.Field.value in
    let row = map value l.row in
    let vector = map value l.vector in
    record {
      so_far : IsSoFar g.F.Field.holds (product_steps zero_ℚ row vector) (product_steps (value l.total) (drop l.i row) (drop l.i vector)) l.done;
      sum : value l.total +ℚ dot (drop l.i row) (drop l.i vector) ≡ dot row vector;
      few : l.done ≤ 2 * l.i;
    }
