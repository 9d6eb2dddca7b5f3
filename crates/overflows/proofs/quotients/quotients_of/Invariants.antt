use Rattle.std.proofs.Common.{◌≡◌, take, map}
use Rattle.exact_field.specs.Rational.{inverse_ℚ}
use Rattle.polyhedra.specs.Vectors.{scaled}
use Rattle.overflows.proofs.quotients.quotients_of.Given as goal

abbrev pub invariant-loop-i : goal.invariant-loop-i
invariant-loop-i g l =
    let value = g.F.Field.value in
    map value l.quotients ≡ scaled (inverse_ℚ (value l.by)) (take l.i (map value l.vector))
