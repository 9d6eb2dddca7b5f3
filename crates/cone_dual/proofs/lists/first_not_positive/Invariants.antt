use Rattle.std.proofs.Common.{map, take, All}
use Rattle.exact_field.specs.Rational.{zero_ℚ, ◌<ℚ◌}
use Rattle.cone_dual.proofs.lists.first_not_positive.Given as goal

abbrev pub invariant-loop-i : goal.invariant-loop-i
invariant-loop-i g l = All (λ x. zero_ℚ <ℚ x) (map g.F.Field.value (take l.i l.list))
