use Rattle.std.proofs.Common.{◌≡◌, take, map}
use Rattle.exact_field.specs.Rational.{neg_ℚ}
use Rattle.poly_calc.proofs.sides.negative.Given as goal

abbrev pub invariant-loop-value : goal.invariant-loop-value
invariant-loop-value l = l.turned ≡ map neg_ℚ (take l.value-index l.vector)
