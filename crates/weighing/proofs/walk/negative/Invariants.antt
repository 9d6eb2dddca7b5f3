use Rattle.std.proofs.Common.{◌≡◌, map, take}
use Rattle.exact_field.specs.Rational.{neg_ℚ}
use Rattle.weighing.proofs.walk.negative.Given as goal

abbrev pub invariant-loop-entry : goal.invariant-loop-entry
invariant-loop-entry l = l.negative ≡ map neg_ℚ (take l.entry-index l.v)
