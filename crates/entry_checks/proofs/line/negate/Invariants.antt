use Rattle.std.proofs.Common.{◌≡◌, map, take}
use Rattle.exact_field.specs.Rational.{neg_ℚ}
use Rattle.entry_checks.proofs.line.negate.Given as goal

abbrev pub invariant-loop-x : goal.invariant-loop-x
invariant-loop-x l = l.opposite ≡ map neg_ℚ (take l.x-index l.v)
