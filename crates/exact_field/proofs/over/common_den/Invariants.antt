use Rattle.std.proofs.Common.{pos, ◌<ℤ◌}
use Rattle.exact_field.specs.Over.{IsBelowLimit}
use Rattle.exact_field.proofs.over.common_den.Given as goal

abbrev pub invariant-loop-x : goal.invariant-loop-x
invariant-loop-x g l = (pos 0 <ℤ l.den) × IsBelowLimit l.den
