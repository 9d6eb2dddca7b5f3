use Rattle.std.proofs.Common.{pos, ◌<ℤ◌}
use Rattle.exact_field.proofs.over.content.Given as goal

abbrev pub invariant-loop-n : goal.invariant-loop-n
invariant-loop-n g l = pos 0 <ℤ l.common
