use Rattle.std.proofs.Common.{take}
use Rattle.recession.specs.Further.{SayCuts}
use Rattle.recession.proofs.further.entries_of.Given as goal

abbrev pub invariant-loop-cut : goal.invariant-loop-cut
invariant-loop-cut g l = SayCuts g.F.Field.value (take l.cut-index l.cuts) l.entries
