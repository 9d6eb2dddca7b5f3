use Rattle.std.proofs.Common.{take}
use Rattle.rep_conv.specs.Starting.{IsSetOf}
use Rattle.rep_conv.proofs.firsts.set_of.Given as goal

abbrev pub invariant-loop-k : goal.invariant-loop-k
invariant-loop-k l = IsSetOf l.fn.bound (take l.k-index l.numbers) l.marks
