use Rattle.std.proofs.Common.{◌≡◌, take}
use Rattle.double_descr.proofs.starting.copy_rows.Given as goal

abbrev pub invariant-loop-k : goal.invariant-loop-k
invariant-loop-k g l = l.out ≡ take l.k l.rows.list
