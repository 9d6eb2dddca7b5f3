use Rattle.std.proofs.Common.{◌≡◌, take}
use Rattle.overflows.proofs.dd_licences.vectors_with.Given as goal

abbrev pub invariant-loop-k : goal.invariant-loop-k
invariant-loop-k g l = l.out ≡ take l.k l.dd.rows
