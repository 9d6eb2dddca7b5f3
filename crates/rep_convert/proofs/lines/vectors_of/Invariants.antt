use Rattle.std.proofs.Common.{◌≡◌, take}
use Rattle.rep_convert.proofs.lines.vectors_of.Given as goal

abbrev pub invariant-loop-k : goal.invariant-loop-k
invariant-loop-k l = l.list ≡ take l.k l.rows.list
