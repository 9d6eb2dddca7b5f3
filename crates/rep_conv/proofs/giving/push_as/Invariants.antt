use Rattle.std.proofs.Common.{◌≡◌, ◌++◌, take}
use Rattle.rep_conv.specs.Converted.{as_rows}
use Rattle.rep_conv.proofs.giving.push_as.Given as goal

abbrev pub invariant-loop-vector : goal.invariant-loop-vector
invariant-loop-vector l = l.rows ≡ l.fn.rows ++ as_rows l.fn.kind (take l.vector-index l.vectors)
