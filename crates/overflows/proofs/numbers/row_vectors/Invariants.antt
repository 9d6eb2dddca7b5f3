use Rattle.std.proofs.Common.{◌≡◌, take}
use Rattle.lin_rows.specs.Read.{numbers}
use Rattle.overflows.proofs.numbers.row_vectors.Given as goal

abbrev pub invariant-loop-k : goal.invariant-loop-k
invariant-loop-k g l = l.vectors ≡ numbers g.F.Field.value (take l.k l.rows.list)
