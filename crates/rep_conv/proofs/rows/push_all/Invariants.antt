use Rattle.std.proofs.Common.{◌≡◌, ◌++◌, take}
use Rattle.std.specs.List.{flat_map}
use Rattle.rep_conv.specs.Rows.{rows_of_kind}
use Rattle.rep_conv.proofs.rows.push_all.Given as goal

abbrev pub invariant-loop-row : goal.invariant-loop-row
invariant-loop-row l = l.rows ≡ l.fn.rows ++ flat_map (λ row. rows_of_kind row.kind row) (take l.row-index l.list)
