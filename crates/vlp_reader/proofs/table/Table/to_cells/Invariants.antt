use Rattle.std.proofs.Common.{◌≡◌, ◌++◌}
use Rattle.vlp_reader.proofs.Tables.{cells_of}
use Rattle.vlp_reader.proofs.table.Table.to_cells.Given as goal

abbrev pub invariant-loop-place : goal.invariant-loop-place
invariant-loop-place l = l.cells ++ cells_of l.place-iterator ≡ cells_of l.self.cells.entries
