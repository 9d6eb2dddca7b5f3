use Rattle.std.proofs.Common.{◌≡◌, take}
use Rattle.vlp_matrices.specs.Matrices.{cells_from}
use Rattle.vlp_matrices.proofs.matrix.cells_of.Given as goal

abbrev pub invariant-loop-row : goal.invariant-loop-row
invariant-loop-row l = record { count : l.number ≡ l.row-index; made : l.cells ≡ cells_from 1 (take l.row-index l.rows) }
