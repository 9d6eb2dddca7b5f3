use Rattle.std.proofs.Common.{◌≡◌, take, ◌++◌, ◌∷◌, []}
use Rattle.std.specs.List.{flat_map}
use Rattle.vlp_printer.specs.Printing.{entry_line}
use Rattle.vlp_printer.proofs.print.put_cells.Given as goal

abbrev pub invariant-loop-cell : goal.invariant-loop-cell
invariant-loop-cell l = l.into ≡ l.fn.into ++ flat_map (λ c. entry_line (l.fn.letter ∷ []) c.row c.col c.value) (take l.cell-index l.cells)
