use Rattle.std.proofs.Common.{◌≡◌, ◌++◌, map, take}
use Rattle.lp_form.proofs.numbers.push_cells.Given as goal

abbrev pub invariant-loop-cell : goal.invariant-loop-cell
invariant-loop-cell l =
    l.numbers ≡ l.initial.numbers ++ map (λ c. c.value) (take l.cell-index l.cells)
