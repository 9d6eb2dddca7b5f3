use Rattle.std.proofs.Common.{◌≡◌, take, map, not, None}
use Rattle.std.specs.List.{find}
use Rattle.vlp_printer.specs.Decimal.{is_decimal}
use Rattle.vlp_printer.proofs.numbers.wide_cell.Given as goal

abbrev pub invariant-loop-cell : goal.invariant-loop-cell
invariant-loop-cell l = find (λ q. not (is_decimal q)) (map (λ c. c.value) (take l.cell-index l.cells)) ≡ None
