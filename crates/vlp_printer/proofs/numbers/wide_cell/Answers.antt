use Rattle.std.proofs.Common.{sym, ◌∙◌, not}
use Rattle.vlp_printer.specs.Decimal.{is_decimal}
use Rattle.vlp_problem.proofs.Pieces.{not_yet_value, found_value}
use Rattle.vlp_printer.proofs.numbers.wide_cell.Goals as goal

pub returns-then-is_wide : goal.returns-then-is_wide
returns-then-is_wide c =
    sym (found_value (λ q. not (is_decimal q)) (λ cell. cell.value) c.args.cells.now c.loop-cell.cell-index c.cell-item.result c.loop-cell-test.true c.cell-item.is c.loop-cell.invariant
    (sym c.is_wide.ensures ∙ c.if-is_wide.true))

pub loop-cell-preserved : goal.loop-cell-preserved
loop-cell-preserved c =
    not_yet_value (λ q. not (is_decimal q)) (λ cell. cell.value) c.args.cells.now c.loop-cell.cell-index c.cell-item.result c.loop-cell-test.true c.cell-item.is c.loop-cell.invariant
    (sym c.is_wide.ensures ∙ c.if-is_wide.false)
