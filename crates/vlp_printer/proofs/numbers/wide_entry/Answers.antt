use Rattle.std.proofs.Common.{sym, ◌∙◌, not}
use Rattle.vlp_printer.specs.Decimal.{is_decimal}
use Rattle.vlp_problem.proofs.Pieces.{not_yet_element, found_element}
use Rattle.vlp_printer.proofs.numbers.wide_entry.Goals as goal

pub returns-then-is_wide : goal.returns-then-is_wide
returns-then-is_wide c =
    sym (found_element (λ q. not (is_decimal q)) c.args.numbers.now c.loop-number.number-index c.number-item.result c.loop-number-test.true c.number-item.is c.loop-number.invariant
    (sym c.is_wide.ensures ∙ c.if-is_wide.true))

pub loop-number-preserved : goal.loop-number-preserved
loop-number-preserved c =
    not_yet_element (λ q. not (is_decimal q)) c.args.numbers.now c.loop-number.number-index c.number-item.result c.loop-number-test.true c.number-item.is c.loop-number.invariant
    (sym c.is_wide.ensures ∙ c.if-is_wide.false)
