use Rattle.std.proofs.Common.{sym, ◌∙◌, not}
use Rattle.vlp_printer.specs.Decimal.{is_decimal}
use Rattle.vlp_problem.specs.Values.{bound_numbers}
use Rattle.vlp_problem.proofs.Pieces.{not_yet, found_at}
use Rattle.vlp_printer.proofs.numbers.wide_bound.Goals as goal

pub returns-in-Some : goal.returns-in-Some
returns-in-Some c =
    sym (found_at (λ q. not (is_decimal q)) bound_numbers c.args.bounds.now c.loop-bound.bound-index c.bound-item.result c.in-Some.number c.loop-bound-test.true c.bound-item.is c.loop-bound.invariant
    (sym c.wide_in_bound.ensures ∙ c.in-Some.is))

pub loop-bound-preserved : goal.loop-bound-preserved
loop-bound-preserved c =
    not_yet (λ q. not (is_decimal q)) bound_numbers c.args.bounds.now c.loop-bound.bound-index c.bound-item.result c.loop-bound-test.true c.bound-item.is c.loop-bound.invariant
    (sym c.wide_in_bound.ensures ∙ c.in_default.is)
