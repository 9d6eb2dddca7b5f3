use Rattle.std.proofs.Common.{not, sym, ap, ◌∙◌}
use Rattle.vlp_problem.proofs.Pieces.{not_yet_element, found_element}
use Rattle.lp_form.proofs.numbers.find_unheld.Goals as goal

pub returns-then-not-is_held : goal.returns-then-not-is_held
returns-then-not-is_held g c =
    sym (found_element (λ q. not (g.F.Field.holds q)) c.args.numbers.now c.loop-number.number-index c.number-item.result c.loop-number-test.true c.number-item.is c.loop-number.invariant
    (ap not (sym c.is_held.ensures) ∙ ap not c.if-not-is_held.true))

pub loop-number-preserved : goal.loop-number-preserved
loop-number-preserved g c =
    not_yet_element (λ q. not (g.F.Field.holds q)) c.args.numbers.now c.loop-number.number-index c.number-item.result c.loop-number-test.true c.number-item.is c.loop-number.invariant
    (ap not (sym c.is_held.ensures) ∙ ap not c.if-not-is_held.false)
