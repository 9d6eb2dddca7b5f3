use Rattle.std.proofs.Common.{not, sym, ap, ◌∙◌}
use Rattle.std.specs.List.{find}
use Rattle.vlp_problem.specs.Values.{printed_numbers}
use Rattle.lp_form.proofs.Held.{all_held, first_unheld}
use Rattle.lp_form.proofs.numbers.test_numbers.Goals as goal

pub returns-in-Some-clause-refused : goal.returns-in-Some-clause-refused
returns-in-Some-clause-refused g c =
    let holds = g.F.Field.holds in
    first_unheld holds (printed_numbers c.args.problem.now) c.in-Some.number (sym (ap (find (λ q. not (holds q))) (c.as_slice.ensures.items ∙ c.in_ok-numbers.ensures)) ∙ sym c.find_unheld.ensures ∙ c.in-Some.is)

pub returns-clause-held : goal.returns-clause-held
returns-clause-held g c =
    let holds = g.F.Field.holds in
    all_held holds (printed_numbers c.args.problem.now) (sym (ap (find (λ q. not (holds q))) (c.as_slice.ensures.items ∙ c.in_ok-numbers.ensures)) ∙ sym c.find_unheld.ensures ∙ c.in-None.is)
