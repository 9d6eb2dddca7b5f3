use Rattle.std.proofs.Common.{◌≡◌, ◌≤◌, [], ◌++◌, length, map, refl, sym, ap, ◌∙◌, subst, arith}
use Rattle.std.proofs.lemmas.List.{append-nil, length-map}
use Rattle.polyhedra.specs.DoubleDescription.{magnitude, norming}
use Rattle.polyhedra.proofs.Norming.{magnitude-positive}
use Rattle.polyhedra.proofs.Order.{not_zero_of_positive}
use Rattle.double_descr.specs.Starting.{norming_steps}
use Rattle.double_descr.specs.Steps.{IsFirst, IsSoFar, StopsAt, quotient_steps}
use Rattle.double_descr.specs.declared.steps.Stop.{Stop}
use Rattle.double_descr.proofs.StepLists.{at_last, first_within, same_left, start}
use Rattle.double_descr.proofs.starting.normed_generator.Goals as goal

pub quotients-requires-clause-by : goal.quotients-requires-clause-by
quotients-requires-clause-by g c =
    let v = map g.F.Field.value c.args.vector.now in
    λ e. not_zero_of_positive (magnitude (norming v)) (magnitude-positive (norming v) c.requires.not_zero)
    (ap magnitude (sym c.norming_entry.ensures) ∙ sym c.without_sign-by.ensures ∙ e)

pub overflow_cast-result : goal.overflow_cast-result
overflow_cast-result g c =
    let value = g.F.Field.value in
    let holds = g.F.Field.holds in
    let v = map value c.args.vector.now in
    let steps = norming_steps v in
    let by_is : value c.without_sign-by.result ≡ magnitude (norming v) = c.without_sign-by.ensures ∙ ap magnitude c.norming_entry.ensures in
    let first : IsSoFar holds steps (quotient_steps (value c.without_sign-by.result) v ++ []) 0 = same_left holds steps steps _ 0
    (ap (λ d. quotient_steps d v) (sym by_is) ∙ sym (append-nil (quotient_steps (value c.without_sign-by.result) v))) (start holds steps) in
    let stop : IsFirst value holds steps c.in-Err-Step.step c.in-Err-Step.left =
    subst (λ (s : Stop _). StopsAt value holds steps s) c.in-Err-Step.field-0-is (c.in-Err-Step.ensures.runs steps [] first) in
    let bound : c.in-Err-Step.step ≤ length steps = first_within value holds steps c.in-Err-Step.step c.in-Err-Step.left stop in
    let many : length steps ≡ length c.args.vector.now = length-map v _ ∙ length-map c.args.vector.now value in
    omega (arith, c.requires.narrow)

pub returns-in-Err-Step-clause-left : goal.returns-in-Err-Step-clause-left
returns-in-Err-Step-clause-left g c =
    let value = g.F.Field.value in
    let holds = g.F.Field.holds in
    let v = map value c.args.vector.now in
    let steps = norming_steps v in
    let by_is : value c.without_sign-by.result ≡ magnitude (norming v) = c.without_sign-by.ensures ∙ ap magnitude c.norming_entry.ensures in
    let first : IsSoFar holds steps (quotient_steps (value c.without_sign-by.result) v ++ []) 0 = same_left holds steps steps _ 0
    (ap (λ d. quotient_steps d v) (sym by_is) ∙ sym (append-nil (quotient_steps (value c.without_sign-by.result) v))) (start holds steps) in
    (c.new.ensures, refl, refl, subst (λ (s : Stop _). StopsAt value holds steps s) c.in-Err-Step.field-0-is (c.in-Err-Step.ensures.runs steps [] first))

pub returns-in_ok-tight-in-Ok-clause-held : goal.returns-in_ok-tight-in-Ok-clause-held
returns-in_ok-tight-in-Ok-clause-held g c =
    let value = g.F.Field.value in
    let holds = g.F.Field.holds in
    let v = map value c.args.vector.now in
    let steps = norming_steps v in
    let by_is : value c.without_sign-by.result ≡ magnitude (norming v) = c.without_sign-by.ensures ∙ ap magnitude c.norming_entry.ensures in
    let first : IsSoFar holds steps (quotient_steps (value c.without_sign-by.result) v ++ []) 0 = same_left holds steps steps _ 0
    (ap (λ d. quotient_steps d v) (sym by_is) ∙ sym (append-nil (quotient_steps (value c.without_sign-by.result) v))) (start holds steps) in
    at_last holds steps _ (c.in-Ok.ensures.runs steps [] first)
