use Rattle.overflows.specs.Steps.{in_numbers}
use Rattle.overflows.proofs.Licensed.{told_at, term_overflows}
use Rattle.overflows.proofs.licences.term_fault.Goals as goal

pub returns-clause-licensed : goal.returns-clause-licensed
returns-clause-licensed g c = λ s xs ys allowed at.
    let value = g.F.Field.value in
    let holds = g.F.Field.holds in
    let fault = c.args.fault in
    term_overflows value holds g.met.F.Field.holds_zero s c.args.trail c.fault_at.result xs ys fault c.fault_at.ensures.held
    (told_at value holds g.met.F.Field.holds_zero s c.args.trail c.fault_at.result c.new.result c.new-2.result fault.place c.step_number.result fault.left.op
    (in_numbers value fault.left) c.new.ensures c.new-2.ensures c.step_number.ensures c.fault_at.ensures.told) allowed at
