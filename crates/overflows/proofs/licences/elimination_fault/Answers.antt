use Rattle.std.proofs.Common.{ap, ◌∙◌, subst}
use Rattle.deriv_log.specs.declared.licence.Place.{Place}
use Rattle.overflows.specs.Steps.{in_numbers}
use Rattle.lin_rows.specs.Eliminate.{IsElimFault}
use Rattle.lin_rows.specs.Read.{numbers}
use Rattle.overflows.specs.declared.fault.SolveFault.TheVariants.{Left}
use Rattle.overflows.proofs.Licensed.{elimination_overflows}
use Rattle.overflows.proofs.licences.elimination_fault.Goals as goal

pub returns-in-Ok-clause-licensed : goal.returns-in-Ok-clause-licensed
returns-in-Ok-clause-licensed g c = λ s width columns t table fault.
    let value = g.F.Field.value in
    let holds = g.F.Field.holds in
    let p = c.in-Left in
    elimination_overflows value holds g.met.F.Field.holds_zero s c.args.trail c.fault_at.result (numbers value c.args.rows.now.list) width columns t p.basis p.row p.col p.step p.left
    c.fault_at.ensures.held
    (c.fault_at.ensures.told
    ∙ ap (λ (place : Place). Left (record { place = place; left = in_numbers value p.left; trail = c.args.trail })) c.in-Ok.ensures)
    table (subst (λ f. IsElimFault value holds columns t f) c.in-Left.is fault)
