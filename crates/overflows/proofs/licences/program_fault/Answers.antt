use Rattle.std.proofs.Common.{ap, ◌∙◌, subst}
use Rattle.vlp_problem.specs.declared.program.Program.{Program}
use Rattle.deriv_log.specs.declared.licence.Place.TheVariants.{Pivot}
use Rattle.exact_simplex.specs.Ends.{IsLpFault}
use Rattle.overflows.specs.Dictionaries.{system_in}
use Rattle.overflows.specs.Steps.{in_numbers}
use Rattle.lp_form.specs.Names.{named}
use Rattle.overflows.specs.declared.fault.SolveFault.TheVariants.{Left}
use Rattle.overflows.proofs.Licensed.{program_overflows}
use Rattle.overflows.proofs.licences.program_fault.Goals as goal

pub returns-in-Ok-clause-licensed : goal.returns-in-Ok-clause-licensed
returns-in-Ok-clause-licensed g c = λ s allowed fault.
    let value = g.F.Field.value in
    let holds = g.F.Field.holds in
    let name = named value c.args.name.now in
    let p = c.in-Left in
    program_overflows value holds g.met.F.Field.holds_zero s c.args.trail c.fault_at.result name p.basis p.row p.col p.step p.left c.fault_at.ensures.held
    (c.fault_at.ensures.told
    ∙ ap (λ (n : Program). Left (record { place = Pivot n p.basis p.row p.col p.step; left = in_numbers value p.left; trail = c.args.trail })) c.in-Ok.ensures)
    allowed (subst (λ f. IsLpFault value holds (system_in s name) f) c.in-Left.is fault)
