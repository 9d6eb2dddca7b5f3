use Rattle.std.proofs.Common.{ℕ, List, ap, subst, ◌∙◌}
use Rattle.deriv_log.specs.declared.entry.Entry.{Entry}
use Rattle.vlp_problem.specs.declared.program.Program.TheVariants.{Pointed}
use Rattle.lin_rows.specs.System.{system_of}
use Rattle.lp_form.specs.Data.{cone_of}
use Rattle.lp_form.specs.Programs.{pointed_system}
use Rattle.overflows.specs.Faults.{Overflows}
use Rattle.cone_dual.proofs.Asked.{program_licensed, pointed_same}
use Rattle.cone_dual.proofs.asking.pointed_end.Goals as goal

pub returns-clause-left : goal.returns-clause-left
returns-clause-left g c = λ file stands.
    let value = g.F.Field.value in
    let holds = g.F.Field.holds in
    let form = c.args.form.now in
    program_licensed value holds form file stands Pointed (system_of value c.in_ok-system.system) c.in-Err.fault c.program_fault.result tt
    (c.in_ok-system.ensures.numbers ∙ ap (λ (n : ℕ). pointed_system n (cone_of value form.cone)) c.len.ensures.value ∙ pointed_same value holds form file stands)
    (λ t allowed h. subst (λ (trail : List Entry). Overflows holds t trail c.program_fault.result) c.new.ensures (c.program_fault.ensures.licensed t allowed h))
    c.in-Err.ensures.left
