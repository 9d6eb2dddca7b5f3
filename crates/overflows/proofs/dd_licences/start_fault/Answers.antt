use Rattle.std.proofs.Common.{List, ◌∙◌, subst}
use Rattle.deriv_log.specs.declared.entry.Entry.{Entry}
use Rattle.double_descr.specs.Starting.{IsStartFault}
use Rattle.double_descr.specs.declared.fault.DdFault.{DdFault}
use Rattle.lin_rows.specs.Read.{numbers}
use Rattle.lin_rows.proofs.Building.{numbers_long}
use Rattle.overflows.specs.Faults.{Overflows}
use Rattle.overflows.proofs.Starts.{start_overflows}
use Rattle.overflows.proofs.dd_licences.start_fault.Goals as goal

pub returns-in-Elim-clause-licensed : goal.returns-in-Elim-clause-licensed
returns-in-Elim-clause-licensed g c =
    let value = g.F.Field.value in
    let holds = g.F.Field.holds in
    let rows = c.args.rows.now in
    let t = numbers value rows.list in
    λ s may.
    subst (λ (trail : List Entry). Overflows holds s trail c.elimination_fault.result) c.new.ensures
    (start_overflows value holds g.met.F.Field.holds_zero s rows.width t c.new.result c.in-Elim.fault c.elimination_fault.result
    (numbers_long value rows.list ∙ c.requires.square) may
    (subst (λ (f : DdFault _). IsStartFault value holds rows.width t f) c.in-Elim.is c.requires.fault)
    c.elimination_fault.ensures.told c.elimination_fault.ensures.licensed)
