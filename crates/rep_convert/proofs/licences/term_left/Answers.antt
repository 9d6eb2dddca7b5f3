use Rattle.std.proofs.Common.{List, [], ap, ◌∙◌}
use Rattle.deriv_log.specs.declared.entry.Entry.{Entry}
use Rattle.deriv_log.specs.declared.licence.Place.TheVariants.{Elim}
use Rattle.overflows.specs.Laws.{term_number}
use Rattle.overflows.specs.declared.fault.SolveFault.TheVariants as solving
use Rattle.rep_convert.proofs.LicensedFaults.{term_licensed}
use Rattle.rep_convert.proofs.licences.term_left.Goals as goal

pub returns : goal.returns
returns c = λ rep row v allowed at.
    let fault = c.args.fault in
    term_licensed rep row v fault c.term_fault-told.result c.from.result
    (c.term_fault-told.ensures.told
    ∙ ap (λ (trail : List Entry). solving.Left (record { place = Elim [] [] 0 fault.place (term_number fault.left.op); left = fault.left; trail = trail })) c.new.ensures)
    c.from.ensures allowed at
