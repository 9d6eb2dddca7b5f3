use Rattle.std.proofs.Common.{List, subst}
use Rattle.exact_field.specs.Rational.{ℚ}
use Rattle.deriv_log.specs.declared.entry.Entry.{Entry}
use Rattle.overflows.specs.Faults.{IsEliminationLeft}
use Rattle.rep_convert.proofs.LicensedFaults.{elimination_licensed, same_numbers, start_licensed}
use Rattle.rep_convert.proofs.licences.row_left.Goals as goal

pub returns-clause-elim : goal.returns-clause-elim
returns-clause-elim c = λ rep t columns allowed fault.
    let rows = c.args.rows.now.list in
    let told = c.elimination_fault-told.result in
    elimination_licensed rep rows t columns c.args.fault told c.from.result c.operand_is_held.ensures
    (subst (λ (trail : List Entry). IsEliminationLeft (λ (q : ℚ). q) rows trail c.args.fault told) c.new.ensures
    (subst (λ (t : List (List ℚ)). IsEliminationLeft (λ (q : ℚ). q) t c.new.result c.args.fault told) (same_numbers rows) c.elimination_fault-told.ensures.told))
    c.from.ensures allowed fault

pub returns-clause-start : goal.returns-clause-start
returns-clause-start c = λ rep lines short square fault.
    let rows = c.args.rows.now.list in
    let told = c.elimination_fault-told.result in
    start_licensed rep lines rows c.args.fault told c.from.result c.operand_is_held.ensures
    (subst (λ (trail : List Entry). IsEliminationLeft (λ (q : ℚ). q) rows trail c.args.fault told) c.new.ensures
    (subst (λ (t : List (List ℚ)). IsEliminationLeft (λ (q : ℚ). q) t c.new.result c.args.fault told) (same_numbers rows) c.elimination_fault-told.ensures.told))
    c.from.ensures short square fault
