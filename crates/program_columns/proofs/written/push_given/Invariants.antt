use Rattle.tableaux.specs.Table.{listed}
use Rattle.program_columns.specs.Entries.{AreAppended, given_entry, given_equations}
use Rattle.program_columns.proofs.written.push_given.Given as goal

abbrev pub invariant-loop-i : goal.invariant-loop-i
invariant-loop-i g l =
    let value = g.F.Field.value in
    AreAppended value (given_equations l.form)
    (λ k. listed l.i (λ i. given_entry value l.form i k)) l.initial.list l.list
