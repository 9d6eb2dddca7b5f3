use Rattle.tableaux.specs.Table.{listed}
use Rattle.program_columns.specs.Entries.{AreAppended, benson_equations, weight_entry}
use Rattle.program_columns.proofs.written.push_weights.Given as goal

abbrev pub invariant-loop-i : goal.invariant-loop-i
invariant-loop-i g l =
    let value = g.F.Field.value in
    AreAppended value (benson_equations value l.form)
    (λ k. listed l.i (λ i. weight_entry value l.form l.c i k)) l.initial.list l.list
