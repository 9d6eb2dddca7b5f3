use Rattle.tableaux.specs.Table.{listed}
use Rattle.lp_form.specs.Data.{cone_of}
use Rattle.program_columns.specs.Entries.{after_w, AreAppended, benson_equations}
use Rattle.program_columns.proofs.written.push_after_w.Given as goal

abbrev pub invariant-loop-d : goal.invariant-loop-d
invariant-loop-d g l =
    let value = g.F.Field.value in
    AreAppended value (benson_equations value l.form)
    (λ k. listed l.d (λ d. after_w l.form.cols (cone_of value l.form.cone) d k)) l.initial.list l.list
