use Rattle.std.proofs.Common.{◌≡◌, ◌++◌, map}
use Rattle.tableaux.specs.Table.{listed}
use Rattle.vlp_problem.specs.Sides.{side_column}
use Rattle.vlp_problem.specs.declared.problem.Problem.{Problem}
use Rattle.lp_form.specs.Building.{joined}
use Rattle.lp_form.specs.Data.{IsDataOf}
use Rattle.lp_form.proofs.equations.push_side_columns.Given as goal

abbrev pub invariant-loop-j : goal.invariant-loop-j
invariant-loop-j g l =
    let value = g.F.Field.value in
    (file : Problem) → IsDataOf value file l.form → map value l.list ≡ map value l.initial.list ++ joined (listed l.j (side_column file))
