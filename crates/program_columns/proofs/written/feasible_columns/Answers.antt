use Rattle.std.proofs.Common.{◌++◌, ◌∙◌, ap, arith, length, map}
use Rattle.std.proofs.lemmas.Result.{IfOk-weaker}
use Rattle.polyhedra.specs.Vectors.{zeros}
use Rattle.tableaux.proofs.Places.{length-list_from}
use Rattle.vlp_problem.specs.Sides.{side_column}
use Rattle.lp_form.specs.Programs.{feasible_system}
use Rattle.lp_form.proofs.Systems.{feasible_ok}
use Rattle.program_columns.specs.Entries.{across}
use Rattle.program_columns.specs.Program.{IsProgramOf}
use Rattle.program_columns.specs.Written.{IsAssembled}
use Rattle.program_columns.proofs.Assembled.{feasible_row, program_of}
use Rattle.program_columns.proofs.written.feasible_columns.Goals as goal

pub assemble-requires-clause-unknowns : goal.assemble-requires-clause-unknowns
assemble-requires-clause-unknowns g c =
    omega (arith, ap length c.new.ensures, c.in_ok-cost.ensures.long)

pub returns : goal.returns
returns g c = λ file stands.
    let value = g.F.Field.value in
    let form = c.args.form.now in
    let right = c.in_ok-right.right in
    let cost = c.in_ok-cost.cost in
    IfOk-weaker c.assemble.result (IsAssembled value form c.new.result right cost)
    (IsProgramOf value (feasible_system file))
    (λ p h.
    program_of value form c.new.result right cost p h (feasible_system file) (feasible_ok file)
    (c.in_ok-right.ensures ∙ ap zeros stands.cols) (c.in_ok-cost.ensures.costs file stands)
    (λ k low high.
    ap (λ o. across value k (map (λ s. s.g) form.sides ++ o)) c.new.ensures
    ∙ feasible_row value file form k stands low high
    (omega (arith, high, length-list_from 1 file.cols (side_column file), stands.cols))))
    c.assemble.ensures
