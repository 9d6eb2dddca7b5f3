use Rattle.std.proofs.Common.{◌≡◌, ◌+◌, ◌++◌, ◌∙◌, ap, ap₂, arith, length, map, subst, sym}
use Rattle.std.proofs.lemmas.List.{append-nil, length-append, length-map}
use Rattle.std.proofs.lemmas.Result.{IfOk-weaker}
use Rattle.polyhedra.specs.Vectors.{zeros}
use Rattle.tableaux.specs.Table.{equation_count}
use Rattle.lp_form.specs.Programs.{weight_system}
use Rattle.lp_form.proofs.Figures.{objective_number}
use Rattle.lp_form.proofs.Systems.{length-zeros, weight_ok}
use Rattle.program_columns.specs.Entries.{given_equations}
use Rattle.program_columns.specs.Program.{IsProgramOf}
use Rattle.program_columns.specs.Written.{IsAssembled, IsDirect}
use Rattle.program_columns.proofs.Assembled.{program_of}
use Rattle.program_columns.proofs.GivenRows.{given_long, given_row_is, no_equations}
use Rattle.program_columns.proofs.written.given_columns.Goals as goal

pub assemble-requires-clause-unknowns : goal.assemble-requires-clause-unknowns
assemble-requires-clause-unknowns g c =
    omega (
      arith,
      c.in_ok-cost.ensures.long,
      given_long g.F.Field.value c.args.form.now c.in_ok-others.others c.in_ok-others.ensures,
    )

pub returns : goal.returns
returns g c = λ file stands.
    let value = g.F.Field.value in
    let form = c.args.form.now in
    let right = c.in_ok-right.right in
    let cost = c.in_ok-cost.cost in
    let others = c.in_ok-others.others in
    let ws = map value c.args.w.now in
    let s = weight_system file ws in
    let direct : IsDirect file.cone = subst IsDirect stands.cone c.requires.direct in
    let ok = weight_ok file ws
    (length-map c.args.w.now value ∙ c.requires.w ∙ objective_number value file form stands) in
    let right_is : map value right ≡ s.right =
    c.in_ok-right.ensures
    ∙ ap (λ n. zeros n ++ ws) stands.cols
    ∙ sym (append-nil (zeros file.cols ++ ws))
    ∙ ap (λ n. (zeros file.cols ++ ws) ++ zeros n) (sym (no_equations file.objs file.cone direct)) in
    let count : equation_count s ≡ given_equations form =
    sym ok.right_each ∙ ap length (sym right_is ∙ c.in_ok-right.ensures)
    ∙ length-append (zeros form.cols) ws
    ∙ ap₂ (λ a b. a + b) (length-zeros form.cols) (length-map c.args.w.now value ∙ c.requires.w) in
    IfOk-weaker c.assemble.result (IsAssembled value form others right cost) (IsProgramOf value s)
    (λ p h.
    program_of value form others right cost p h s ok right_is
    (c.in_ok-cost.ensures.costs file ws stands)
    (λ k low high.
    given_row_is value file form c.args.w.now stands c.requires.w direct others ws k
    c.in_ok-others.ensures.numbers low (omega (arith, high, count))))
    c.assemble.ensures
