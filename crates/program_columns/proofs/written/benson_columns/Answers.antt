use Rattle.std.proofs.Common.{◌≡◌, ◌+◌, ◌∷◌, ◌++◌, ◌∙◌, [], ℕ, ap, ap₂, arith, length, map, sym}
use Rattle.std.proofs.lemmas.List.{length-append, length-map}
use Rattle.std.proofs.lemmas.Result.{IfOk-weaker}
use Rattle.exact_field.specs.Rational.{one_ℚ}
use Rattle.polyhedra.specs.Vectors.{zeros}
use Rattle.tableaux.specs.Table.{equation_count}
use Rattle.lp_form.specs.Data.{cone_of}
use Rattle.lp_form.specs.Programs.{benson_system, dual_equations}
use Rattle.lp_form.proofs.Figures.{objective_number}
use Rattle.lp_form.proofs.Systems.{benson_ok, length-zeros}
use Rattle.program_columns.specs.Entries.{benson_equations}
use Rattle.program_columns.specs.Program.{IsProgramOf}
use Rattle.program_columns.specs.Written.{IsAssembled}
use Rattle.program_columns.proofs.Assembled.{program_of}
use Rattle.program_columns.proofs.BensonRows.{benson_row, others_long}
use Rattle.program_columns.proofs.written.benson_columns.Goals as goal

pub assemble-requires-clause-unknowns : goal.assemble-requires-clause-unknowns
assemble-requires-clause-unknowns g c =
    omega (
      arith,
      c.in_ok-cost.ensures.long,
      others_long g.F.Field.value c.args.form.now c.args.c.now c.in_ok-others.others c.in_ok-others.ensures,
    )

pub returns : goal.returns
returns g c = λ file stands.
    let value = g.F.Field.value in
    let form = c.args.form.now in
    let right = c.in_ok-right.right in
    let cost = c.in_ok-cost.cost in
    let others = c.in_ok-others.others in
    let cs = map value c.args.c.now in
    let vs = map value c.args.v.now in
    let s = benson_system file cs vs c.args.t in
    let q_is = objective_number value file form stands in
    let ok = benson_ok file cs vs c.args.t (length-map c.args.c.now value ∙ c.requires.c ∙ q_is)
    (length-map c.args.v.now value ∙ c.requires.v ∙ q_is) in
    let before : ℕ = form.cols + dual_equations (length form.p) (cone_of value form.cone) in
    let right_is : map value right ≡ s.right =
    c.in_ok-right.ensures
    ∙ ap (λ n. zeros n ++ one_ℚ ∷ [])
    (ap₂ (λ a b. a + b) stands.cols (ap₂ dual_equations q_is stands.cone)) in
    let count : equation_count s ≡ benson_equations value form =
    sym ok.right_each ∙ ap length (sym right_is ∙ c.in_ok-right.ensures)
    ∙ omega (arith, length-append (zeros before) (one_ℚ ∷ []), length-zeros before) in
    IfOk-weaker c.assemble.result (IsAssembled value form others right cost) (IsProgramOf value s)
    (λ p h.
    program_of value form others right cost p h s ok right_is
    (c.in_ok-cost.ensures.costs file stands)
    (λ k low high.
    benson_row value file form c.args.c.now stands c.requires.c others vs c.args.t k
    c.in_ok-others.ensures.numbers low (omega (arith, high, count))))
    c.assemble.ensures
