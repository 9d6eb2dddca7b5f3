use Rattle.std.proofs.Common.{◌≡◌, ◌∙◌, ap, arith, length, map, subst, sym}
use Rattle.std.proofs.lemmas.List.{length-append, length-map, map-append}
use Rattle.polyhedra.specs.Vectors.{zeros}
use Rattle.vlp_problem.specs.Sides.{side_bounds}
use Rattle.vlp_problem.specs.declared.problem.Cone.{Cone}
use Rattle.lp_form.specs.Programs.{on_parts}
use Rattle.lp_form.proofs.Figures.{objective_number}
use Rattle.lp_form.proofs.Systems.{length-zeros}
use Rattle.program_columns.specs.Written.{IsDirect}
use Rattle.program_columns.proofs.Entered.{costs_given}
use Rattle.program_columns.proofs.GivenRows.{no_unknowns}
use Rattle.program_columns.proofs.written.weight_cost.Goals as goal

pub returns-clause-long : goal.returns-clause-long
returns-clause-long g c =
    let value = g.F.Field.value in
    let no_cost = c.in_ok-no_cost.no_cost in
    omega (
      arith,
      ap length c.in_ok-append-2.ensures.ok,
      ap length c.in_ok-append.ensures.ok,
      length-append c.append.new.self c.as_slice-2.result.now,
      length-append c.in_ok-cost.cost c.as_slice.result.now,
      ap length c.as_slice.ensures.items,
      ap length c.as_slice-2.ensures.items,
      ap length c.in_ok-no_cost.ensures,
      length-map no_cost value,
      length-zeros c.len.result,
      c.in_ok-cost.ensures.long,
    )

pub returns-clause-costs : goal.returns-clause-costs
returns-clause-costs g c = λ file w stands.
    let value = g.F.Field.value in
    let direct : IsDirect file.cone = subst IsDirect stands.cone c.requires in
    let many : c.len.result ≡ length c.args.form.now.p = omega arith in
    let none = c.in_ok-no_cost.ensures
    ∙ ap zeros (many ∙ objective_number value file c.args.form.now stands) in
    costs_given (map value c.in_ok-cost.cost) (map value c.append.new.self)
    (map value c.append-2.new.self) (map value c.as_slice.result.now)
    (map value c.as_slice-2.result.now) (side_bounds file) file.objs
    (ap (map value) c.in_ok-append.ensures.ok ∙ map-append value c.in_ok-cost.cost c.as_slice.result.now)
    (ap (map value) c.in_ok-append-2.ensures.ok
    ∙ map-append value c.append.new.self c.as_slice-2.result.now)
    (c.in_ok-cost.ensures.costs file stands)
    (ap (map value) c.as_slice.ensures.items ∙ none)
    (ap (map value) c.as_slice-2.ensures.items ∙ none)
    ∙ ap (λ n. on_parts (side_bounds file) (zeros file.objs) (zeros n))
    (sym (no_unknowns file.cone direct))
