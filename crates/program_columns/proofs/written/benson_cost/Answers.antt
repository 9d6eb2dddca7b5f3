use Rattle.std.proofs.Common.{◌∙◌, ap, ap₂, arith, length, map, refl}
use Rattle.std.proofs.lemmas.List.{length-append, length-map, map-append}
use Rattle.exact_field.specs.Rational.{neg_ℚ}
use Rattle.polyhedra.specs.Vectors.{zeros}
use Rattle.std.specs.Prelude.{if◌then◌else◌}
use Rattle.vlp_problem.specs.Sides.{side_bounds}
use Rattle.lp_form.specs.Programs.{dual_unknowns, side_total}
use Rattle.lp_form.proofs.Figures.{objective_number}
use Rattle.lp_form.proofs.Systems.{length-zeros}
use Rattle.program_columns.proofs.Entered.{costs_appended}
use Rattle.program_columns.proofs.written.benson_cost.Goals as goal

pub returns-clause-long : goal.returns-clause-long
returns-clause-long g c =
    let value = g.F.Field.value in
    let minus = c.in_ok-minus.minus in
    let after = c.in_ok-after.after in
    let v = c.args.v.now in
    omega (
      arith,
      ap length c.in_ok-append-3.ensures.ok,
      ap length c.in_ok-append-2.ensures.ok,
      ap length c.in_ok-append.ensures.ok,
      length-append c.append-2.new.self c.as_slice-2.result.now,
      length-append c.append.new.self v,
      length-append c.in_ok-cost.cost c.as_slice.result.now,
      ap length c.as_slice.ensures.items,
      ap length c.as_slice-2.ensures.items,
      ap length c.in_ok-minus.ensures,
      length-map minus value,
      length-map (map value v) neg_ℚ,
      length-map v value,
      ap length c.in_ok-after.ensures,
      length-map after value,
      length-zeros c.cone_unknowns.result,
      c.cone_unknowns.ensures.count,
      c.in_ok-cost.ensures.long,
      c.requires,
    )

pub returns-clause-costs : goal.returns-clause-costs
returns-clause-costs g c = λ file stands.
    let value = g.F.Field.value in
    let v = c.args.v.now in
    let more = c.cone_unknowns.ensures.count
    ∙ ap₂ dual_unknowns (objective_number value file c.args.form.now stands) stands.cone in
    costs_appended (map value c.in_ok-cost.cost) (map value c.append.new.self)
    (map value c.append-2.new.self) (map value c.append-3.new.self)
    (map value c.as_slice.result.now) (map value v) (map value c.as_slice-2.result.now)
    (if c.args.t then side_bounds file else zeros (side_total file)) (map value v)
    (zeros (dual_unknowns file.objs file.cone))
    (ap (map value) c.in_ok-append.ensures.ok ∙ map-append value c.in_ok-cost.cost c.as_slice.result.now)
    (ap (map value) c.in_ok-append-2.ensures.ok ∙ map-append value c.append.new.self v)
    (ap (map value) c.in_ok-append-3.ensures.ok
    ∙ map-append value c.append-2.new.self c.as_slice-2.result.now)
    (c.in_ok-cost.ensures.costs file stands)
    (ap (map value) c.as_slice.ensures.items ∙ c.in_ok-minus.ensures) refl
    (ap (map value) c.as_slice-2.ensures.items ∙ c.in_ok-after.ensures ∙ ap zeros more)
