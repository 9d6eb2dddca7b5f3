use Rattle.std.proofs.Common.{ℕ, List, length, Option, None}
use Rattle.exact_field.specs.Rational.{ℚ}
use Rattle.lp_form.specs.Data.{cone_of}
use Rattle.lp_form.specs.declared.data.ConeOf.TheVariants.{Dual}
use Rattle.vlp_problem.specs.declared.problem.Cone.{Cone}
use Rattle.cone_rules.specs.Faults.{HasInterior, HasNoLine, IsGivenInside, ShowsLast}
use Rattle.cone_dual.proofs.ByRows.{apart, bounded, first, inside, read_off}
use Rattle.cone_dual.proofs.Ending.{licensed_end}
use Rattle.cone_dual.proofs.Standing.{as_cone, as_duality, at_file}
use Rattle.cone_dual.proofs.dual_form.interior_vector.Goals as goal

pub difference-requires-clause-apart : goal.difference-requires-clause-apart
difference-requires-clause-apart g c =
    apart g.F.Field.value c.args.form.now c.args.vectors.now c.requires.rows c.in_ok-x.field-0 c.in-Optimal.x c.in-Optimal.dual c.in-Optimal.basis c.in-Optimal.is
    c.in_ok-x.ensures.certified c.in_ok-x.ensures.read_off c.len-q.result c.as_slice-z.result.now c.len-q.ensures.value c.as_slice-z.ensures.items

pub returns-in-Optimal-clause-ok : goal.returns-in-Optimal-clause-ok
returns-in-Optimal-clause-ok g c =
    inside g.F.Field.value c.args.form.now c.args.vectors.now c.requires.rows c.in_ok-x.field-0 c.in-Optimal.x c.in-Optimal.dual c.in-Optimal.basis c.in-Optimal.is
    c.in_ok-x.ensures.certified c.in_ok-x.ensures.read_off c.len-q.result c.as_slice-z.result.now c.len-q.ensures.value c.as_slice-z.ensures.items
    c.in_ok-difference-in-Optimal.field-0 c.in_ok-difference-in-Optimal.ensures c.requires.solid

pub returns-in-Optimal-clause-read : goal.returns-in-Optimal-clause-read
returns-in-Optimal-clause-read g c = λ file stands.
    read_off g.F.Field.value c.args.form.now c.args.vectors.now c.requires.rows c.in_ok-x.field-0 c.in-Optimal.x c.in-Optimal.dual c.in-Optimal.basis c.in-Optimal.is
    c.in_ok-x.ensures.certified c.in_ok-x.ensures.read_off c.len-q.result c.as_slice-z.result.now c.len-q.ensures.value c.as_slice-z.ensures.items
    c.in_ok-difference-in-Optimal.field-0 c.in_ok-difference-in-Optimal.ensures g.F.Field.holds file stands

pub returns-in_err-m-in-Infeasible-clause-end : goal.returns-in_err-m-in-Infeasible-clause-end
returns-in_err-m-in-Infeasible-clause-end g c = λ file stands.
    let read = first g.F.Field.value c.args.form.now c.args.vectors.now c.requires.rows c.in_ok-x.field-0 c.in-Infeasible.farkas c.as_slice.result.now c.in-Infeasible.basis
    c.in-Infeasible.is c.in_ok-x.ensures.read_off c.as_slice.ensures.items in
    licensed_end g.F.Field.holds file c.from_residual-in_err-m-in-Infeasible.result c.in_err-m-in-Infeasible.field-0.0 c.from_residual-in_err-m-in-Infeasible.ensures.1
    (c.in_err-m-in-Infeasible.ensures.left file stands read)

pub returns-in-Infeasible-clause-end : goal.returns-in-Infeasible-clause-end
returns-in-Infeasible-clause-end g c = λ file stands.
    let value = g.F.Field.value in
    let form = c.args.form.now in
    let q = length form.p in
    let m = c.in_ok-m-in-Infeasible.m in
    at_file value form file stands (λ (k : ℕ) (o : Cone) (d : Option (List ℚ)). HasInterior k o × HasNoLine k o × IsGivenInside k o d × ShowsLast k o d m) (
      c.requires.solid,
      c.requires.pointed,
      as_duality value form None c.requires.duality (λ (d : Option (List ℚ)). IsGivenInside q (cone_of value form.cone) d) (λ f e. absurd (cc)),
      as_duality value form None c.requires.duality (λ (d : Option (List ℚ)). ShowsLast q (cone_of value form.cone) d m)
          (as_cone value form (Dual c.args.vectors.now) c.requires.rows (λ (o : Cone). ShowsLast q o None m) c.in_ok-m-in-Infeasible.ensures.ok),
    )

pub unreachable-requires : goal.unreachable-requires
unreachable-requires g c =
    bounded g.F.Field.value c.args.form.now c.args.vectors.now c.requires.rows c.in_ok-x.field-0 c.in-Unbounded.x c.in-Unbounded.ray c.in-Unbounded.basis c.in-Unbounded.is
    c.in_ok-x.ensures.certified
