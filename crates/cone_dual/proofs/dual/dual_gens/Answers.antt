use Rattle.std.proofs.Common.{ℕ, [], refl, sym, subst}
use Rattle.exact_field.specs.Rational.{ℚ}
use Rattle.polyhedra.specs.LiveSteps.{IsLive}
use Rattle.tableaux.specs.Table.{Table}
use Rattle.lin_rows.specs.Read.{numbers}
use Rattle.lin_rows.proofs.Errors.{err_holds}
use Rattle.overflows.specs.Generators.{IsMadeOver}
use Rattle.cone_dual.specs.Generators.{AreGenerators, begun_with}
use Rattle.cone_dual.proofs.Licences.{cone_describes, overflow_licensed, setting}
use Rattle.cone_dual.proofs.Reordered.{begun_listed, generators_are, picked_places, rows_begun}
use Rattle.cone_dual.proofs.dual.dual_gens.Goals as goal

pub returns-in_err-dd-clause-left : goal.returns-in_err-dd-clause-left
returns-in_err-dd-clause-left g c = λ file cone.
    let rows = c.args.rows.now in
    let fault = c.in_err-dd.field-0.0 in
    err_holds c.from_residual.result fault _ c.from_residual.ensures.1
    (overflow_licensed g.F.Field.holds file [] fault refl
    (c.in_err-dd.ensures.left (setting file) (cone_describes file rows.width (numbers g.F.Field.value rows.list) cone)))

pub returns-clause-generators : goal.returns-clause-generators
returns-clause-generators g c =
    let rows = c.args.rows.now in
    let t = numbers g.F.Field.value rows.list in
    let dd = c.in_ok-dd.dd in
    let is = c.in_ok-dd.ensures.ok in
    let places = picked_places rows.width t is.picks is.independent in
    subst (AreGenerators rows.width t) (sym c.in_ok-generators_of.ensures.rows)
    (generators_are rows.width t (begun_with is.picks t) (begun_listed t is.picks places) (rows_begun t is.picks places) dd.list c.requires
    (subst (λ (rs : Table). IsLive rows.width rs dd.list) is.rows_are
    (subst (λ (n : ℕ). IsLive n dd.rows dd.list) is.width c.in_ok-generators_of.ensures.described)))

pub returns-clause-order : goal.returns-clause-order
returns-clause-order g c =
    let is = c.in_ok-dd.ensures.ok in
    let dd = c.in_ok-dd.dd in
    record {
      picks = is.picks;
      independent = is.independent;
      list = dd.list;
      made = subst (λ (rs : Table). IsMadeOver c.args.rows.now.width rs dd.list) is.rows_are is.made;
      same = c.in_ok-generators_of.ensures.rows;
    }

pub returns-in_err-dd-clause-told : goal.returns-in_err-dd-clause-told
returns-in_err-dd-clause-told g c =
    err_holds c.from_residual.result c.in_err-dd.field-0.0 _ c.from_residual.ensures.1 c.in_err-dd.ensures.told
