use Rattle.std.proofs.Common.{List, All, Contains, subst}
use Rattle.exact_field.specs.Rational.{ℚ}
use Rattle.lin_rows.proofs.Errors.{err_holds}
use Rattle.weighing.specs.Stages.{point_items}
use Rattle.weighing.specs.Walk.{IsNoLess, StopsWalk}
use Rattle.weighing.proofs.Found.{ends_least}
use Rattle.weighing.proofs.least.weigh_points.Goals as goal

pub returns-in_err-values-clause-left : goal.returns-in_err-values-clause-left
returns-in_err-values-clause-left c =
    err_holds c.from_residual.result c.in_err-values.field-0.0 (StopsWalk c.args.direction c.args.w.now (point_items c.args.points.now) c.args.earlier) c.from_residual.ensures.1
    (c.in_err-values.ensures.left c.args.direction)

pub returns-clause-ok : goal.returns-clause-ok
returns-clause-ok c =
    let value = c.find_best-value.result in
    ends_least c.args.direction c.args.w.now c.args.points.now c.in_ok-values.values value c.in_ok-places_of.field-0 c.in_ok-values.ensures.values
    (c.in_ok-values.ensures.passed c.args.direction)
    (subst (λ (vs : List ℚ). All (λ (v : ℚ). IsNoLess c.args.direction v value) vs) c.as_slice.ensures.items c.find_best-value.ensures.least)
    (subst (λ (vs : List ℚ). Contains vs value) c.as_slice.ensures.items c.find_best-value.ensures.one) c.in_ok-places_of.ensures
