use Rattle.std.proofs.Common.{◌+◌, List, All, Option, length, sym, ap, subst}
use Rattle.std.proofs.lemmas.List.{length-map}
use Rattle.exact_field.specs.Rational.{ℚ}
use Rattle.lin_rows.proofs.Errors.{err_holds}
use Rattle.log_rules.specs.declared.answer.Gen.{Gen}
use Rattle.weighing.specs.Stages.{direction, direction_items, point_items, IsPassed}
use Rattle.weighing.specs.Walk.{IsFoundFrom, IsWalked, StopsWalk, WeighsTo, cone_items}
use Rattle.weighing.proofs.Walks.{down_more, err_map, found_after, ok_map, stops_after, stops_more}
use Rattle.weighing.proofs.least.weigh_cone.Goals as goal

pub returns-in_err-d-clause-left : goal.returns-in_err-d-clause-left
returns-in_err-d-clause-left c =
    let e = c.in_err-d.field-0.0 in
    err_holds c.from_residual.result e (StopsWalk c.args.direction c.args.w.now (cone_items c.args.directions.now c.args.points.now) c.args.earlier) c.from_residual.ensures.1
    (stops_more c.args.direction c.args.w.now (direction_items c.args.directions.now) (point_items c.args.points.now) c.args.earlier e c.in_err-d.ensures.left)

pub returns-in-Some-clause-ok : goal.returns-in-Some-clause-ok
returns-in-Some-clause-ok c =
    down_more c.args.direction c.args.w.now (direction_items c.args.directions.now) (point_items c.args.points.now) c.in-Some.d
    (subst (λ (o : Option (List ℚ)). IsWalked c.args.direction c.args.w.now (direction_items c.args.directions.now) o) c.in-Some.is c.in_ok-d.ensures.ok)

pub returns-in-None-clause-ok : goal.returns-in-None-clause-ok
returns-in-None-clause-ok c =
    let dir = c.args.direction in
    let w = c.args.w.now in
    let passed : All (IsPassed dir w) (direction_items c.args.directions.now) =
    subst (λ (o : Option (List ℚ)). IsWalked dir w (direction_items c.args.directions.now) o) c.in-None.is c.in_ok-d.ensures.ok in
    ok_map c.weigh_points.result (IsFoundFrom dir w c.args.points.now) (WeighsTo dir w (cone_items c.args.directions.now c.args.points.now) c.args.points.now) c.weigh_points.ensures.ok
    (λ x h. found_after dir w c.args.directions.now c.args.points.now x passed h)

pub returns-in-None-clause-left : goal.returns-in-None-clause-left
returns-in-None-clause-left c =
    let dir = c.args.direction in
    let w = c.args.w.now in
    let n = c.args.earlier + length c.args.directions.now in
    let passed : All (IsPassed dir w) (direction_items c.args.directions.now) =
    subst (λ (o : Option (List ℚ)). IsWalked dir w (direction_items c.args.directions.now) o) c.in-None.is c.in_ok-d.ensures.ok in
    err_map c.weigh_points.result (StopsWalk dir w (point_items c.args.points.now) n) (StopsWalk dir w (cone_items c.args.directions.now c.args.points.now) c.args.earlier) c.weigh_points.ensures.left
    (λ e h. stops_after dir w (direction_items c.args.directions.now) (point_items c.args.points.now) n c.args.earlier e passed
    (ap (λ k. c.args.earlier + k) (sym (length-map c.args.directions.now (λ (g : Gen). direction g.y)))) h)
