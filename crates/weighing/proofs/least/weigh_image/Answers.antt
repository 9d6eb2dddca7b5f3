use Rattle.std.proofs.Common.{◌≡◌, ◌+◌, List, All, Option, length, subst, arith}
use Rattle.std.proofs.lemmas.List.{length-map}
use Rattle.exact_field.specs.Rational.{ℚ}
use Rattle.lin_rows.proofs.Errors.{err_holds}
use Rattle.log_rules.specs.declared.answer.LineGen.{LineGen}
use Rattle.weighing.specs.Stages.{line, line_items, IsPassed}
use Rattle.weighing.specs.Walk.{IsWalked, StopsWalk, WeighsTo, all_items, cone_items}
use Rattle.weighing.proofs.Walks.{down_more, err_map, ok_map, stops_after, stops_more, weighs_after}
use Rattle.weighing.proofs.least.weigh_image.Goals as goal

pub returns-in_err-d-clause-left : goal.returns-in_err-d-clause-left
returns-in_err-d-clause-left c =
    let e = c.in_err-d.field-0.0 in
    err_holds c.from_residual.result e (StopsWalk c.args.direction c.args.w.now (all_items c.args.lines.now c.args.directions.now c.args.points.now) 0) c.from_residual.ensures.1
    (stops_more c.args.direction c.args.w.now (line_items c.args.lines.now) (cone_items c.args.directions.now c.args.points.now) 0 e c.in_err-d.ensures.left)

pub returns-in-Some-clause-ok : goal.returns-in-Some-clause-ok
returns-in-Some-clause-ok c =
    down_more c.args.direction c.args.w.now (line_items c.args.lines.now) (cone_items c.args.directions.now c.args.points.now) c.in-Some.d
    (subst (λ (o : Option (List ℚ)). IsWalked c.args.direction c.args.w.now (line_items c.args.lines.now) o) c.in-Some.is c.in_ok-d.ensures.ok)

pub returns-in-None-clause-ok : goal.returns-in-None-clause-ok
returns-in-None-clause-ok c =
    let dir = c.args.direction in
    let w = c.args.w.now in
    let items = cone_items c.args.directions.now c.args.points.now in
    let passed : All (IsPassed dir w) (line_items c.args.lines.now) =
    subst (λ (o : Option (List ℚ)). IsWalked dir w (line_items c.args.lines.now) o) c.in-None.is c.in_ok-d.ensures.ok in
    ok_map c.weigh_cone.result (WeighsTo dir w items c.args.points.now) (WeighsTo dir w (all_items c.args.lines.now c.args.directions.now c.args.points.now) c.args.points.now) c.weigh_cone.ensures.ok
    (λ x h. weighs_after dir w (line_items c.args.lines.now) items c.args.points.now x passed h)

pub returns-in-None-clause-left : goal.returns-in-None-clause-left
returns-in-None-clause-left c =
    let dir = c.args.direction in
    let w = c.args.w.now in
    let n = length c.args.lines.now in
    let items = cone_items c.args.directions.now c.args.points.now in
    let passed : All (IsPassed dir w) (line_items c.args.lines.now) =
    subst (λ (o : Option (List ℚ)). IsWalked dir w (line_items c.args.lines.now) o) c.in-None.is c.in_ok-d.ensures.ok in
    let many : n ≡ 0 + length (line_items c.args.lines.now) = (let l = length-map c.args.lines.now (λ (l : LineGen). line l.d) in omega (arith, l)) in
    err_map c.weigh_cone.result (StopsWalk dir w items n) (StopsWalk dir w (all_items c.args.lines.now c.args.directions.now c.args.points.now) 0) c.weigh_cone.ensures.left
    (λ e h. stops_after dir w (line_items c.args.lines.now) items n 0 e passed many h)
