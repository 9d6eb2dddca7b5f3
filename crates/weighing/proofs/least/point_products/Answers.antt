use Rattle.std.proofs.Common.{◌≡◌, ◌+◌, List, subst, arith}
use Rattle.exact_field.specs.Rational.{ℚ}
use Rattle.exact_field.specs.Vector.{dot}
use Rattle.lin_rows.proofs.Errors.{err_holds}
use Rattle.log_rules.specs.declared.answer.Gen.{Gen}
use Rattle.std.proofs.lemmas.List.Elements.{All-map}
use Rattle.vlp_problem.specs.declared.problem.Dir.{Dir}
use Rattle.weighing.specs.Stages.{point, point_items, IsPassed, IsTaken}
use Rattle.weighing.specs.Walk.{IsProductLeft, StopsWalk}
use Rattle.weighing.proofs.Walks.{all_more, all_done, map_more, points_passed, stuck_at}
use Rattle.weighing.proofs.least.point_products.Goals as goal

pub returns-in_err-value-clause-left : goal.returns-in_err-value-clause-left
returns-in_err-value-clause-left c =
    let w = c.args.w.now in
    let i = c.loop-index.index in
    let k = c.args.earlier + i + 1 in
    let x = c.index-points-index.result in
    let e = c.in_err-value.field-0.0 in
    let y_is = c.as_slice.ensures.items in
    let left : IsProductLeft w x.y k e = subst (λ (v : List ℚ). IsProductLeft w v k e) y_is c.in_err-value.ensures.left in
    err_holds c.from_residual.result e (λ end. (dir : Dir) → StopsWalk dir w (point_items c.args.points.now) c.args.earlier end) c.from_residual.ensures.1
    (λ dir. stuck_at dir w (λ (g : Gen). point g.y) c.args.points.now i c.args.earlier k x e c.loop-index-test.true c.index-points-index.is
    (points_passed dir w _ c.loop-index.invariant.taken) (omega arith) left)

pub loop-index-preserved : goal.loop-index-preserved
loop-index-preserved c =
    let w = c.args.w.now in
    let x = c.index-points-index.result in
    let value = c.in_ok-value.value in
    let y_is = c.as_slice.ensures.items in
    let taken : IsTaken w x.y = subst (λ (v : List ℚ). IsTaken w v) y_is c.in_ok-value.ensures.taken in
    let value_is : value ≡ dot w x.y = subst (λ (v : List ℚ). value ≡ dot w v) y_is c.in_ok-value.ensures.ok in
    record {
      values = map_more (λ (g : Gen). dot w g.y) c.args.points.now c.loop-index.index x c.loop-index.values c.push.new.self value c.loop-index-test.true c.index-points-index.is
          c.loop-index.invariant.values value_is c.in_ok-push.ensures.ok;
      taken = all_more (λ (g : Gen). IsTaken w g.y) c.args.points.now c.loop-index.index x c.loop-index-test.true c.index-points-index.is c.loop-index.invariant.taken taken;
    }

pub returns-clause-passed : goal.returns-clause-passed
returns-clause-passed c = λ dir.
    All-map (IsPassed dir c.args.w.now) (λ (g : Gen). point g.y) c.args.points.now
    (points_passed dir c.args.w.now c.args.points.now
    (all_done (λ (g : Gen). IsTaken c.args.w.now g.y) c.args.points.now c.loop-index.index c.loop-index-test.false c.loop-index.invariant.taken))
