use Rattle.std.proofs.Common.{◌≡◌, ◌+◌, ◌∙◌, List, sym, ap, subst, arith}
use Rattle.exact_field.specs.Rational.{ℚ, zero_ℚ, ◌<ℚ◌, ◌≤ℚ◌}
use Rattle.exact_field.specs.Vector.{dot}
use Rattle.lin_rows.proofs.Errors.{err_holds}
use Rattle.log_rules.specs.declared.answer.Gen.{Gen}
use Rattle.std.proofs.lemmas.List.Elements.{All-map}
use Rattle.upper_image.specs.UpperImage.{signed}
use Rattle.weighing.specs.Stages.{direction, direction_items, IsPassed, IsTaken}
use Rattle.weighing.specs.Walk.{IsProductLeft, StopsWalk}
use Rattle.weighing.proofs.Below.{not_below}
use Rattle.weighing.proofs.Walks.{all_more, all_done, reached_at, stuck_at}
use Rattle.weighing.proofs.walk.walk_directions.Goals as goal

pub returns-in_err-value-clause-left : goal.returns-in_err-value-clause-left
returns-in_err-value-clause-left c =
    let w = c.args.w.now in
    let i = c.loop-index.index in
    let k = c.args.earlier + i + 1 in
    let x = c.index-directions-index.result in
    let e = c.in_err-value.field-0.0 in
    let left : IsProductLeft w x.y k e = subst (λ (v : List ℚ). IsProductLeft w v k e) c.as_slice-d.ensures.items c.in_err-value.ensures.left in
    err_holds c.from_residual.result e (StopsWalk c.args.direction w (direction_items c.args.directions.now) c.args.earlier) c.from_residual.ensures.1
    (stuck_at c.args.direction w (λ (g : Gen). direction g.y) c.args.directions.now i c.args.earlier k x e c.loop-index-test.true c.index-directions-index.is c.loop-index.invariant (omega arith) left)

pub returns-then-is_down-clause-ok : goal.returns-then-is_down-clause-ok
returns-then-is_down-clause-ok c =
    let w = c.args.w.now in
    let dir = c.args.direction in
    let x = c.index-directions-index.result in
    let value = c.in_ok-value.value in
    let d_is = c.as_slice-d.ensures.items in
    let taken : IsTaken w x.y = subst (λ (v : List ℚ). IsTaken w v) d_is c.in_ok-value.ensures.taken in
    let value_is : value ≡ dot w x.y = subst (λ (v : List ℚ). value ≡ dot w v) d_is c.in_ok-value.ensures.ok in
    let way_is : c.in_ok-copy_of.field-0 ≡ x.y = c.in_ok-copy_of.ensures ∙ d_is in
    record {
      number = c.loop-index.index + 1;
      item = direction x.y;
      reached = reached_at dir w (λ (g : Gen). direction g.y) c.args.directions.now c.loop-index.index x c.loop-index-test.true c.index-directions-index.is c.loop-index.invariant;
      taken = taken;
      way = way_is;
      down = subst (λ (q : ℚ). signed dir q <ℚ zero_ℚ) (value_is ∙ ap (dot w) (sym way_is)) (c.is_down.ensures.0 c.if-is_down.true);
    }

pub loop-index-preserved : goal.loop-index-preserved
loop-index-preserved c =
    let w = c.args.w.now in
    let dir = c.args.direction in
    let x = c.index-directions-index.result in
    let value = c.in_ok-value.value in
    let d_is = c.as_slice-d.ensures.items in
    let taken : IsTaken w x.y = subst (λ (v : List ℚ). IsTaken w v) d_is c.in_ok-value.ensures.taken in
    let value_is : value ≡ dot w x.y = subst (λ (v : List ℚ). value ≡ dot w v) d_is c.in_ok-value.ensures.ok in
    let up : zero_ℚ ≤ℚ signed dir value = not_below (signed dir value) zero_ℚ c.is_down.result c.is_down.ensures c.if-is_down.false in
    let passed : IsPassed dir w (direction x.y) = record { taken = taken; on = subst (λ (q : ℚ). zero_ℚ ≤ℚ signed dir q) value_is up } in
    all_more (λ (g : Gen). IsPassed dir w (direction g.y)) c.args.directions.now c.loop-index.index x c.loop-index-test.true c.index-directions-index.is c.loop-index.invariant passed

pub returns-clause-ok : goal.returns-clause-ok
returns-clause-ok c =
    All-map (IsPassed c.args.direction c.args.w.now) (λ (g : Gen). direction g.y) c.args.directions.now
    (all_done (λ (g : Gen). IsPassed c.args.direction c.args.w.now (direction g.y)) c.args.directions.now c.loop-index.index c.loop-index-test.false c.loop-index.invariant)
