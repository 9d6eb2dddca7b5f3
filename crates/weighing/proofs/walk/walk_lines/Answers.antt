use Rattle.std.proofs.Common.{◌≡◌, ◌+◌, ◌∙◌, List, true≢false, sym, subst, arith}
use Rattle.exact_field.specs.Rational.{ℚ, zero_ℚ, ◌<ℚ◌}
use Rattle.exact_field.specs.Vector.{dot}
use Rattle.lin_rows.proofs.Errors.{err_holds}
use Rattle.log_rules.specs.declared.answer.LineGen.{LineGen}
use Rattle.std.proofs.lemmas.List.Elements.{All-map}
use Rattle.upper_image.specs.UpperImage.{signed}
use Rattle.weighing.specs.Stages.{line, line_items, IsPassed, IsTaken, IsWay}
use Rattle.weighing.specs.Walk.{IsProductLeft, StopsWalk, way_of}
use Rattle.weighing.proofs.Walks.{all_more, all_done, reached_at, stuck_at, way_goes_down}
use Rattle.weighing.proofs.walk.walk_lines.Goals as goal

pub returns-in_err-value-clause-left : goal.returns-in_err-value-clause-left
returns-in_err-value-clause-left c =
    let w = c.args.w.now in
    let i = c.loop-index.index in
    let x = c.index-lines-index.result in
    let e = c.in_err-value.field-0.0 in
    let left : IsProductLeft w x.d (i + 1) e = subst (λ (v : List ℚ). IsProductLeft w v (i + 1) e) c.as_slice-d.ensures.items c.in_err-value.ensures.left in
    err_holds c.from_residual.result e (StopsWalk c.args.direction w (line_items c.args.lines.now) 0) c.from_residual.ensures.1
    (stuck_at c.args.direction w (λ (l : LineGen). line l.d) c.args.lines.now i 0 (i + 1) x e c.loop-index-test.true c.index-lines-index.is c.loop-index.invariant (omega arith) left)

pub returns-then-not-is_zero-clause-ok : goal.returns-then-not-is_zero-clause-ok
returns-then-not-is_zero-clause-ok c =
    let w = c.args.w.now in
    let dir = c.args.direction in
    let x = c.index-lines-index.result in
    let value = c.in_ok-value.value in
    let d_is = c.as_slice-d.ensures.items in
    let taken : IsTaken w x.d = subst (λ (v : List ℚ). IsTaken w v) d_is c.in_ok-value.ensures.taken in
    let value_is : value ≡ dot w x.d = subst (λ (v : List ℚ). value ≡ dot w v) d_is c.in_ok-value.ensures.ok in
    let way_is : way_of dir value x.d ≡ c.in_ok-way_down.field-0 = sym (subst (λ (v : List ℚ). c.in_ok-way_down.field-0 ≡ way_of dir value v) d_is c.in_ok-way_down.ensures) in
    let down = way_goes_down dir w x.d value value_is (λ e. true≢false (sym (c.is_zero.ensures.1 e) ∙ c.if-not-is_zero.true)) in
    record {
      number = c.loop-index.index + 1;
      item = line x.d;
      reached = reached_at dir w (λ (l : LineGen). line l.d) c.args.lines.now c.loop-index.index x c.loop-index-test.true c.index-lines-index.is c.loop-index.invariant;
      taken = taken;
      way = subst (λ (v : List ℚ). IsWay (line x.d) v) way_is down.0;
      down = subst (λ (v : List ℚ). signed dir (dot w v) <ℚ zero_ℚ) way_is down.1;
    }

pub loop-index-preserved : goal.loop-index-preserved
loop-index-preserved c =
    let w = c.args.w.now in
    let x = c.index-lines-index.result in
    let value = c.in_ok-value.value in
    let d_is = c.as_slice-d.ensures.items in
    let taken : IsTaken w x.d = subst (λ (v : List ℚ). IsTaken w v) d_is c.in_ok-value.ensures.taken in
    let value_is : value ≡ dot w x.d = subst (λ (v : List ℚ). value ≡ dot w v) d_is c.in_ok-value.ensures.ok in
    let passed : IsPassed c.args.direction w (line x.d) = record { taken = taken; on = sym value_is ∙ c.is_zero.ensures.0 c.if-not-is_zero.false } in
    all_more (λ (l : LineGen). IsPassed c.args.direction w (line l.d)) c.args.lines.now c.loop-index.index x c.loop-index-test.true c.index-lines-index.is c.loop-index.invariant passed

pub returns-clause-ok : goal.returns-clause-ok
returns-clause-ok c =
    All-map (IsPassed c.args.direction c.args.w.now) (λ (l : LineGen). line l.d) c.args.lines.now
    (all_done (λ (l : LineGen). IsPassed c.args.direction c.args.w.now (line l.d)) c.args.lines.now c.loop-index.index c.loop-index-test.false c.loop-index.invariant)
