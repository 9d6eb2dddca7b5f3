use Rattle.std.proofs.Common.{◌∙◌, ◌+◌, sym, subst, arith, map}
use Rattle.exact_field.specs.Rational.{ℚ}
use Rattle.exact_field.specs.Vector.{entry}
use Rattle.lin_rows.specs.Sums.{IsDotLeft, IsTermLeft}
use Rattle.std.proofs.lemmas.List.{length-map}
use Rattle.lin_rows.proofs.Errors.{err_holds}
use Rattle.lin_rows.proofs.Summing.{entry_read, sum_more, held_more}
use Rattle.lin_rows.proofs.sums.dot.Goals as goal

pub returns-in_err-total-clause-left : goal.returns-in_err-total-clause-left
returns-in_err-total-clause-left g c =
    let value = g.F.Field.value in
    let holds = g.F.Field.holds in
    let a = c.args.a.now in
    let b = c.args.b.now in
    let i = c.loop-i.i in
    let left = c.in_err-total.field-0.0 in
    let ok = c.in_err-total.ensures in
    let first = entry_read value holds a i c.index-a-i.result (omega arith) c.index-a-i.is in
    let second = entry_read value holds b i c.index-b-i.result (omega arith) c.index-b-i.is in
    err_holds c.from_residual.result left (IsDotLeft value holds (map value a) (map value b)) c.from_residual.ensures.1
    (record {
      earlier = i;
      within = omega (arith, length-map a value);
      held = c.loop-i.invariant.held;
      first = λ e. ok.first (sym first ∙ e);
      second = λ e. ok.second (sym second ∙ e);
      step =
          subst (λ (t : ℚ). IsTermLeft value holds t (entry (map value a) (i + 1)) (entry (map value b) (i + 1)) left) c.loop-i.invariant.sum
          (subst (λ (p : ℚ). IsTermLeft value holds (value c.loop-i.total) p (entry (map value b) (i + 1)) left) (sym first)
          (subst (λ (q : ℚ). IsTermLeft value holds (value c.loop-i.total) (value c.index-a-i.result) q left) (sym second) ok.left));
    })

pub loop-i-preserved : goal.loop-i-preserved
loop-i-preserved g c =
    let value = g.F.Field.value in
    let holds = g.F.Field.holds in
    let a = c.args.a.now in
    let b = c.args.b.now in
    let i = c.loop-i.i in
    record {
      sum = sum_more value holds a b i c.index-a-i.result c.index-b-i.result (omega arith) c.requires c.index-a-i.is c.index-b-i.is (value c.loop-i.total) (value c.in_ok-total.total)
          c.loop-i.invariant.sum c.in_ok-total.ensures.ok;
      held = held_more value holds a b i c.index-a-i.result c.index-b-i.result (omega arith) c.requires c.index-a-i.is c.index-b-i.is (value c.loop-i.total) c.loop-i.invariant.sum
          c.loop-i.invariant.held c.in_ok-total.ensures.held;
    }
