use Rattle.std.proofs.Common.{sym, ◌∙◌}
use Rattle.bench_calls.proofs.Negatives.{sum_alike, ok_is_held, counted_then, counted_else}
use Rattle.bench_calls.proofs.fractions.sums.Goals as goal
use Rattle.bench_calls.proofs.fractions.sums.Goals.{then-is_ok, else-is_ok}

pub loop-round-preserved : goal.loop-round-preserved
loop-round-preserved g c =
    let alike = sum_alike g.F.Field.holds g.met.F.Field.holds_neg (g.F.Field.value c.loop-round.a) (g.F.Field.value c.loop-round.b) (g.F.Field.value c.neg-a.result) (g.F.Field.value c.neg-b.result) c.neg-a.ensures c.neg-b.ensures in
    let test = sym c.loop-round.invariant.1 ∙ sym (ok_is_held g.F.Field.value g.F.Field.holds _ _ _ _ c.add.result c.add.ensures) ∙ sym c.is_ok.ensures.value in
    elim c.if-is_ok.branch [
      | then-is_ok w ↦ (counted_then _ _ _ _ (test ∙ w.if-is_ok.true) c.loop-round.invariant.0 w.counted-is, alike ∙ c.loop-round.invariant.1)
      | else-is_ok w ↦ (counted_else _ _ _ _ (test ∙ w.if-is_ok.false) c.loop-round.invariant.0 w.counted-is, alike ∙ c.loop-round.invariant.1)
    ]
