use Rattle.std.proofs.Common.{sym, ◌∙◌}
use Rattle.bench_calls.proofs.Negatives.{same_alike, differ_by_order, counted_then, counted_else}
use Rattle.bench_calls.proofs.fractions.comparisons.Goals as goal
use Rattle.bench_calls.proofs.fractions.comparisons.Goals.{then-ne, else-ne}

pub loop-round-preserved : goal.loop-round-preserved
loop-round-preserved g c =
    let alike = same_alike (g.F.Field.value c.loop-round.a) (g.F.Field.value c.loop-round.b) (g.F.Field.value c.neg-a.result) (g.F.Field.value c.neg-b.result) c.neg-a.ensures c.neg-b.ensures in
    let test = sym c.loop-round.invariant.1 ∙ sym (differ_by_order (g.F.Field.value c.loop-round.a) (g.F.Field.value c.loop-round.b) c.cmp.result (c.cmp.ensures ∙ g.met.F.Field.ordered c.loop-round.a c.loop-round.b)) ∙ sym c.ne.ensures in
    elim c.if-ne.branch [
      | then-ne w ↦ (counted_then _ _ _ _ (test ∙ w.if-ne.true) c.loop-round.invariant.0 w.counted-is, alike ∙ c.loop-round.invariant.1)
      | else-ne w ↦ (counted_else _ _ _ _ (test ∙ w.if-ne.false) c.loop-round.invariant.0 w.counted-is, alike ∙ c.loop-round.invariant.1)
    ]
