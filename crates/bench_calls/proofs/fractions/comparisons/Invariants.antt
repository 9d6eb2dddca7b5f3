use Rattle.std.proofs.Common.{◌≡◌, cond}
use Rattle.std.specs.Prelude.{not}
use Rattle.exact_field.specs.Order.{same_ℚ}
use Rattle.bench_calls.proofs.fractions.comparisons.Given as goal

abbrev pub invariant-loop-round : goal.invariant-loop-round
invariant-loop-round g l =
    let differ = not (same_ℚ (g.F.Field.value l.fn.first) (g.F.Field.value l.fn.second)) in
    (l.counted ≡ cond differ l.round 0) × (not (same_ℚ (g.F.Field.value l.a) (g.F.Field.value l.b)) ≡ differ)
