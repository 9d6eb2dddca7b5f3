use Rattle.std.proofs.Common.{◌≡◌, cond}
use Rattle.exact_field.specs.Rational.{◌*ℚ◌}
use Rattle.bench_calls.proofs.fractions.products.Given as goal

abbrev pub invariant-loop-round : goal.invariant-loop-round
invariant-loop-round g l =
    let exact = g.F.Field.value l.fn.first *ℚ g.F.Field.value l.fn.second in
    (l.counted ≡ cond (g.F.Field.holds exact) l.round 0) × (g.F.Field.holds (g.F.Field.value l.a *ℚ g.F.Field.value l.b) ≡ g.F.Field.holds exact)
