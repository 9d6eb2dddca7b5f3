use Rattle.std.proofs.Common.{◌≡◌, cond}
use Rattle.bench_calls.specs.Steps.{run_of, ends_in_zero}
use Rattle.bench_calls.proofs.steps.runs.Given as goal

abbrev pub invariant-loop-round : goal.invariant-loop-round
invariant-loop-round l = l.counted ≡ cond (ends_in_zero (run_of l.steps l.numbers)) l.round 0
