use Rattle.std.proofs.Common.{◌≡◌, drop}
use Rattle.bench_calls.specs.Steps.{run_of}
use Rattle.bench_calls.proofs.steps.run.Given as goal

abbrev pub invariant-loop-step : goal.invariant-loop-step
invariant-loop-step l = run_of (drop l.step-index l.steps) l.numbers ≡ run_of l.steps l.fn.numbers
