use Rattle.std.specs.Prelude.{◌≡◌, ◌+◌, length, drop}
use Rattle.std.specs.List.{zip}
use Rattle.exact_field.specs.Rational.{zero_ℚ}
use Rattle.log_rules.specs.Events.{dot_steps, sum_from}
use Rattle.log_rules.specs.Runs.{steps}
use Rattle.entry_checks.proofs.steps.steps_of_dot.Given as goal

abbrev pub invariant-loop-a : goal.invariant-loop-a
invariant-loop-a l = l.taken + steps (sum_from zero_ℚ (drop (length l.yielded) (zip l.v l.w))) ≡ steps (dot_steps l.v l.w)
