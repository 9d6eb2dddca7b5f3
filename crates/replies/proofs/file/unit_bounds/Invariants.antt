use Rattle.std.proofs.Common.{◌≡◌, replicate}
use Rattle.exact_field.specs.Rational.{zero_ℚ, one_ℚ}
use Rattle.vlp_problem.specs.declared.problem.Bound.TheVariants.{Double}
use Rattle.replies.proofs.file.unit_bounds.Given as goal

abbrev pub invariant-loop : goal.invariant-loop
invariant-loop l = l.bounds ≡ replicate l.counter (Double zero_ℚ one_ℚ)
