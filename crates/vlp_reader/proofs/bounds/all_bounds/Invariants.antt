use Rattle.std.proofs.Common.{◌≡◌, map, take, unwrap_or}
use Rattle.vlp_problem.specs.declared.problem.Bound.TheVariants.{Unsaid}
use Rattle.vlp_reader.proofs.bounds.all_bounds.Given as goal

abbrev pub invariant-loop-bound : goal.invariant-loop-bound
invariant-loop-bound l = l.all ≡ map (λ b. unwrap_or b Unsaid) (take l.bound-index l.bounds)
