use Rattle.std.proofs.Common.{◌≡◌, ◌≤◌, take, count_by}
use Rattle.vlp_problem.specs.Sides.{is_unsaid}
use Rattle.vlp_problem.proofs.problem.Bound.count_unsaid.Given as goal

abbrev pub invariant-loop-bound : goal.invariant-loop-bound
invariant-loop-bound l = record { value : l.total ≡ count_by is_unsaid (take l.bound-index l.bounds); small : l.total ≤ l.bound-index }
