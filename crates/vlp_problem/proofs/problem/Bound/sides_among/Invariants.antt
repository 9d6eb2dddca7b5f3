use Rattle.std.proofs.Common.{◌≡◌, ◌≤◌, ◌*◌, take, sum_by}
use Rattle.vlp_problem.specs.Sides.{side_number}
use Rattle.vlp_problem.proofs.problem.Bound.sides_among.Given as goal

abbrev pub invariant-loop-bound : goal.invariant-loop-bound
invariant-loop-bound l = record { value : l.total ≡ sum_by side_number (take l.bound-index l.bounds); small : l.total ≤ 2 * l.bound-index }
