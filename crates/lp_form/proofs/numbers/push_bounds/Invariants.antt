use Rattle.std.proofs.Common.{◌≡◌, ◌++◌, take}
use Rattle.std.specs.List.{flat_map}
use Rattle.vlp_problem.specs.Values.{bound_numbers}
use Rattle.lp_form.proofs.numbers.push_bounds.Given as goal

abbrev pub invariant-loop-bound : goal.invariant-loop-bound
invariant-loop-bound l =
    l.numbers ≡ l.initial.numbers ++ flat_map bound_numbers (take l.bound-index l.bounds)
