use Rattle.std.proofs.Common.{◌≡◌, take, not, None}
use Rattle.std.specs.List.{flat_map, find}
use Rattle.vlp_printer.specs.Decimal.{is_decimal}
use Rattle.vlp_problem.specs.Values.{bound_numbers}
use Rattle.vlp_printer.proofs.numbers.wide_bound.Given as goal

abbrev pub invariant-loop-bound : goal.invariant-loop-bound
invariant-loop-bound l = find (λ q. not (is_decimal q)) (flat_map bound_numbers (take l.bound-index l.bounds)) ≡ None
