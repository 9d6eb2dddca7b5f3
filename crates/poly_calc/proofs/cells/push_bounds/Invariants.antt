use Rattle.std.proofs.Common.{◌≡◌, ◌++◌, replicate}
use Rattle.poly_calc.proofs.cells.push_bounds.Given as goal

abbrev pub invariant-loop : goal.invariant-loop
invariant-loop l = l.bounds ≡ l.initial.bounds ++ replicate l.counter l.bound
