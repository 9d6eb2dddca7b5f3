use Rattle.std.proofs.Common.{◌≡◌}
use Rattle.cone_dual.specs.Generators.{others}
use Rattle.cone_dual.proofs.picked.other_numbers.Given as goal

abbrev pub invariant-loop-k : goal.invariant-loop-k
invariant-loop-k l = l.out ≡ others l.k l.picks
