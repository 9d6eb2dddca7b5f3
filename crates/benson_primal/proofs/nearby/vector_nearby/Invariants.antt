use Rattle.std.proofs.Common.{◌≡◌, length}
use Rattle.benson_primal.proofs.nearby.vector_nearby.Given as goal

abbrev pub invariant-loop-x : goal.invariant-loop-x
invariant-loop-x g l = length l.near ≡ l.x-index
