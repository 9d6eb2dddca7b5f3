use Rattle.std.proofs.Common.{take, All, Contains}
use Rattle.weighing.specs.Walk.{IsNoLess}
use Rattle.weighing.proofs.least.find_best.Given as goal

abbrev pub invariant-loop-value : goal.invariant-loop-value
invariant-loop-value l = record {
  least : All (λ v. IsNoLess l.direction v l.found) (take l.value-index l.values);
  one : Contains l.values l.found;
}
