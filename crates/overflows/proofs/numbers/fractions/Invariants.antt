use Rattle.std.proofs.Common.{◌≡◌, map, take, All, IsTrue}
use Rattle.overflows.proofs.numbers.fractions.Given as goal

abbrev pub invariant-loop-x : goal.invariant-loop-x
invariant-loop-x g l =
    let value = g.F.Field.value in
    record {
      same : l.vector ≡ map value (take l.x-index l.list);
      held : All (λ q. IsTrue (g.F.Field.holds q)) l.vector;
    }
