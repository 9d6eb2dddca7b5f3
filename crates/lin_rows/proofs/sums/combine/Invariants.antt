use Rattle.std.proofs.Common.{◌≡◌, map, take}
use Rattle.polyhedra.specs.Vectors.{plus, scaled}
use Rattle.lin_rows.specs.Sums.{IsCombinationHeld}
use Rattle.lin_rows.proofs.sums.combine.Given as goal

abbrev pub invariant-loop-i : goal.invariant-loop-i
invariant-loop-i g l =
    let value = g.F.Field.value in
    record {
      sums : map value l.out ≡ take l.i (plus (map value l.a) (scaled (value l.k) (map value l.b)));
      held : IsCombinationHeld g.F.Field.holds (map value l.a) (value l.k) (map value l.b) l.i;
    }
