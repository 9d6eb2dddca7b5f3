use Rattle.std.proofs.Common.{◌≡◌, map, take}
use Rattle.polyhedra.specs.Vectors.{scaled}
use Rattle.lin_rows.specs.Sums.{AreProductsHeld}
use Rattle.lin_rows.proofs.sums.scale.Given as goal

abbrev pub invariant-loop-i : goal.invariant-loop-i
invariant-loop-i g l =
    let value = g.F.Field.value in
    record {
      products : map value l.out ≡ take l.i (scaled (value l.k) (map value l.a));
      held : AreProductsHeld g.F.Field.holds (value l.k) (map value l.a) l.i;
    }
