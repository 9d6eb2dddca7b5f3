use Rattle.std.proofs.Common.{◌≡◌, ◌++◌, map, drop}
use Rattle.double_descr.specs.Making.{negative_places}
use Rattle.double_descr.proofs.parts.places_below.Given as goal

abbrev pub invariant-loop-j : goal.invariant-loop-j
invariant-loop-j g l =
    let value = g.F.Field.value in
    l.out ++ negative_places l.j (drop l.j (map value l.values)) ≡ negative_places 0 (map value l.values)
