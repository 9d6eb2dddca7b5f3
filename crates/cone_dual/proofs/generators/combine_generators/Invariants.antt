use Rattle.std.proofs.Common.{◌≡◌, map, take}
use Rattle.lin_rows.specs.Read.{numbers}
use Rattle.polyhedra.specs.Vectors.{combination}
use Rattle.cone_dual.proofs.generators.combine_generators.Given as goal

abbrev pub invariant-loop-i : goal.invariant-loop-i
invariant-loop-i g l =
    let value = g.F.Field.value in
    map value l.c ≡ take l.i (combination l.q (map value l.mu) (numbers value l.vectors))
