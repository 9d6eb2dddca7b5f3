use Rattle.std.proofs.Common.{◌≡◌, map}
use Rattle.polyhedra.specs.Vectors.{zeros}
use Rattle.outer_approx.proofs.start.level_row.Given as goal

abbrev pub invariant-loop-k : goal.invariant-loop-k
invariant-loop-k g l = map g.F.Field.value l.row ≡ zeros l._k
