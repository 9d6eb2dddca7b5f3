use Rattle.std.proofs.Common.{◌≡◌}
use Rattle.polyhedra.specs.Vectors.{zeros}
use Rattle.rep_conv.proofs.rows.level.Given as goal

abbrev pub invariant-loop : goal.invariant-loop
invariant-loop l = l.row ≡ zeros l.counter
