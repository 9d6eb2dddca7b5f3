use Rattle.std.proofs.Common.{slice_index_or, [], length}
use Rattle.exact_field.specs.Vector.{dot}
use Rattle.polyhedra.specs.DoubleDescription.{is_zero}
use Rattle.polyhedra.specs.LiveList.{vectors}
use Rattle.geo_duality.proofs.MarkedSoFar.{IsMarkedBelow}
use Rattle.geo_duality.specs.Facets.{row_at}
use Rattle.geo_duality.proofs.tight.tight_at.Given as goal

abbrev pub invariant-loop-i : goal.invariant-loop-i
invariant-loop-i g l =
    let gens = vectors l.dd.list.live in
    IsMarkedBelow (length gens) l.i (λ j. is_zero (dot (row_at l.dd.rows l.k) (slice_index_or gens j []))) l.marks
