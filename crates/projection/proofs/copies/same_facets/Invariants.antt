use Rattle.std.proofs.Common.{◌≡◌, take}
use Rattle.projection.proofs.copies.same_facets.Given as goal

abbrev pub invariant-loop-facet : goal.invariant-loop-facet
invariant-loop-facet l = l.copy ≡ take l.facet-index l.facets
