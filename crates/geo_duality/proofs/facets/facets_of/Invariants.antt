use Rattle.std.proofs.Common.{◌≡◌, ◌-◌, ◌<◌, ◌≤◌, All, length, max}
use Rattle.polyhedra.specs.LiveList.{vectors}
use Rattle.geo_duality.proofs.FacetRows.{facets_below}
use Rattle.geo_duality.proofs.facets.facets_of.Given as goal

abbrev pub invariant-loop-k : goal.invariant-loop-k
invariant-loop-k g l = record {
  found : l.facets ≡ facets_below (vectors l.dd.list.live) l.dd.rows (l.k - 1);
  within : All (λ j. j < length l.dd.rows) l.facets;
  at_most : l.k ≤ max (length l.dd.rows) 1;
}
