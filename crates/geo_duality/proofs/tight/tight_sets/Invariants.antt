use Rattle.std.proofs.Common.{◌≡◌, map, take}
use Rattle.polyhedra.specs.LiveList.{vectors}
use Rattle.geo_duality.specs.Facets.{tight_places}
use Rattle.geo_duality.proofs.tight.tight_sets.Given as goal

abbrev pub invariant-loop-k : goal.invariant-loop-k
invariant-loop-k g l = l.sets ≡ map (tight_places (vectors l.dd.list.live)) (take l.k l.dd.rows)
