use Rattle.std.proofs.Common.{◌≡◌, map, drop}
use Rattle.polyhedra.specs.Sparse.{value_at}
use Rattle.upper_image.specs.Spots.{entry_of}
use Rattle.projection.proofs.levels.entry_at.Given as goal

-- the first spots are at other places
abbrev pub invariant-loop-spot : goal.invariant-loop-spot
invariant-loop-spot l = value_at (map entry_of l.spots) l.place ≡ value_at (map entry_of (drop l.spot-index l.spots)) l.place
