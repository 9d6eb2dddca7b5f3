use Rattle.std.proofs.Common.{◌≡◌, map, take}
use Rattle.projection.specs.Found.{shortened, level_directions}
use Rattle.projection.proofs.levels.short_directions.Given as goal

abbrev pub invariant-loop-direction : goal.invariant-loop-direction
invariant-loop-direction l = l.short ≡ map (shortened l.k) (level_directions (take l.direction-index l.directions))
