use Rattle.std.proofs.Common.{◌≡◌, map, take}
use Rattle.projection.specs.Found.{shortened}
use Rattle.projection.proofs.copies.short_gens.Given as goal

abbrev pub invariant-loop-member : goal.invariant-loop-member
invariant-loop-member l = l.short ≡ map (shortened l.k) (take l.member-index l.members)
