use Rattle.std.proofs.Common.{◌≡◌, ◌*◌, drop, length, map, take}
use Rattle.polyhedra.specs.LiveList.{vectors}
use Rattle.upper_image.specs.Spots.{pieces}
use Rattle.outer_approx.specs.First.{front_with}
use Rattle.outer_approx.proofs.start.directions_of.Given as goal

abbrev pub invariant-loop-k : goal.invariant-loop-k
invariant-loop-k g l = record {
  long : length l.directions ≡ l.k * length l.places;
  pieces : pieces l.k (length l.places) l.directions ≡ map (front_with l.places) (take l.k (drop 1 (vectors l.dd.list.live)));
}
