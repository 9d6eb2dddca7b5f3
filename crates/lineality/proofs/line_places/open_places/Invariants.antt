use Rattle.std.proofs.Common.{◌≡◌, ◌+◌, ◌≤◌, drop}
use Rattle.lineality.specs.Without.{open_count}
use Rattle.lineality.proofs.line_places.open_places.Given as goal

abbrev pub invariant-loop-is_line : goal.invariant-loop-is_line
invariant-loop-is_line l = record {
  same : open_count l.places ≡ l.count + open_count (drop l.is_line-index l.places);
  low : l.count ≤ l.is_line-index;
}
