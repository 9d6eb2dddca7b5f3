use Rattle.std.proofs.Common.{◌≡◌, ◌++◌, ◌≤◌, drop, length, map}
use Rattle.lineality.specs.Without.{with_zeros}
use Rattle.lineality.proofs.line_places.full_vector.Given as goal

abbrev pub invariant-loop-is_line : goal.invariant-loop-is_line
invariant-loop-is_line g l =
    let value = g.F.Field.value in
    record {
      same : with_zeros l.places (map value l.short) ≡ map value l.full ++ with_zeros (drop l.is_line-index l.places) (map value (drop l.next l.short));
      low : l.next ≤ length l.short;
    }
