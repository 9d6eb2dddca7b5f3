use Rattle.std.proofs.Common.{◌≡◌, ◌++◌, drop, map}
use Rattle.lineality.specs.Without.{without}
use Rattle.lineality.proofs.line_places.row_without.Given as goal

abbrev pub invariant-loop-k : goal.invariant-loop-k
invariant-loop-k g l =
    let value = g.F.Field.value in
    without l.places (map value l.row) ≡ map value l.short ++ without (drop l.k l.places) (map value (drop l.k l.row))
