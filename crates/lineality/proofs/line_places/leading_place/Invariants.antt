use Rattle.std.proofs.Common.{◌≡◌, ◌+◌, drop, map}
use Rattle.lineality.specs.Lines.{leading_place}
use Rattle.lineality.proofs.line_places.leading_place.Given as goal

abbrev pub invariant-loop-k : goal.invariant-loop-k
invariant-loop-k g l = leading_place (map g.F.Field.value l.v) ≡ l.k + leading_place (map g.F.Field.value (drop l.k l.v))
