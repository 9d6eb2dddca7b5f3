use Rattle.std.proofs.Common.{◌≡◌, drop, map}
use Rattle.lineality.specs.Without.{is_line_place}
use Rattle.outer_approx.specs.Lines.{told_by}
use Rattle.outer_approx.proofs.places.is_line_place.Given as goal

abbrev pub invariant-loop-line : goal.invariant-loop-line
invariant-loop-line g l =
    is_line_place (map (told_by g.F.Field.value) l.lines) l.place ≡ is_line_place (map (told_by g.F.Field.value) (drop l.line-index l.lines)) l.place
