use Rattle.std.proofs.Common.{◌≡◌, drop, map}
use Rattle.lineality.specs.Without.{is_line_place}
use Rattle.lineality.proofs.line_places.is_line_place.Given as goal

abbrev pub invariant-loop-line : goal.invariant-loop-line
invariant-loop-line g l =
    let values = map (map g.F.Field.value) in
    is_line_place (values l.lines) l.place ≡ is_line_place (values (drop l.line-index l.lines)) l.place
