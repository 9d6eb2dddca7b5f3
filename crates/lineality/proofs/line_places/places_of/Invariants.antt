use Rattle.std.proofs.Common.{◌≡◌, ◌++◌, ◌-◌, suc, map}
use Rattle.lineality.specs.Without.{marks_from}
use Rattle.lineality.proofs.line_places.places_of.Given as goal

abbrev pub invariant-loop-k : goal.invariant-loop-k
invariant-loop-k g l =
    let lines = map (map g.F.Field.value) l.lines in
    marks_from 1 l.width lines ≡ l.places ++ marks_from (suc l.k) (l.width - l.k) lines
