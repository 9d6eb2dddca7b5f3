use Rattle.std.proofs.Common.{◌≡◌, ◌++◌, ◌-◌, suc, map}
use Rattle.lineality.specs.Without.{marks_from}
use Rattle.outer_approx.specs.Lines.{told_by}
use Rattle.outer_approx.proofs.places.places_of.Given as goal

abbrev pub invariant-loop-k : goal.invariant-loop-k
invariant-loop-k g l =
    marks_from 1 l.q (map (told_by g.F.Field.value) l.lines) ≡ l.places ++ marks_from (suc l.k) (l.q - l.k) (map (told_by g.F.Field.value) l.lines)
