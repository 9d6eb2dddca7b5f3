use Rattle.std.proofs.Common.{length, map}
use Rattle.exact_field.specs.Rational.{zero_ℚ}
use Rattle.upper_image.specs.Spots.{dense}
use Rattle.entry_checks.specs.Parts.{side_events}
use Rattle.entry_checks.proofs.Going.{IsAt}
use Rattle.entry_checks.proofs.image.keeps_sides.Given as goal

abbrev pub invariant-loop-row : goal.invariant-loop-row
invariant-loop-row l = IsAt (λ v. side_events v l.fn.x zero_ℚ) (map (dense (length l.fn.x)) l.fn.rows) l.fn.counter.taken l.row-index l.counter.taken
