use Rattle.std.proofs.Common.{◌≡◌, length, map, take}
use Rattle.std.specs.List.{zip}
use Rattle.exact_field.specs.Rational.{◌-ℚ◌}
use Rattle.exact_field.specs.Vector.{dot}
use Rattle.upper_image.specs.Spots.{dense}
use Rattle.entry_checks.specs.Parts.{difference_events}
use Rattle.entry_checks.proofs.Going.{IsAt}
use Rattle.entry_checks.proofs.image.differences.Given as goal

abbrev pub invariant-loop-i : goal.invariant-loop-i
invariant-loop-i l = record {
  here : IsAt (λ p. difference_events p.0 l.fn.x p.1) (zip (map (dense (length l.fn.x)) l.fn.rows) l.fn.y) l.fn.counter.taken l.i l.counter.taken;
  made : l.rest ≡ map (λ p. p.1 -ℚ dot p.0 l.fn.x) (take l.i (zip (map (dense (length l.fn.x)) l.fn.rows) l.fn.y));
}
