use Rattle.std.proofs.Common.{◌≡◌, map, take}
use Rattle.std.specs.List.{zip}
use Rattle.exact_field.specs.Rational.{◌+ℚ◌, ◌*ℚ◌}
use Rattle.log_live.specs.Adding.{entry_events}
use Rattle.entry_checks.proofs.Going.{IsAt}
use Rattle.log_live.proofs.made.point_between.Given as goal

abbrev pub invariant-loop-i : goal.invariant-loop-i
invariant-loop-i l = record {
  here : IsAt (λ e. entry_events l.fn.k e.0 e.1) (zip l.fn.plus l.fn.minus) l.fn.counter.taken l.i l.counter.taken;
  made : l.entries ≡ map (λ e. e.0 +ℚ l.fn.k *ℚ e.1) (take l.i (zip l.fn.plus l.fn.minus));
}
