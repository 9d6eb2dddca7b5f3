use Rattle.std.proofs.Common.{◌≡◌, ◌∷◌, [], map, take}
use Rattle.exact_field.specs.Rational.{◌/ℚ◌}
use Rattle.exact_field.specs.declared.op.Op.TheVariants as op
use Rattle.log_rules.specs.Events.Event.{step}
use Rattle.entry_checks.proofs.Going.{IsAt}
use Rattle.log_live.proofs.made.divide.Given as goal

abbrev pub invariant-loop-entry : goal.invariant-loop-entry
invariant-loop-entry l = record {
  here : IsAt (λ x. step op.Div x l.fn.divisor ∷ []) l.fn.y l.fn.counter.taken l.entry-index l.counter.taken;
  made : l.quotients ≡ map (λ x. x /ℚ l.fn.divisor) (take l.entry-index l.fn.y);
}
