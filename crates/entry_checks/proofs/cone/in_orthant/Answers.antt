use Rattle.std.proofs.Common.{rules, [], ◌∷◌}
use Rattle.std.specs.Prelude.{⊤}
use Rattle.std.specs.List.{list_all}
use Rattle.exact_field.specs.Rational.{zero_ℚ, le_ℚ}
use Rattle.frac128.specs.Held.{is_held}
use Rattle.log_rules.specs.Events.Event.{test}
use Rattle.log_rules.specs.VectorEvents.{none_given}
use Rattle.log_rules.specs.declared.rule.Rule.TheVariants as rule
use Rattle.log_rules.proofs.Failures.{stops-then}
use Rattle.entry_checks.proofs.Going.{Passed, Ran, ran-after}
use Rattle.entry_checks.proofs.cone.in_orthant.Goals as goal

pub returns-in_err-has_no_multipliers : goal.returns-in_err-has_no_multipliers
returns-in_err-has_no_multipliers c = λ taken.
    let stopped = stops-then is_held (none_given c.args.m.now ∷ []) (test rule.Cone (list_all (le_ℚ zero_ℚ) c.args.e.now) ∷ []) taken c.in_err-has_no_multipliers.field-0.0 (c.in_err-has_no_multipliers.ensures taken) in
    search (stopped, rules)

pub returns : goal.returns
returns c = λ taken.
    let given = c.in_ok-has_no_multipliers.ensures taken in
    let came : Passed (none_given c.args.m.now ∷ []) taken taken = record { none = given.0; count = given.1 } in
    let last : Ran {X = Unit {0}} (test rule.Cone (list_all (le_ℚ zero_ℚ) c.args.e.now) ∷ []) taken taken (λ _. ⊤) c.no_entry_is_negative.result = record { runs = c.no_entry_is_negative.ensures taken } in
    (ran-after came last).runs
