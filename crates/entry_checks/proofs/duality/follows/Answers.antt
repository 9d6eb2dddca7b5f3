use Rattle.std.proofs.Common.{rules, sym, subst, ap, arith, ◌∙◌, ◌-◌, suc, List, [], ◌∷◌, length, Bool}
use Rattle.std.specs.Prelude.{⊤}
use Rattle.exact_field.specs.Rational.{ℚ, zero_ℚ, lt_ℚ}
use Rattle.exact_field.specs.Vector.{entry}
use Rattle.frac128.specs.Held.{is_held}
use Rattle.log_rules.specs.Events.{Event}
use Rattle.log_rules.specs.Events.Event.{test}
use Rattle.log_rules.specs.Runs.{Runs, Stops}
use Rattle.log_rules.specs.declared.rule.Rule.TheVariants as rule
use Rattle.entry_checks.specs.Parts.{quotients_events}
use Rattle.entry_checks.proofs.Going.{Passed, Stopped, stopped-in, Ran, ran-after, test-passed}
use Rattle.std.proofs.lemmas.List.{get_or_default}
use Rattle.std.specs.Prelude.{Ok}
use Rattle.entry_checks.proofs.MatrixEvents.{positive-other}
use Rattle.entry_checks.proofs.duality.follows.Goals as goal

pub returns-in_err-pass : goal.returns-in_err-pass
returns-in_err-pass c =
    let here : Stopped (test rule.Scaled (lt_ℚ zero_ℚ (entry c.args.f.now (length c.args.f.now))) ∷ []) c.args.counter.now.taken c.in_err-pass.field-0.0 = record { at = subst (λ (es : List Event). Stops is_held es c.args.counter.now.taken c.in_err-pass.field-0.0) (ap (λ (b : Bool). test rule.Scaled b ∷ []) (c.is_positive.ensures.test ∙ ap (lt_ℚ zero_ℚ) (c.index-f-f.is ∙ get_or_default c.args.f.now (length c.args.f.now - 1) c.index-f-f.result zero_ℚ (omega arith)))) (c.in_err-pass.ensures c.args.counter.now.taken) } in
    let stopped = (stopped-in (quotients_events c.args.f.now c.args.c.now (entry c.args.f.now (length c.args.f.now))) here).at in
    search (stopped, rules)

pub is_divided-requires-clause-divisor : goal.is_divided-requires-clause-divisor
is_divided-requires-clause-divisor c = positive-other c.index-f-f.result (sym c.is_positive.ensures.test ∙ test-passed (suc c.args.counter.now.taken) rule.Scaled c.is_positive.result (c.in_ok-pass.ensures c.args.counter.now.taken).0)

pub returns : goal.returns
returns c =
    let came0 : Passed (test rule.Scaled (lt_ℚ zero_ℚ (entry c.args.f.now (length c.args.f.now))) ∷ []) c.args.counter.now.taken c.args.counter.now.taken = record { none = (subst (λ (es : List Event). Runs {X = Unit {0}} is_held es c.args.counter.now.taken c.args.counter.now.taken (λ _. ⊤) (Ok tt)) (ap (λ (b : Bool). test rule.Scaled b ∷ []) (c.is_positive.ensures.test ∙ ap (lt_ℚ zero_ℚ) (c.index-f-f.is ∙ get_or_default c.args.f.now (length c.args.f.now - 1) c.index-f-f.result zero_ℚ (omega arith)))) ((c.in_ok-pass.ensures c.args.counter.now.taken).0, (c.in_ok-pass.ensures c.args.counter.now.taken).1, tt)).0; count = (subst (λ (es : List Event). Runs {X = Unit {0}} is_held es c.args.counter.now.taken c.args.counter.now.taken (λ _. ⊤) (Ok tt)) (ap (λ (b : Bool). test rule.Scaled b ∷ []) (c.is_positive.ensures.test ∙ ap (lt_ℚ zero_ℚ) (c.index-f-f.is ∙ get_or_default c.args.f.now (length c.args.f.now - 1) c.index-f-f.result zero_ℚ (omega arith)))) ((c.in_ok-pass.ensures c.args.counter.now.taken).0, (c.in_ok-pass.ensures c.args.counter.now.taken).1, tt)).1 } in
    let last : Ran {X = Unit {0}} (quotients_events c.args.f.now c.args.c.now (entry c.args.f.now (length c.args.f.now))) c.args.counter.now.taken c.is_divided.new.counter.taken (λ _. ⊤) c.is_divided.result = record { runs = subst (λ (z : ℚ). Runs {X = Unit {0}} is_held (quotients_events c.args.f.now c.args.c.now z) c.args.counter.now.taken c.is_divided.new.counter.taken (λ _. ⊤) c.is_divided.result) (c.index-f-f.is ∙ get_or_default c.args.f.now (length c.args.f.now - 1) c.index-f-f.result zero_ℚ (omega arith)) c.is_divided.ensures } in
    (ran-after came0 last).runs
