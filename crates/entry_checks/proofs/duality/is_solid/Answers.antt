use Rattle.std.proofs.Common.{rules, sym, subst, ap, ◌∙◌, suc, List, [], ◌∷◌, ◌++◌, length, Bool}
use Rattle.std.specs.Prelude.{⊤}
use Rattle.std.specs.List.{list_all}
use Rattle.exact_field.specs.Rational.{zero_ℚ, lt_ℚ}
use Rattle.frac128.specs.Held.{is_held}
use Rattle.log_rules.specs.Events.{Event}
use Rattle.log_rules.specs.Events.Event.{test}
use Rattle.log_rules.specs.Runs.{Runs, Stops}
use Rattle.log_rules.specs.declared.rule.Rule.TheVariants as rule
use Rattle.entry_checks.specs.Parts.{weights_events}
use Rattle.entry_checks.proofs.Going.{Passed, Stopped, stopped-in, stopped-later, Ran, ran-after, test-passed, room-in, room-after}
use Rattle.std.specs.Prelude.{Ok}
use Rattle.log_rules.specs.CutEvents.{rises, all_within, inverse_steps}
use Rattle.polyhedra.proofs.Tests.{both_true}
use Rattle.std.specs.Prelude.{◌&&◌}
use Rattle.entry_checks.proofs.duality.is_solid.Goals as goal

pub returns-in_err-pass : goal.returns-in_err-pass
returns-in_err-pass c =
    let here : Stopped (test rule.Sign (list_all (lt_ℚ zero_ℚ) c.args.weights.now) ∷ []) c.args.counter.now.taken c.in_err-pass.field-0.0 = record { at = subst (λ (es : List Event). Stops is_held es c.args.counter.now.taken c.in_err-pass.field-0.0) (ap (λ (b : Bool). test rule.Sign b ∷ []) c.are_positive.ensures) (c.in_err-pass.ensures c.args.counter.now.taken) } in
    let stopped = (stopped-in ((weights_events c.args.vectors.now c.args.weights.now c.args.c.now) ++ ((test rule.Index (rises c.args.picks.now && all_within (length c.args.vectors.now) c.args.picks.now) ∷ []) ++ (inverse_steps (length c.args.c.now) c.args.vectors.now c.args.picks.now c.args.inverse.now))) here).at in
    search (stopped, rules)

pub weighs-requires-clause-room : goal.weighs-requires-clause-room
weighs-requires-clause-room c =
    let came0 : Passed (test rule.Sign (list_all (lt_ℚ zero_ℚ) c.args.weights.now) ∷ []) c.args.counter.now.taken c.args.counter.now.taken = record { none = (subst (λ (es : List Event). Runs {X = Unit {0}} is_held es c.args.counter.now.taken c.args.counter.now.taken (λ _. ⊤) (Ok tt)) (ap (λ (b : Bool). test rule.Sign b ∷ []) c.are_positive.ensures) ((c.in_ok-pass.ensures c.args.counter.now.taken).0, (c.in_ok-pass.ensures c.args.counter.now.taken).1, tt)).0; count = (subst (λ (es : List Event). Runs {X = Unit {0}} is_held es c.args.counter.now.taken c.args.counter.now.taken (λ _. ⊤) (Ok tt)) (ap (λ (b : Bool). test rule.Sign b ∷ []) c.are_positive.ensures) ((c.in_ok-pass.ensures c.args.counter.now.taken).0, (c.in_ok-pass.ensures c.args.counter.now.taken).1, tt)).1 } in
    room-in (weights_events c.args.vectors.now c.args.weights.now c.args.c.now) ((test rule.Index (rises c.args.picks.now && all_within (length c.args.vectors.now) c.args.picks.now) ∷ []) ++ (inverse_steps (length c.args.c.now) c.args.vectors.now c.args.picks.now c.args.inverse.now)) c.args.counter.now.taken _ (room-after ((weights_events c.args.vectors.now c.args.weights.now c.args.c.now) ++ ((test rule.Index (rises c.args.picks.now && all_within (length c.args.vectors.now) c.args.picks.now) ∷ []) ++ (inverse_steps (length c.args.c.now) c.args.vectors.now c.args.picks.now c.args.inverse.now))) _ came0 c.requires.room)

pub returns-in_err-weighs : goal.returns-in_err-weighs
returns-in_err-weighs c =
    let came0 : Passed (test rule.Sign (list_all (lt_ℚ zero_ℚ) c.args.weights.now) ∷ []) c.args.counter.now.taken c.args.counter.now.taken = record { none = (subst (λ (es : List Event). Runs {X = Unit {0}} is_held es c.args.counter.now.taken c.args.counter.now.taken (λ _. ⊤) (Ok tt)) (ap (λ (b : Bool). test rule.Sign b ∷ []) c.are_positive.ensures) ((c.in_ok-pass.ensures c.args.counter.now.taken).0, (c.in_ok-pass.ensures c.args.counter.now.taken).1, tt)).0; count = (subst (λ (es : List Event). Runs {X = Unit {0}} is_held es c.args.counter.now.taken c.args.counter.now.taken (λ _. ⊤) (Ok tt)) (ap (λ (b : Bool). test rule.Sign b ∷ []) c.are_positive.ensures) ((c.in_ok-pass.ensures c.args.counter.now.taken).0, (c.in_ok-pass.ensures c.args.counter.now.taken).1, tt)).1 } in
    let here : Stopped (weights_events c.args.vectors.now c.args.weights.now c.args.c.now) c.args.counter.now.taken c.in_err-weighs.field-0.0 = record { at = c.in_err-weighs.ensures } in
    let stopped = (stopped-later came0 (stopped-in ((test rule.Index (rises c.args.picks.now && all_within (length c.args.vectors.now) c.args.picks.now) ∷ []) ++ (inverse_steps (length c.args.c.now) c.args.vectors.now c.args.picks.now c.args.inverse.now)) here)).at in
    search (stopped, rules)

pub returns-in_err-pass-2 : goal.returns-in_err-pass-2
returns-in_err-pass-2 c =
    let came0 : Passed (test rule.Sign (list_all (lt_ℚ zero_ℚ) c.args.weights.now) ∷ []) c.args.counter.now.taken c.args.counter.now.taken = record { none = (subst (λ (es : List Event). Runs {X = Unit {0}} is_held es c.args.counter.now.taken c.args.counter.now.taken (λ _. ⊤) (Ok tt)) (ap (λ (b : Bool). test rule.Sign b ∷ []) c.are_positive.ensures) ((c.in_ok-pass.ensures c.args.counter.now.taken).0, (c.in_ok-pass.ensures c.args.counter.now.taken).1, tt)).0; count = (subst (λ (es : List Event). Runs {X = Unit {0}} is_held es c.args.counter.now.taken c.args.counter.now.taken (λ _. ⊤) (Ok tt)) (ap (λ (b : Bool). test rule.Sign b ∷ []) c.are_positive.ensures) ((c.in_ok-pass.ensures c.args.counter.now.taken).0, (c.in_ok-pass.ensures c.args.counter.now.taken).1, tt)).1 } in
    let came1 : Passed (weights_events c.args.vectors.now c.args.weights.now c.args.c.now) c.args.counter.now.taken c.weighs.new.counter.taken = record { none = c.in_ok-weighs.ensures.0; count = c.in_ok-weighs.ensures.1 } in
    let here : Stopped (test rule.Index (rises c.args.picks.now && all_within (length c.args.vectors.now) c.args.picks.now) ∷ []) c.weighs.new.counter.taken c.in_err-pass-2.field-0.0 = record { at = subst (λ (es : List Event). Stops is_held es c.weighs.new.counter.taken c.in_err-pass-2.field-0.0) (ap (λ (b : Bool). test rule.Index b ∷ []) c.are_picks.ensures) (c.in_err-pass-2.ensures c.weighs.new.counter.taken) } in
    let stopped = (stopped-later came0 (stopped-later came1 (stopped-in (inverse_steps (length c.args.c.now) c.args.vectors.now c.args.picks.now c.args.inverse.now) here))).at in
    search (stopped, rules)

pub inverts-requires-clause-picks : goal.inverts-requires-clause-picks
inverts-requires-clause-picks c = (both_true (rises c.args.picks.now) (all_within (length c.args.vectors.now) c.args.picks.now) (sym c.are_picks.ensures ∙ test-passed (suc c.weighs.new.counter.taken) rule.Index c.are_picks.result (c.in_ok-pass-2.ensures c.weighs.new.counter.taken).0)).1

pub inverts-requires-clause-room : goal.inverts-requires-clause-room
inverts-requires-clause-room c =
    let came0 : Passed (test rule.Sign (list_all (lt_ℚ zero_ℚ) c.args.weights.now) ∷ []) c.args.counter.now.taken c.args.counter.now.taken = record { none = (subst (λ (es : List Event). Runs {X = Unit {0}} is_held es c.args.counter.now.taken c.args.counter.now.taken (λ _. ⊤) (Ok tt)) (ap (λ (b : Bool). test rule.Sign b ∷ []) c.are_positive.ensures) ((c.in_ok-pass.ensures c.args.counter.now.taken).0, (c.in_ok-pass.ensures c.args.counter.now.taken).1, tt)).0; count = (subst (λ (es : List Event). Runs {X = Unit {0}} is_held es c.args.counter.now.taken c.args.counter.now.taken (λ _. ⊤) (Ok tt)) (ap (λ (b : Bool). test rule.Sign b ∷ []) c.are_positive.ensures) ((c.in_ok-pass.ensures c.args.counter.now.taken).0, (c.in_ok-pass.ensures c.args.counter.now.taken).1, tt)).1 } in
    let came1 : Passed (weights_events c.args.vectors.now c.args.weights.now c.args.c.now) c.args.counter.now.taken c.weighs.new.counter.taken = record { none = c.in_ok-weighs.ensures.0; count = c.in_ok-weighs.ensures.1 } in
    let came2 : Passed (test rule.Index (rises c.args.picks.now && all_within (length c.args.vectors.now) c.args.picks.now) ∷ []) c.weighs.new.counter.taken c.weighs.new.counter.taken = record { none = (subst (λ (es : List Event). Runs {X = Unit {0}} is_held es c.weighs.new.counter.taken c.weighs.new.counter.taken (λ _. ⊤) (Ok tt)) (ap (λ (b : Bool). test rule.Index b ∷ []) c.are_picks.ensures) ((c.in_ok-pass-2.ensures c.weighs.new.counter.taken).0, (c.in_ok-pass-2.ensures c.weighs.new.counter.taken).1, tt)).0; count = (subst (λ (es : List Event). Runs {X = Unit {0}} is_held es c.weighs.new.counter.taken c.weighs.new.counter.taken (λ _. ⊤) (Ok tt)) (ap (λ (b : Bool). test rule.Index b ∷ []) c.are_picks.ensures) ((c.in_ok-pass-2.ensures c.weighs.new.counter.taken).0, (c.in_ok-pass-2.ensures c.weighs.new.counter.taken).1, tt)).1 } in
    (room-after (inverse_steps (length c.args.c.now) c.args.vectors.now c.args.picks.now c.args.inverse.now) _ came2 (room-after ((test rule.Index (rises c.args.picks.now && all_within (length c.args.vectors.now) c.args.picks.now) ∷ []) ++ (inverse_steps (length c.args.c.now) c.args.vectors.now c.args.picks.now c.args.inverse.now)) _ came1 (room-after ((weights_events c.args.vectors.now c.args.weights.now c.args.c.now) ++ ((test rule.Index (rises c.args.picks.now && all_within (length c.args.vectors.now) c.args.picks.now) ∷ []) ++ (inverse_steps (length c.args.c.now) c.args.vectors.now c.args.picks.now c.args.inverse.now))) _ came0 c.requires.room)))

pub returns : goal.returns
returns c =
    let came0 : Passed (test rule.Sign (list_all (lt_ℚ zero_ℚ) c.args.weights.now) ∷ []) c.args.counter.now.taken c.args.counter.now.taken = record { none = (subst (λ (es : List Event). Runs {X = Unit {0}} is_held es c.args.counter.now.taken c.args.counter.now.taken (λ _. ⊤) (Ok tt)) (ap (λ (b : Bool). test rule.Sign b ∷ []) c.are_positive.ensures) ((c.in_ok-pass.ensures c.args.counter.now.taken).0, (c.in_ok-pass.ensures c.args.counter.now.taken).1, tt)).0; count = (subst (λ (es : List Event). Runs {X = Unit {0}} is_held es c.args.counter.now.taken c.args.counter.now.taken (λ _. ⊤) (Ok tt)) (ap (λ (b : Bool). test rule.Sign b ∷ []) c.are_positive.ensures) ((c.in_ok-pass.ensures c.args.counter.now.taken).0, (c.in_ok-pass.ensures c.args.counter.now.taken).1, tt)).1 } in
    let came1 : Passed (weights_events c.args.vectors.now c.args.weights.now c.args.c.now) c.args.counter.now.taken c.weighs.new.counter.taken = record { none = c.in_ok-weighs.ensures.0; count = c.in_ok-weighs.ensures.1 } in
    let came2 : Passed (test rule.Index (rises c.args.picks.now && all_within (length c.args.vectors.now) c.args.picks.now) ∷ []) c.weighs.new.counter.taken c.weighs.new.counter.taken = record { none = (subst (λ (es : List Event). Runs {X = Unit {0}} is_held es c.weighs.new.counter.taken c.weighs.new.counter.taken (λ _. ⊤) (Ok tt)) (ap (λ (b : Bool). test rule.Index b ∷ []) c.are_picks.ensures) ((c.in_ok-pass-2.ensures c.weighs.new.counter.taken).0, (c.in_ok-pass-2.ensures c.weighs.new.counter.taken).1, tt)).0; count = (subst (λ (es : List Event). Runs {X = Unit {0}} is_held es c.weighs.new.counter.taken c.weighs.new.counter.taken (λ _. ⊤) (Ok tt)) (ap (λ (b : Bool). test rule.Index b ∷ []) c.are_picks.ensures) ((c.in_ok-pass-2.ensures c.weighs.new.counter.taken).0, (c.in_ok-pass-2.ensures c.weighs.new.counter.taken).1, tt)).1 } in
    let last : Ran {X = Unit {0}} (inverse_steps (length c.args.c.now) c.args.vectors.now c.args.picks.now c.args.inverse.now) c.weighs.new.counter.taken c.inverts.new.counter.taken (λ _. ⊤) c.inverts.result = record { runs = c.inverts.ensures } in
    (ran-after came0 (ran-after came1 (ran-after came2 last))).runs
