use Rattle.std.proofs.Common.{rules, sym, subst, ap, ap₂, arith, ◌∙◌, ◌≡◌, ◌+◌, ◌-◌, ◌<◌, ℕ, List, [], ◌∷◌, ◌++◌, length, Bool, true, ◌==◌, IsTrue}
use Rattle.std.specs.Prelude.{⊤}
use Rattle.exact_field.specs.Order.{same_ℚ}
use Rattle.exact_field.specs.Rational.{zero_ℚ, one_ℚ}
use Rattle.exact_field.specs.Vector.{entry}
use Rattle.frac128.specs.Held.{is_held}
use Rattle.log_rules.specs.Events.{Event}
use Rattle.log_rules.specs.Events.Event.{test}
use Rattle.log_rules.specs.Runs.{Runs, Stops, steps}
use Rattle.log_rules.specs.declared.rule.Rule.TheVariants as rule
use Rattle.entry_checks.proofs.Going.{Passed, Stopped, stopped-in, stopped-later, Ran, ran-after, test-passed, room-in, room-after}
use Rattle.std.proofs.lemmas.List.{get_or_default}
use Rattle.std.specs.Prelude.{Ok}
use Rattle.entry_checks.proofs.Going.{whole-run}
use Rattle.log_rules.specs.CutEvents.{duality_events, follows_given, interior, has_lengths}
use Rattle.polyhedra.proofs.Tests.{both_true}
use Rattle.std.specs.Prelude.{◌&&◌}
use Rattle.std.proofs.lemmas.Bool.{eqb-true}
use Rattle.vlp_problem.specs.Cones.{cone_fits, duality_fits}
use Rattle.entry_checks.proofs.StepBounds.{steps-duality}
use Rattle.entry_checks.proofs.duality.check_duality.Goals as goal

pub returns-in_err-pass : goal.returns-in_err-pass
returns-in_err-pass c =
    let here : Stopped (test rule.Length (length c.args.c.now == c.args.problem.now.objs && has_lengths c.args.problem.now.objs c.args.problem.now.cone c.args.weights.now c.args.picks.now c.args.inverse.now) ∷ []) 0 c.in_err-pass.field-0.0 = record { at = subst (λ (es : List Event). Stops is_held es 0 c.in_err-pass.field-0.0) (ap (λ (b : Bool). test rule.Length b ∷ []) c.lists_fit.ensures) (c.in_err-pass.ensures 0) } in
    let stopped = (stopped-in ((test rule.Scaled (same_ℚ (entry c.args.c.now c.args.problem.now.objs) one_ℚ) ∷ []) ++ ((follows_given c.args.problem.now.objs c.args.problem.now.cone c.args.problem.now.duality c.args.c.now) ++ (interior c.args.problem.now.objs c.args.problem.now.cone c.args.c.now c.args.weights.now c.args.picks.now c.args.inverse.now))) here).at in
    search (stopped, rules)

pub bounds-c-objs : goal.bounds-c-objs
bounds-c-objs c = (let some = c.args.problem.now.some_objective in let long = (eqb-true (length c.args.c.now) c.args.problem.now.objs (both_true (length c.args.c.now == c.args.problem.now.objs) (has_lengths c.args.problem.now.objs c.args.problem.now.cone c.args.weights.now c.args.picks.now c.args.inverse.now) (sym c.lists_fit.ensures ∙ test-passed 1 rule.Length c.lists_fit.result (c.in_ok-pass.ensures 0).0)).0) in omega (arith, some, long))

pub returns-in_err-pass-2 : goal.returns-in_err-pass-2
returns-in_err-pass-2 c =
    let came0 : Passed (test rule.Length (length c.args.c.now == c.args.problem.now.objs && has_lengths c.args.problem.now.objs c.args.problem.now.cone c.args.weights.now c.args.picks.now c.args.inverse.now) ∷ []) 0 0 = record { none = (subst (λ (es : List Event). Runs {X = Unit {0}} is_held es 0 0 (λ _. ⊤) (Ok tt)) (ap (λ (b : Bool). test rule.Length b ∷ []) c.lists_fit.ensures) ((c.in_ok-pass.ensures 0).0, (c.in_ok-pass.ensures 0).1, tt)).0; count = (subst (λ (es : List Event). Runs {X = Unit {0}} is_held es 0 0 (λ _. ⊤) (Ok tt)) (ap (λ (b : Bool). test rule.Length b ∷ []) c.lists_fit.ensures) ((c.in_ok-pass.ensures 0).0, (c.in_ok-pass.ensures 0).1, tt)).1 } in
    let here : Stopped (test rule.Scaled (same_ℚ (entry c.args.c.now c.args.problem.now.objs) one_ℚ) ∷ []) 0 c.in_err-pass-2.field-0.0 = record { at = subst (λ (es : List Event). Stops is_held es 0 c.in_err-pass-2.field-0.0) (ap (λ (b : Bool). test rule.Scaled b ∷ []) (c.eq.ensures ∙ ap₂ same_ℚ (c.index-c-objs.is ∙ get_or_default c.args.c.now (c.args.problem.now.objs - 1) c.index-c-objs.result zero_ℚ (let some = c.args.problem.now.some_objective in let long = (eqb-true (length c.args.c.now) c.args.problem.now.objs (both_true (length c.args.c.now == c.args.problem.now.objs) (has_lengths c.args.problem.now.objs c.args.problem.now.cone c.args.weights.now c.args.picks.now c.args.inverse.now) (sym c.lists_fit.ensures ∙ test-passed 1 rule.Length c.lists_fit.result (c.in_ok-pass.ensures 0).0)).0) in omega (arith, some, long))) c.from.ensures)) (c.in_err-pass-2.ensures 0) } in
    let stopped = (stopped-later came0 (stopped-in ((follows_given c.args.problem.now.objs c.args.problem.now.cone c.args.problem.now.duality c.args.c.now) ++ (interior c.args.problem.now.objs c.args.problem.now.cone c.args.c.now c.args.weights.now c.args.picks.now c.args.inverse.now)) here)).at in
    search (stopped, rules)

pub follows_given-requires-clause-some : goal.follows_given-requires-clause-some
follows_given-requires-clause-some c = let some = c.args.problem.now.some_objective in let long = (eqb-true (length c.args.c.now) c.args.problem.now.objs (both_true (length c.args.c.now == c.args.problem.now.objs) (has_lengths c.args.problem.now.objs c.args.problem.now.cone c.args.weights.now c.args.picks.now c.args.inverse.now) (sym c.lists_fit.ensures ∙ test-passed 1 rule.Length c.lists_fit.result (c.in_ok-pass.ensures 0).0)).0) in omega (arith, some, long)

pub follows_given-requires-clause-fits : goal.follows_given-requires-clause-fits
follows_given-requires-clause-fits c = subst (λ (n : ℕ). IsTrue (duality_fits n c.args.problem.now.duality)) (sym (eqb-true (length c.args.c.now) c.args.problem.now.objs (both_true (length c.args.c.now == c.args.problem.now.objs) (has_lengths c.args.problem.now.objs c.args.problem.now.cone c.args.weights.now c.args.picks.now c.args.inverse.now) (sym c.lists_fit.ensures ∙ test-passed 1 rule.Length c.lists_fit.result (c.in_ok-pass.ensures 0).0)).0)) c.args.problem.now.duality_entries

pub follows_given-requires-clause-room : goal.follows_given-requires-clause-room
follows_given-requires-clause-room c =
    let room : 0 + steps (duality_events c.args.problem.now c.args.c.now c.args.weights.now c.args.picks.now c.args.inverse.now) < 9223372036854775808 = let few = steps-duality c.args.problem.now c.args.c.now c.args.weights.now c.args.picks.now c.args.inverse.now (eqb-true (length c.args.c.now) c.args.problem.now.objs (both_true (length c.args.c.now == c.args.problem.now.objs) (has_lengths c.args.problem.now.objs c.args.problem.now.cone c.args.weights.now c.args.picks.now c.args.inverse.now) (sym c.lists_fit.ensures ∙ test-passed 1 rule.Length c.lists_fit.result (c.in_ok-pass.ensures 0).0)).0) (both_true (length c.args.c.now == c.args.problem.now.objs) (has_lengths c.args.problem.now.objs c.args.problem.now.cone c.args.weights.now c.args.picks.now c.args.inverse.now) (sym c.lists_fit.ensures ∙ test-passed 1 rule.Length c.lists_fit.result (c.in_ok-pass.ensures 0).0)).1 in omega (arith, few) in
    let came0 : Passed (test rule.Length (length c.args.c.now == c.args.problem.now.objs && has_lengths c.args.problem.now.objs c.args.problem.now.cone c.args.weights.now c.args.picks.now c.args.inverse.now) ∷ []) 0 0 = record { none = (subst (λ (es : List Event). Runs {X = Unit {0}} is_held es 0 0 (λ _. ⊤) (Ok tt)) (ap (λ (b : Bool). test rule.Length b ∷ []) c.lists_fit.ensures) ((c.in_ok-pass.ensures 0).0, (c.in_ok-pass.ensures 0).1, tt)).0; count = (subst (λ (es : List Event). Runs {X = Unit {0}} is_held es 0 0 (λ _. ⊤) (Ok tt)) (ap (λ (b : Bool). test rule.Length b ∷ []) c.lists_fit.ensures) ((c.in_ok-pass.ensures 0).0, (c.in_ok-pass.ensures 0).1, tt)).1 } in
    let came1 : Passed (test rule.Scaled (same_ℚ (entry c.args.c.now c.args.problem.now.objs) one_ℚ) ∷ []) 0 0 = record { none = (subst (λ (es : List Event). Runs {X = Unit {0}} is_held es 0 0 (λ _. ⊤) (Ok tt)) (ap (λ (b : Bool). test rule.Scaled b ∷ []) (c.eq.ensures ∙ ap₂ same_ℚ (c.index-c-objs.is ∙ get_or_default c.args.c.now (c.args.problem.now.objs - 1) c.index-c-objs.result zero_ℚ (let some = c.args.problem.now.some_objective in let long = (eqb-true (length c.args.c.now) c.args.problem.now.objs (both_true (length c.args.c.now == c.args.problem.now.objs) (has_lengths c.args.problem.now.objs c.args.problem.now.cone c.args.weights.now c.args.picks.now c.args.inverse.now) (sym c.lists_fit.ensures ∙ test-passed 1 rule.Length c.lists_fit.result (c.in_ok-pass.ensures 0).0)).0) in omega (arith, some, long))) c.from.ensures)) ((c.in_ok-pass-2.ensures 0).0, (c.in_ok-pass-2.ensures 0).1, tt)).0; count = (subst (λ (es : List Event). Runs {X = Unit {0}} is_held es 0 0 (λ _. ⊤) (Ok tt)) (ap (λ (b : Bool). test rule.Scaled b ∷ []) (c.eq.ensures ∙ ap₂ same_ℚ (c.index-c-objs.is ∙ get_or_default c.args.c.now (c.args.problem.now.objs - 1) c.index-c-objs.result zero_ℚ (let some = c.args.problem.now.some_objective in let long = (eqb-true (length c.args.c.now) c.args.problem.now.objs (both_true (length c.args.c.now == c.args.problem.now.objs) (has_lengths c.args.problem.now.objs c.args.problem.now.cone c.args.weights.now c.args.picks.now c.args.inverse.now) (sym c.lists_fit.ensures ∙ test-passed 1 rule.Length c.lists_fit.result (c.in_ok-pass.ensures 0).0)).0) in omega (arith, some, long))) c.from.ensures)) ((c.in_ok-pass-2.ensures 0).0, (c.in_ok-pass-2.ensures 0).1, tt)).1 } in
    subst (λ (es : List Event). 0 + steps es < 9223372036854775808) (sym (ap (λ (n : ℕ). follows_given n c.args.problem.now.cone c.args.problem.now.duality c.args.c.now) (eqb-true (length c.args.c.now) c.args.problem.now.objs (both_true (length c.args.c.now == c.args.problem.now.objs) (has_lengths c.args.problem.now.objs c.args.problem.now.cone c.args.weights.now c.args.picks.now c.args.inverse.now) (sym c.lists_fit.ensures ∙ test-passed 1 rule.Length c.lists_fit.result (c.in_ok-pass.ensures 0).0)).0))) (room-in (follows_given c.args.problem.now.objs c.args.problem.now.cone c.args.problem.now.duality c.args.c.now) (interior c.args.problem.now.objs c.args.problem.now.cone c.args.c.now c.args.weights.now c.args.picks.now c.args.inverse.now) 0 _ (room-after ((follows_given c.args.problem.now.objs c.args.problem.now.cone c.args.problem.now.duality c.args.c.now) ++ (interior c.args.problem.now.objs c.args.problem.now.cone c.args.c.now c.args.weights.now c.args.picks.now c.args.inverse.now)) _ came1 (room-after ((test rule.Scaled (same_ℚ (entry c.args.c.now c.args.problem.now.objs) one_ℚ) ∷ []) ++ ((follows_given c.args.problem.now.objs c.args.problem.now.cone c.args.problem.now.duality c.args.c.now) ++ (interior c.args.problem.now.objs c.args.problem.now.cone c.args.c.now c.args.weights.now c.args.picks.now c.args.inverse.now))) _ came0 room)))

pub returns-in_err-follows_given : goal.returns-in_err-follows_given
returns-in_err-follows_given c =
    let came0 : Passed (test rule.Length (length c.args.c.now == c.args.problem.now.objs && has_lengths c.args.problem.now.objs c.args.problem.now.cone c.args.weights.now c.args.picks.now c.args.inverse.now) ∷ []) 0 0 = record { none = (subst (λ (es : List Event). Runs {X = Unit {0}} is_held es 0 0 (λ _. ⊤) (Ok tt)) (ap (λ (b : Bool). test rule.Length b ∷ []) c.lists_fit.ensures) ((c.in_ok-pass.ensures 0).0, (c.in_ok-pass.ensures 0).1, tt)).0; count = (subst (λ (es : List Event). Runs {X = Unit {0}} is_held es 0 0 (λ _. ⊤) (Ok tt)) (ap (λ (b : Bool). test rule.Length b ∷ []) c.lists_fit.ensures) ((c.in_ok-pass.ensures 0).0, (c.in_ok-pass.ensures 0).1, tt)).1 } in
    let came1 : Passed (test rule.Scaled (same_ℚ (entry c.args.c.now c.args.problem.now.objs) one_ℚ) ∷ []) 0 0 = record { none = (subst (λ (es : List Event). Runs {X = Unit {0}} is_held es 0 0 (λ _. ⊤) (Ok tt)) (ap (λ (b : Bool). test rule.Scaled b ∷ []) (c.eq.ensures ∙ ap₂ same_ℚ (c.index-c-objs.is ∙ get_or_default c.args.c.now (c.args.problem.now.objs - 1) c.index-c-objs.result zero_ℚ (let some = c.args.problem.now.some_objective in let long = (eqb-true (length c.args.c.now) c.args.problem.now.objs (both_true (length c.args.c.now == c.args.problem.now.objs) (has_lengths c.args.problem.now.objs c.args.problem.now.cone c.args.weights.now c.args.picks.now c.args.inverse.now) (sym c.lists_fit.ensures ∙ test-passed 1 rule.Length c.lists_fit.result (c.in_ok-pass.ensures 0).0)).0) in omega (arith, some, long))) c.from.ensures)) ((c.in_ok-pass-2.ensures 0).0, (c.in_ok-pass-2.ensures 0).1, tt)).0; count = (subst (λ (es : List Event). Runs {X = Unit {0}} is_held es 0 0 (λ _. ⊤) (Ok tt)) (ap (λ (b : Bool). test rule.Scaled b ∷ []) (c.eq.ensures ∙ ap₂ same_ℚ (c.index-c-objs.is ∙ get_or_default c.args.c.now (c.args.problem.now.objs - 1) c.index-c-objs.result zero_ℚ (let some = c.args.problem.now.some_objective in let long = (eqb-true (length c.args.c.now) c.args.problem.now.objs (both_true (length c.args.c.now == c.args.problem.now.objs) (has_lengths c.args.problem.now.objs c.args.problem.now.cone c.args.weights.now c.args.picks.now c.args.inverse.now) (sym c.lists_fit.ensures ∙ test-passed 1 rule.Length c.lists_fit.result (c.in_ok-pass.ensures 0).0)).0) in omega (arith, some, long))) c.from.ensures)) ((c.in_ok-pass-2.ensures 0).0, (c.in_ok-pass-2.ensures 0).1, tt)).1 } in
    let here : Stopped (follows_given c.args.problem.now.objs c.args.problem.now.cone c.args.problem.now.duality c.args.c.now) 0 c.in_err-follows_given.field-0.0 = record { at = subst (λ (es : List Event). Stops is_held es 0 c.in_err-follows_given.field-0.0) (ap (λ (n : ℕ). follows_given n c.args.problem.now.cone c.args.problem.now.duality c.args.c.now) (eqb-true (length c.args.c.now) c.args.problem.now.objs (both_true (length c.args.c.now == c.args.problem.now.objs) (has_lengths c.args.problem.now.objs c.args.problem.now.cone c.args.weights.now c.args.picks.now c.args.inverse.now) (sym c.lists_fit.ensures ∙ test-passed 1 rule.Length c.lists_fit.result (c.in_ok-pass.ensures 0).0)).0)) c.in_err-follows_given.ensures } in
    let stopped = (stopped-later came0 (stopped-later came1 (stopped-in (interior c.args.problem.now.objs c.args.problem.now.cone c.args.c.now c.args.weights.now c.args.picks.now c.args.inverse.now) here))).at in
    search (stopped, rules)

pub is_interior-requires-clause-few : goal.is_interior-requires-clause-few
is_interior-requires-clause-few c = let few = c.args.problem.now.objs_bounded in let long = (eqb-true (length c.args.c.now) c.args.problem.now.objs (both_true (length c.args.c.now == c.args.problem.now.objs) (has_lengths c.args.problem.now.objs c.args.problem.now.cone c.args.weights.now c.args.picks.now c.args.inverse.now) (sym c.lists_fit.ensures ∙ test-passed 1 rule.Length c.lists_fit.result (c.in_ok-pass.ensures 0).0)).0) in omega (arith, few, long)

pub is_interior-requires-clause-fits : goal.is_interior-requires-clause-fits
is_interior-requires-clause-fits c = subst (λ (n : ℕ). IsTrue (cone_fits n c.args.problem.now.cone)) (sym (eqb-true (length c.args.c.now) c.args.problem.now.objs (both_true (length c.args.c.now == c.args.problem.now.objs) (has_lengths c.args.problem.now.objs c.args.problem.now.cone c.args.weights.now c.args.picks.now c.args.inverse.now) (sym c.lists_fit.ensures ∙ test-passed 1 rule.Length c.lists_fit.result (c.in_ok-pass.ensures 0).0)).0)) c.args.problem.now.cone_vectors

pub is_interior-requires-clause-lengths : goal.is_interior-requires-clause-lengths
is_interior-requires-clause-lengths c = subst (λ (n : ℕ). has_lengths n c.args.problem.now.cone c.args.weights.now c.args.picks.now c.args.inverse.now ≡ true) (sym (eqb-true (length c.args.c.now) c.args.problem.now.objs (both_true (length c.args.c.now == c.args.problem.now.objs) (has_lengths c.args.problem.now.objs c.args.problem.now.cone c.args.weights.now c.args.picks.now c.args.inverse.now) (sym c.lists_fit.ensures ∙ test-passed 1 rule.Length c.lists_fit.result (c.in_ok-pass.ensures 0).0)).0)) (both_true (length c.args.c.now == c.args.problem.now.objs) (has_lengths c.args.problem.now.objs c.args.problem.now.cone c.args.weights.now c.args.picks.now c.args.inverse.now) (sym c.lists_fit.ensures ∙ test-passed 1 rule.Length c.lists_fit.result (c.in_ok-pass.ensures 0).0)).1

pub is_interior-requires-clause-room : goal.is_interior-requires-clause-room
is_interior-requires-clause-room c =
    let room : 0 + steps (duality_events c.args.problem.now c.args.c.now c.args.weights.now c.args.picks.now c.args.inverse.now) < 9223372036854775808 = let few = steps-duality c.args.problem.now c.args.c.now c.args.weights.now c.args.picks.now c.args.inverse.now (eqb-true (length c.args.c.now) c.args.problem.now.objs (both_true (length c.args.c.now == c.args.problem.now.objs) (has_lengths c.args.problem.now.objs c.args.problem.now.cone c.args.weights.now c.args.picks.now c.args.inverse.now) (sym c.lists_fit.ensures ∙ test-passed 1 rule.Length c.lists_fit.result (c.in_ok-pass.ensures 0).0)).0) (both_true (length c.args.c.now == c.args.problem.now.objs) (has_lengths c.args.problem.now.objs c.args.problem.now.cone c.args.weights.now c.args.picks.now c.args.inverse.now) (sym c.lists_fit.ensures ∙ test-passed 1 rule.Length c.lists_fit.result (c.in_ok-pass.ensures 0).0)).1 in omega (arith, few) in
    let came0 : Passed (test rule.Length (length c.args.c.now == c.args.problem.now.objs && has_lengths c.args.problem.now.objs c.args.problem.now.cone c.args.weights.now c.args.picks.now c.args.inverse.now) ∷ []) 0 0 = record { none = (subst (λ (es : List Event). Runs {X = Unit {0}} is_held es 0 0 (λ _. ⊤) (Ok tt)) (ap (λ (b : Bool). test rule.Length b ∷ []) c.lists_fit.ensures) ((c.in_ok-pass.ensures 0).0, (c.in_ok-pass.ensures 0).1, tt)).0; count = (subst (λ (es : List Event). Runs {X = Unit {0}} is_held es 0 0 (λ _. ⊤) (Ok tt)) (ap (λ (b : Bool). test rule.Length b ∷ []) c.lists_fit.ensures) ((c.in_ok-pass.ensures 0).0, (c.in_ok-pass.ensures 0).1, tt)).1 } in
    let came1 : Passed (test rule.Scaled (same_ℚ (entry c.args.c.now c.args.problem.now.objs) one_ℚ) ∷ []) 0 0 = record { none = (subst (λ (es : List Event). Runs {X = Unit {0}} is_held es 0 0 (λ _. ⊤) (Ok tt)) (ap (λ (b : Bool). test rule.Scaled b ∷ []) (c.eq.ensures ∙ ap₂ same_ℚ (c.index-c-objs.is ∙ get_or_default c.args.c.now (c.args.problem.now.objs - 1) c.index-c-objs.result zero_ℚ (let some = c.args.problem.now.some_objective in let long = (eqb-true (length c.args.c.now) c.args.problem.now.objs (both_true (length c.args.c.now == c.args.problem.now.objs) (has_lengths c.args.problem.now.objs c.args.problem.now.cone c.args.weights.now c.args.picks.now c.args.inverse.now) (sym c.lists_fit.ensures ∙ test-passed 1 rule.Length c.lists_fit.result (c.in_ok-pass.ensures 0).0)).0) in omega (arith, some, long))) c.from.ensures)) ((c.in_ok-pass-2.ensures 0).0, (c.in_ok-pass-2.ensures 0).1, tt)).0; count = (subst (λ (es : List Event). Runs {X = Unit {0}} is_held es 0 0 (λ _. ⊤) (Ok tt)) (ap (λ (b : Bool). test rule.Scaled b ∷ []) (c.eq.ensures ∙ ap₂ same_ℚ (c.index-c-objs.is ∙ get_or_default c.args.c.now (c.args.problem.now.objs - 1) c.index-c-objs.result zero_ℚ (let some = c.args.problem.now.some_objective in let long = (eqb-true (length c.args.c.now) c.args.problem.now.objs (both_true (length c.args.c.now == c.args.problem.now.objs) (has_lengths c.args.problem.now.objs c.args.problem.now.cone c.args.weights.now c.args.picks.now c.args.inverse.now) (sym c.lists_fit.ensures ∙ test-passed 1 rule.Length c.lists_fit.result (c.in_ok-pass.ensures 0).0)).0) in omega (arith, some, long))) c.from.ensures)) ((c.in_ok-pass-2.ensures 0).0, (c.in_ok-pass-2.ensures 0).1, tt)).1 } in
    let came2 : Passed (follows_given c.args.problem.now.objs c.args.problem.now.cone c.args.problem.now.duality c.args.c.now) 0 c.follows_given.new.counter.taken = record { none = (subst (λ (es : List Event). Runs {X = Unit {0}} is_held es 0 c.follows_given.new.counter.taken (λ _. ⊤) (Ok tt)) (ap (λ (n : ℕ). follows_given n c.args.problem.now.cone c.args.problem.now.duality c.args.c.now) (eqb-true (length c.args.c.now) c.args.problem.now.objs (both_true (length c.args.c.now == c.args.problem.now.objs) (has_lengths c.args.problem.now.objs c.args.problem.now.cone c.args.weights.now c.args.picks.now c.args.inverse.now) (sym c.lists_fit.ensures ∙ test-passed 1 rule.Length c.lists_fit.result (c.in_ok-pass.ensures 0).0)).0)) (c.in_ok-follows_given.ensures.0, c.in_ok-follows_given.ensures.1, tt)).0; count = (subst (λ (es : List Event). Runs {X = Unit {0}} is_held es 0 c.follows_given.new.counter.taken (λ _. ⊤) (Ok tt)) (ap (λ (n : ℕ). follows_given n c.args.problem.now.cone c.args.problem.now.duality c.args.c.now) (eqb-true (length c.args.c.now) c.args.problem.now.objs (both_true (length c.args.c.now == c.args.problem.now.objs) (has_lengths c.args.problem.now.objs c.args.problem.now.cone c.args.weights.now c.args.picks.now c.args.inverse.now) (sym c.lists_fit.ensures ∙ test-passed 1 rule.Length c.lists_fit.result (c.in_ok-pass.ensures 0).0)).0)) (c.in_ok-follows_given.ensures.0, c.in_ok-follows_given.ensures.1, tt)).1 } in
    subst (λ (es : List Event). c.follows_given.new.counter.taken + steps es < 9223372036854775808) (sym (ap (λ (n : ℕ). interior n c.args.problem.now.cone c.args.c.now c.args.weights.now c.args.picks.now c.args.inverse.now) (eqb-true (length c.args.c.now) c.args.problem.now.objs (both_true (length c.args.c.now == c.args.problem.now.objs) (has_lengths c.args.problem.now.objs c.args.problem.now.cone c.args.weights.now c.args.picks.now c.args.inverse.now) (sym c.lists_fit.ensures ∙ test-passed 1 rule.Length c.lists_fit.result (c.in_ok-pass.ensures 0).0)).0))) ((room-after (interior c.args.problem.now.objs c.args.problem.now.cone c.args.c.now c.args.weights.now c.args.picks.now c.args.inverse.now) _ came2 (room-after ((follows_given c.args.problem.now.objs c.args.problem.now.cone c.args.problem.now.duality c.args.c.now) ++ (interior c.args.problem.now.objs c.args.problem.now.cone c.args.c.now c.args.weights.now c.args.picks.now c.args.inverse.now)) _ came1 (room-after ((test rule.Scaled (same_ℚ (entry c.args.c.now c.args.problem.now.objs) one_ℚ) ∷ []) ++ ((follows_given c.args.problem.now.objs c.args.problem.now.cone c.args.problem.now.duality c.args.c.now) ++ (interior c.args.problem.now.objs c.args.problem.now.cone c.args.c.now c.args.weights.now c.args.picks.now c.args.inverse.now))) _ came0 room))))

pub returns : goal.returns
returns c =
    let came0 : Passed (test rule.Length (length c.args.c.now == c.args.problem.now.objs && has_lengths c.args.problem.now.objs c.args.problem.now.cone c.args.weights.now c.args.picks.now c.args.inverse.now) ∷ []) 0 0 = record { none = (subst (λ (es : List Event). Runs {X = Unit {0}} is_held es 0 0 (λ _. ⊤) (Ok tt)) (ap (λ (b : Bool). test rule.Length b ∷ []) c.lists_fit.ensures) ((c.in_ok-pass.ensures 0).0, (c.in_ok-pass.ensures 0).1, tt)).0; count = (subst (λ (es : List Event). Runs {X = Unit {0}} is_held es 0 0 (λ _. ⊤) (Ok tt)) (ap (λ (b : Bool). test rule.Length b ∷ []) c.lists_fit.ensures) ((c.in_ok-pass.ensures 0).0, (c.in_ok-pass.ensures 0).1, tt)).1 } in
    let came1 : Passed (test rule.Scaled (same_ℚ (entry c.args.c.now c.args.problem.now.objs) one_ℚ) ∷ []) 0 0 = record { none = (subst (λ (es : List Event). Runs {X = Unit {0}} is_held es 0 0 (λ _. ⊤) (Ok tt)) (ap (λ (b : Bool). test rule.Scaled b ∷ []) (c.eq.ensures ∙ ap₂ same_ℚ (c.index-c-objs.is ∙ get_or_default c.args.c.now (c.args.problem.now.objs - 1) c.index-c-objs.result zero_ℚ (let some = c.args.problem.now.some_objective in let long = (eqb-true (length c.args.c.now) c.args.problem.now.objs (both_true (length c.args.c.now == c.args.problem.now.objs) (has_lengths c.args.problem.now.objs c.args.problem.now.cone c.args.weights.now c.args.picks.now c.args.inverse.now) (sym c.lists_fit.ensures ∙ test-passed 1 rule.Length c.lists_fit.result (c.in_ok-pass.ensures 0).0)).0) in omega (arith, some, long))) c.from.ensures)) ((c.in_ok-pass-2.ensures 0).0, (c.in_ok-pass-2.ensures 0).1, tt)).0; count = (subst (λ (es : List Event). Runs {X = Unit {0}} is_held es 0 0 (λ _. ⊤) (Ok tt)) (ap (λ (b : Bool). test rule.Scaled b ∷ []) (c.eq.ensures ∙ ap₂ same_ℚ (c.index-c-objs.is ∙ get_or_default c.args.c.now (c.args.problem.now.objs - 1) c.index-c-objs.result zero_ℚ (let some = c.args.problem.now.some_objective in let long = (eqb-true (length c.args.c.now) c.args.problem.now.objs (both_true (length c.args.c.now == c.args.problem.now.objs) (has_lengths c.args.problem.now.objs c.args.problem.now.cone c.args.weights.now c.args.picks.now c.args.inverse.now) (sym c.lists_fit.ensures ∙ test-passed 1 rule.Length c.lists_fit.result (c.in_ok-pass.ensures 0).0)).0) in omega (arith, some, long))) c.from.ensures)) ((c.in_ok-pass-2.ensures 0).0, (c.in_ok-pass-2.ensures 0).1, tt)).1 } in
    let came2 : Passed (follows_given c.args.problem.now.objs c.args.problem.now.cone c.args.problem.now.duality c.args.c.now) 0 c.follows_given.new.counter.taken = record { none = (subst (λ (es : List Event). Runs {X = Unit {0}} is_held es 0 c.follows_given.new.counter.taken (λ _. ⊤) (Ok tt)) (ap (λ (n : ℕ). follows_given n c.args.problem.now.cone c.args.problem.now.duality c.args.c.now) (eqb-true (length c.args.c.now) c.args.problem.now.objs (both_true (length c.args.c.now == c.args.problem.now.objs) (has_lengths c.args.problem.now.objs c.args.problem.now.cone c.args.weights.now c.args.picks.now c.args.inverse.now) (sym c.lists_fit.ensures ∙ test-passed 1 rule.Length c.lists_fit.result (c.in_ok-pass.ensures 0).0)).0)) (c.in_ok-follows_given.ensures.0, c.in_ok-follows_given.ensures.1, tt)).0; count = (subst (λ (es : List Event). Runs {X = Unit {0}} is_held es 0 c.follows_given.new.counter.taken (λ _. ⊤) (Ok tt)) (ap (λ (n : ℕ). follows_given n c.args.problem.now.cone c.args.problem.now.duality c.args.c.now) (eqb-true (length c.args.c.now) c.args.problem.now.objs (both_true (length c.args.c.now == c.args.problem.now.objs) (has_lengths c.args.problem.now.objs c.args.problem.now.cone c.args.weights.now c.args.picks.now c.args.inverse.now) (sym c.lists_fit.ensures ∙ test-passed 1 rule.Length c.lists_fit.result (c.in_ok-pass.ensures 0).0)).0)) (c.in_ok-follows_given.ensures.0, c.in_ok-follows_given.ensures.1, tt)).1 } in
    let last : Ran {X = Unit {0}} (interior c.args.problem.now.objs c.args.problem.now.cone c.args.c.now c.args.weights.now c.args.picks.now c.args.inverse.now) c.follows_given.new.counter.taken c.is_interior.new.counter.taken (λ _. ⊤) c.is_interior.result = record { runs = subst (λ (es : List Event). Runs {X = Unit {0}} is_held es c.follows_given.new.counter.taken c.is_interior.new.counter.taken (λ _. ⊤) c.is_interior.result) (ap (λ (n : ℕ). interior n c.args.problem.now.cone c.args.c.now c.args.weights.now c.args.picks.now c.args.inverse.now) (eqb-true (length c.args.c.now) c.args.problem.now.objs (both_true (length c.args.c.now == c.args.problem.now.objs) (has_lengths c.args.problem.now.objs c.args.problem.now.cone c.args.weights.now c.args.picks.now c.args.inverse.now) (sym c.lists_fit.ensures ∙ test-passed 1 rule.Length c.lists_fit.result (c.in_ok-pass.ensures 0).0)).0)) c.is_interior.ensures } in
    whole-run (duality_events c.args.problem.now c.args.c.now c.args.weights.now c.args.picks.now c.args.inverse.now) c.is_interior.new.counter.taken (λ _. ⊤) c.is_interior.result ((ran-after came0 (ran-after came1 (ran-after came2 last))).runs)
