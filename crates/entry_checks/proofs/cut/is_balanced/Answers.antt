use Rattle.std.proofs.Common.{rules, sym, subst, ap₂, ◌∙◌, ◌+◌, ◌<◌, List, [], ◌∷◌, ◌++◌, length}
use Rattle.std.specs.Prelude.{⊤}
use Rattle.std.proofs.lemmas.List.{append_assoc}
use Rattle.exact_field.specs.Order.{same_ℚ}
use Rattle.exact_field.specs.Vector.{dot}
use Rattle.frac128.specs.Held.{is_held}
use Rattle.log_rules.specs.Events.{Event, dot_steps}
use Rattle.log_rules.specs.Events.Event.{test}
use Rattle.log_rules.specs.Runs.{Runs, Stops, steps}
use Rattle.log_rules.specs.declared.rule.Rule.TheVariants as rule
use Rattle.upper_image.specs.Spots.{dense}
use Rattle.entry_checks.proofs.Going.{Passed, Stopped, stopped-in, stopped-later, Ran, ran-after, test-as, room-in, room-after}
use Rattle.entry_checks.proofs.cut.is_balanced.Goals as goal

pub sparse_dot-requires-clause-room : goal.sparse_dot-requires-clause-room
sparse_dot-requires-clause-room c =
    room-in (dot_steps (dense (length c.args.u.now) c.args.sides.now) c.args.u.now) ((dot_steps (dense (length c.args.w.now) c.args.objectives.now) c.args.w.now) ++ (test rule.Balance (same_ℚ (dot (dense (length c.args.u.now) c.args.sides.now) c.args.u.now) (dot (dense (length c.args.w.now) c.args.objectives.now) c.args.w.now)) ∷ [])) c.args.counter.now.taken _ (subst (λ (es : List Event). c.args.counter.now.taken + steps es < 9223372036854775808) (append_assoc (dot_steps (dense (length c.args.u.now) c.args.sides.now) c.args.u.now) (dot_steps (dense (length c.args.w.now) c.args.objectives.now) c.args.w.now) (test rule.Balance (same_ℚ (dot (dense (length c.args.u.now) c.args.sides.now) c.args.u.now) (dot (dense (length c.args.w.now) c.args.objectives.now) c.args.w.now)) ∷ [])) c.requires.room)

pub returns-in_err-left : goal.returns-in_err-left
returns-in_err-left c =
    let here : Stopped (dot_steps (dense (length c.args.u.now) c.args.sides.now) c.args.u.now) c.args.counter.now.taken c.in_err-left.field-0.0 = record { at = c.in_err-left.ensures } in
    let stopped = subst (λ (es : List Event). Stops is_held es c.args.counter.now.taken c.in_err-left.field-0.0) (sym (append_assoc (dot_steps (dense (length c.args.u.now) c.args.sides.now) c.args.u.now) (dot_steps (dense (length c.args.w.now) c.args.objectives.now) c.args.w.now) (test rule.Balance (same_ℚ (dot (dense (length c.args.u.now) c.args.sides.now) c.args.u.now) (dot (dense (length c.args.w.now) c.args.objectives.now) c.args.w.now)) ∷ []))) ((stopped-in ((dot_steps (dense (length c.args.w.now) c.args.objectives.now) c.args.w.now) ++ (test rule.Balance (same_ℚ (dot (dense (length c.args.u.now) c.args.sides.now) c.args.u.now) (dot (dense (length c.args.w.now) c.args.objectives.now) c.args.w.now)) ∷ [])) here).at) in
    search (stopped, rules)

pub sparse_dot-requires-2-clause-room : goal.sparse_dot-requires-2-clause-room
sparse_dot-requires-2-clause-room c =
    let came0 : Passed (dot_steps (dense (length c.args.u.now) c.args.sides.now) c.args.u.now) c.args.counter.now.taken c.sparse_dot.new.self.taken = record { none = c.in_ok-left.ensures.0; count = c.in_ok-left.ensures.1 } in
    room-in (dot_steps (dense (length c.args.w.now) c.args.objectives.now) c.args.w.now) (test rule.Balance (same_ℚ (dot (dense (length c.args.u.now) c.args.sides.now) c.args.u.now) (dot (dense (length c.args.w.now) c.args.objectives.now) c.args.w.now)) ∷ []) c.sparse_dot.new.self.taken _ (room-after ((dot_steps (dense (length c.args.w.now) c.args.objectives.now) c.args.w.now) ++ (test rule.Balance (same_ℚ (dot (dense (length c.args.u.now) c.args.sides.now) c.args.u.now) (dot (dense (length c.args.w.now) c.args.objectives.now) c.args.w.now)) ∷ [])) _ came0 (subst (λ (es : List Event). c.args.counter.now.taken + steps es < 9223372036854775808) (append_assoc (dot_steps (dense (length c.args.u.now) c.args.sides.now) c.args.u.now) (dot_steps (dense (length c.args.w.now) c.args.objectives.now) c.args.w.now) (test rule.Balance (same_ℚ (dot (dense (length c.args.u.now) c.args.sides.now) c.args.u.now) (dot (dense (length c.args.w.now) c.args.objectives.now) c.args.w.now)) ∷ [])) c.requires.room))

pub returns-in_err-right : goal.returns-in_err-right
returns-in_err-right c =
    let came0 : Passed (dot_steps (dense (length c.args.u.now) c.args.sides.now) c.args.u.now) c.args.counter.now.taken c.sparse_dot.new.self.taken = record { none = c.in_ok-left.ensures.0; count = c.in_ok-left.ensures.1 } in
    let here : Stopped (dot_steps (dense (length c.args.w.now) c.args.objectives.now) c.args.w.now) c.sparse_dot.new.self.taken c.in_err-right.field-0.0 = record { at = c.in_err-right.ensures } in
    let stopped = subst (λ (es : List Event). Stops is_held es c.args.counter.now.taken c.in_err-right.field-0.0) (sym (append_assoc (dot_steps (dense (length c.args.u.now) c.args.sides.now) c.args.u.now) (dot_steps (dense (length c.args.w.now) c.args.objectives.now) c.args.w.now) (test rule.Balance (same_ℚ (dot (dense (length c.args.u.now) c.args.sides.now) c.args.u.now) (dot (dense (length c.args.w.now) c.args.objectives.now) c.args.w.now)) ∷ []))) ((stopped-later came0 (stopped-in (test rule.Balance (same_ℚ (dot (dense (length c.args.u.now) c.args.sides.now) c.args.u.now) (dot (dense (length c.args.w.now) c.args.objectives.now) c.args.w.now)) ∷ []) here)).at) in
    search (stopped, rules)

pub returns : goal.returns
returns c =
    let came0 : Passed (dot_steps (dense (length c.args.u.now) c.args.sides.now) c.args.u.now) c.args.counter.now.taken c.sparse_dot.new.self.taken = record { none = c.in_ok-left.ensures.0; count = c.in_ok-left.ensures.1 } in
    let came1 : Passed (dot_steps (dense (length c.args.w.now) c.args.objectives.now) c.args.w.now) c.sparse_dot.new.self.taken c.sparse_dot-2.new.self.taken = record { none = c.in_ok-right.ensures.0; count = c.in_ok-right.ensures.1 } in
    let last : Ran {X = Unit {0}} (test rule.Balance (same_ℚ (dot (dense (length c.args.u.now) c.args.sides.now) c.args.u.now) (dot (dense (length c.args.w.now) c.args.objectives.now) c.args.w.now)) ∷ []) c.sparse_dot-2.new.self.taken c.sparse_dot-2.new.self.taken (λ _. ⊤) c.pass.result = record { runs = test-as rule.Balance c.eq.result (same_ℚ (dot (dense (length c.args.u.now) c.args.sides.now) c.args.u.now) (dot (dense (length c.args.w.now) c.args.objectives.now) c.args.w.now)) c.sparse_dot-2.new.self.taken c.pass.result (c.eq.ensures ∙ ap₂ same_ℚ c.in_ok-left.ensures.2 c.in_ok-right.ensures.2) (c.pass.ensures c.sparse_dot-2.new.self.taken) } in
    subst (λ (es : List Event). Runs {X = Unit {0}} is_held es c.args.counter.now.taken c.sparse_dot-2.new.self.taken (λ _. ⊤) c.pass.result) (sym (append_assoc (dot_steps (dense (length c.args.u.now) c.args.sides.now) c.args.u.now) (dot_steps (dense (length c.args.w.now) c.args.objectives.now) c.args.w.now) (test rule.Balance (same_ℚ (dot (dense (length c.args.u.now) c.args.sides.now) c.args.u.now) (dot (dense (length c.args.w.now) c.args.objectives.now) c.args.w.now)) ∷ []))) ((ran-after came0 (ran-after came1 last)).runs)
