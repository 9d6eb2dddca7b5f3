use Rattle.std.proofs.Common.{rules, sym, subst, ap, arith, ◌∙◌, ◌+◌, ◌<◌, List, [], ◌++◌, length, map}
use Rattle.std.specs.Prelude.{⊤}
use Rattle.std.proofs.lemmas.List.{length-map, append_assoc}
use Rattle.exact_field.specs.Rational.{ℚ, neg_ℚ}
use Rattle.frac128.specs.Held.{is_held}
use Rattle.log_rules.specs.AnswerEvents.{whole_events}
use Rattle.log_rules.specs.Events.{Event}
use Rattle.log_rules.specs.Runs.{Runs, Stops, steps}
use Rattle.log_rules.specs.VectorEvents.{in_feasible, in_recession, above}
use Rattle.entry_checks.proofs.Going.{Passed, Stopped, stopped-in, stopped-later, Ran, ran-after, room-in, room-after}
use Rattle.entry_checks.proofs.Going.{whole-run}
use Rattle.entry_checks.proofs.StepBounds.{steps-whole, recession-places}
use Rattle.entry_checks.proofs.line.check_whole.Goals as goal

pub in_feasible-requires-clause-room : goal.in_feasible-requires-clause-room
in_feasible-requires-clause-room c =
    let room : 0 + steps (whole_events c.args.problem.now c.args.c.now c.args.x.now c.args.ray.now c.args.m.now) < 9223372036854775808 = let few = steps-whole c.args.problem.now c.args.c.now c.args.x.now c.args.ray.now c.args.m.now c.requires.scale in omega (arith, few) in
    room-in (in_feasible c.args.problem.now c.args.x.now) ((in_recession c.args.problem.now c.args.ray.now) ++ (([]) ++ (above c.args.problem.now (map neg_ℚ c.args.c.now) c.args.ray.now c.args.m.now))) 0 _ (subst (λ (es : List Event). 0 + steps es < 9223372036854775808) (append_assoc (in_feasible c.args.problem.now c.args.x.now) (in_recession c.args.problem.now c.args.ray.now) (above c.args.problem.now (map neg_ℚ c.args.c.now) c.args.ray.now c.args.m.now)) room)

pub returns-in_err-in_feasible : goal.returns-in_err-in_feasible
returns-in_err-in_feasible c =
    let here : Stopped (in_feasible c.args.problem.now c.args.x.now) 0 c.in_err-in_feasible.field-0.0 = record { at = c.in_err-in_feasible.ensures } in
    let stopped = subst (λ (es : List Event). Stops is_held es 0 c.in_err-in_feasible.field-0.0) (sym (append_assoc (in_feasible c.args.problem.now c.args.x.now) (in_recession c.args.problem.now c.args.ray.now) (above c.args.problem.now (map neg_ℚ c.args.c.now) c.args.ray.now c.args.m.now))) ((stopped-in ((in_recession c.args.problem.now c.args.ray.now) ++ (([]) ++ (above c.args.problem.now (map neg_ℚ c.args.c.now) c.args.ray.now c.args.m.now))) here).at) in
    search (stopped, rules)

pub in_recession-requires-clause-room : goal.in_recession-requires-clause-room
in_recession-requires-clause-room c =
    let room : 0 + steps (whole_events c.args.problem.now c.args.c.now c.args.x.now c.args.ray.now c.args.m.now) < 9223372036854775808 = let few = steps-whole c.args.problem.now c.args.c.now c.args.x.now c.args.ray.now c.args.m.now c.requires.scale in omega (arith, few) in
    let came0 : Passed (in_feasible c.args.problem.now c.args.x.now) 0 c.in_feasible.new.counter.taken = record { none = c.in_ok-in_feasible.ensures.0; count = c.in_ok-in_feasible.ensures.1 } in
    room-in (in_recession c.args.problem.now c.args.ray.now) (([]) ++ (above c.args.problem.now (map neg_ℚ c.args.c.now) c.args.ray.now c.args.m.now)) c.in_feasible.new.counter.taken _ (room-after ((in_recession c.args.problem.now c.args.ray.now) ++ (([]) ++ (above c.args.problem.now (map neg_ℚ c.args.c.now) c.args.ray.now c.args.m.now))) _ came0 (subst (λ (es : List Event). 0 + steps es < 9223372036854775808) (append_assoc (in_feasible c.args.problem.now c.args.x.now) (in_recession c.args.problem.now c.args.ray.now) (above c.args.problem.now (map neg_ℚ c.args.c.now) c.args.ray.now c.args.m.now)) room))

pub returns-in_err-in_recession : goal.returns-in_err-in_recession
returns-in_err-in_recession c =
    let came0 : Passed (in_feasible c.args.problem.now c.args.x.now) 0 c.in_feasible.new.counter.taken = record { none = c.in_ok-in_feasible.ensures.0; count = c.in_ok-in_feasible.ensures.1 } in
    let here : Stopped (in_recession c.args.problem.now c.args.ray.now) c.in_feasible.new.counter.taken c.in_err-in_recession.field-0.0 = record { at = c.in_err-in_recession.ensures } in
    let stopped = subst (λ (es : List Event). Stops is_held es 0 c.in_err-in_recession.field-0.0) (sym (append_assoc (in_feasible c.args.problem.now c.args.x.now) (in_recession c.args.problem.now c.args.ray.now) (above c.args.problem.now (map neg_ℚ c.args.c.now) c.args.ray.now c.args.m.now))) ((stopped-later came0 (stopped-in (([]) ++ (above c.args.problem.now (map neg_ℚ c.args.c.now) c.args.ray.now c.args.m.now)) here)).at) in
    search (stopped, rules)

pub returns-in_err-target : goal.returns-in_err-target
returns-in_err-target c =
    let came0 : Passed (in_feasible c.args.problem.now c.args.x.now) 0 c.in_feasible.new.counter.taken = record { none = c.in_ok-in_feasible.ensures.0; count = c.in_ok-in_feasible.ensures.1 } in
    let came1 : Passed (in_recession c.args.problem.now c.args.ray.now) c.in_feasible.new.counter.taken c.in_recession.new.counter.taken = record { none = c.in_ok-in_recession.ensures.0; count = c.in_ok-in_recession.ensures.1 } in
    let here : Stopped ([]) c.in_recession.new.counter.taken c.in_err-target.field-0.0 = record { at = c.in_err-target.ensures c.in_recession.new.counter.taken } in
    let stopped = subst (λ (es : List Event). Stops is_held es 0 c.in_err-target.field-0.0) (sym (append_assoc (in_feasible c.args.problem.now c.args.x.now) (in_recession c.args.problem.now c.args.ray.now) (above c.args.problem.now (map neg_ℚ c.args.c.now) c.args.ray.now c.args.m.now))) ((stopped-later came0 (stopped-later came1 (stopped-in (above c.args.problem.now (map neg_ℚ c.args.c.now) c.args.ray.now c.args.m.now) here))).at) in
    search (stopped, rules)

pub is_above-requires-clause-entries : goal.is_above-requires-clause-entries
is_above-requires-clause-entries c = ap (λ (v : List ℚ). length v) (c.as_slice.ensures.items ∙ (c.in_ok-target.ensures 0).2) ∙ length-map c.args.c.now neg_ℚ ∙ c.requires.scale

pub is_above-requires-clause-vector : goal.is_above-requires-clause-vector
is_above-requires-clause-vector c = record { sparse = c.requires.direction; places = recession-places c.in_feasible.new.counter.taken c.args.problem.now c.args.ray.now c.in_ok-in_recession.ensures.0 }

pub is_above-requires-clause-room : goal.is_above-requires-clause-room
is_above-requires-clause-room c =
    let room : 0 + steps (whole_events c.args.problem.now c.args.c.now c.args.x.now c.args.ray.now c.args.m.now) < 9223372036854775808 = let few = steps-whole c.args.problem.now c.args.c.now c.args.x.now c.args.ray.now c.args.m.now c.requires.scale in omega (arith, few) in
    let came0 : Passed (in_feasible c.args.problem.now c.args.x.now) 0 c.in_feasible.new.counter.taken = record { none = c.in_ok-in_feasible.ensures.0; count = c.in_ok-in_feasible.ensures.1 } in
    let came1 : Passed (in_recession c.args.problem.now c.args.ray.now) c.in_feasible.new.counter.taken c.in_recession.new.counter.taken = record { none = c.in_ok-in_recession.ensures.0; count = c.in_ok-in_recession.ensures.1 } in
    let came2 : Passed ([]) c.in_recession.new.counter.taken c.in_recession.new.counter.taken = record { none = (c.in_ok-target.ensures c.in_recession.new.counter.taken).0; count = (c.in_ok-target.ensures c.in_recession.new.counter.taken).1 } in
    subst (λ (v : List ℚ). c.in_recession.new.counter.taken + steps (above c.args.problem.now v c.args.ray.now c.args.m.now) < 9223372036854775808) (sym (c.as_slice.ensures.items ∙ (c.in_ok-target.ensures 0).2)) ((room-after (above c.args.problem.now (map neg_ℚ c.args.c.now) c.args.ray.now c.args.m.now) _ came2 (room-after (([]) ++ (above c.args.problem.now (map neg_ℚ c.args.c.now) c.args.ray.now c.args.m.now)) _ came1 (room-after ((in_recession c.args.problem.now c.args.ray.now) ++ (([]) ++ (above c.args.problem.now (map neg_ℚ c.args.c.now) c.args.ray.now c.args.m.now))) _ came0 (subst (λ (es : List Event). 0 + steps es < 9223372036854775808) (append_assoc (in_feasible c.args.problem.now c.args.x.now) (in_recession c.args.problem.now c.args.ray.now) (above c.args.problem.now (map neg_ℚ c.args.c.now) c.args.ray.now c.args.m.now)) room)))))

pub returns : goal.returns
returns c =
    let came0 : Passed (in_feasible c.args.problem.now c.args.x.now) 0 c.in_feasible.new.counter.taken = record { none = c.in_ok-in_feasible.ensures.0; count = c.in_ok-in_feasible.ensures.1 } in
    let came1 : Passed (in_recession c.args.problem.now c.args.ray.now) c.in_feasible.new.counter.taken c.in_recession.new.counter.taken = record { none = c.in_ok-in_recession.ensures.0; count = c.in_ok-in_recession.ensures.1 } in
    let came2 : Passed ([]) c.in_recession.new.counter.taken c.in_recession.new.counter.taken = record { none = (c.in_ok-target.ensures c.in_recession.new.counter.taken).0; count = (c.in_ok-target.ensures c.in_recession.new.counter.taken).1 } in
    let last : Ran {X = Unit {0}} (above c.args.problem.now (map neg_ℚ c.args.c.now) c.args.ray.now c.args.m.now) c.in_recession.new.counter.taken c.is_above.new.counter.taken (λ _. ⊤) c.is_above.result = record { runs = subst (λ (v : List ℚ). Runs {X = Unit {0}} is_held (above c.args.problem.now v c.args.ray.now c.args.m.now) c.in_recession.new.counter.taken c.is_above.new.counter.taken (λ _. ⊤) c.is_above.result) (c.as_slice.ensures.items ∙ (c.in_ok-target.ensures 0).2) c.is_above.ensures } in
    whole-run (whole_events c.args.problem.now c.args.c.now c.args.x.now c.args.ray.now c.args.m.now) c.is_above.new.counter.taken (λ _. ⊤) c.is_above.result (subst (λ (es : List Event). Runs {X = Unit {0}} is_held es 0 c.is_above.new.counter.taken (λ _. ⊤) c.is_above.result) (sym (append_assoc (in_feasible c.args.problem.now c.args.x.now) (in_recession c.args.problem.now c.args.ray.now) (above c.args.problem.now (map neg_ℚ c.args.c.now) c.args.ray.now c.args.m.now))) ((ran-after came0 (ran-after came1 (ran-after came2 last))).runs))
