use Rattle.std.proofs.Common.{rules, sym, subst, ap, arith, ◌∙◌, ◌+◌, ◌<◌, List, [], ◌∷◌, ◌++◌, length, map, Bool, ◌==◌}
use Rattle.std.specs.Prelude.{⊤}
use Rattle.std.proofs.lemmas.List.{length-map}
use Rattle.exact_field.specs.Rational.{ℚ, neg_ℚ}
use Rattle.frac128.specs.Held.{is_held}
use Rattle.log_rules.specs.AnswerEvents.{goes_on, line_events}
use Rattle.log_rules.specs.Events.{Event}
use Rattle.log_rules.specs.Events.Event.{test}
use Rattle.log_rules.specs.Runs.{Runs, Stops, steps}
use Rattle.log_rules.specs.VectorEvents.{in_feasible, in_recession, above}
use Rattle.log_rules.specs.declared.rule.Rule.TheVariants as rule
use Rattle.entry_checks.proofs.Going.{Passed, Stopped, stopped-in, stopped-later, Ran, ran-after, room-in, room-after}
use Rattle.std.specs.Prelude.{Ok}
use Rattle.entry_checks.proofs.Going.{whole-run, length-tested}
use Rattle.entry_checks.proofs.MatrixEvents.{line-parts}
use Rattle.entry_checks.proofs.StepBounds.{steps-line, recession-places}
use Rattle.entry_checks.proofs.line.check_line.Goals as goal

pub returns-in_err-pass : goal.returns-in_err-pass
returns-in_err-pass c =
    let here : Stopped (test rule.Length (length c.args.d.now == c.args.problem.now.objs) ∷ []) 0 c.in_err-pass.field-0.0 = record { at = c.in_err-pass.ensures 0 } in
    let stopped = subst (λ (es : List Event). Stops is_held es 0 c.in_err-pass.field-0.0) (sym (line-parts (test rule.Length (length c.args.d.now == c.args.problem.now.objs)) (test rule.Scaled (goes_on c.args.lines.now c.args.d.now)) (in_feasible c.args.problem.now c.args.x.now) (in_recession c.args.problem.now c.args.ray.now) (above c.args.problem.now c.args.d.now c.args.ray.now c.args.m.now) (in_recession c.args.problem.now c.args.back.now) (above c.args.problem.now (map neg_ℚ c.args.d.now) c.args.back.now c.args.n.now))) ((stopped-in ((test rule.Scaled (goes_on c.args.lines.now c.args.d.now) ∷ []) ++ ((in_feasible c.args.problem.now c.args.x.now) ++ ((in_recession c.args.problem.now c.args.ray.now) ++ ((above c.args.problem.now c.args.d.now c.args.ray.now c.args.m.now) ++ ((in_recession c.args.problem.now c.args.back.now) ++ (([]) ++ (above c.args.problem.now (map neg_ℚ c.args.d.now) c.args.back.now c.args.n.now))))))) here).at) in
    search (stopped, rules)

pub returns-in_err-pass-2 : goal.returns-in_err-pass-2
returns-in_err-pass-2 c =
    let came0 : Passed (test rule.Length (length c.args.d.now == c.args.problem.now.objs) ∷ []) 0 0 = record { none = (c.in_ok-pass.ensures 0).0; count = (c.in_ok-pass.ensures 0).1 } in
    let here : Stopped (test rule.Scaled (goes_on c.args.lines.now c.args.d.now) ∷ []) 0 c.in_err-pass-2.field-0.0 = record { at = subst (λ (es : List Event). Stops is_held es 0 c.in_err-pass-2.field-0.0) (ap (λ (b : Bool). test rule.Scaled b ∷ []) c.goes_on.ensures) (c.in_err-pass-2.ensures 0) } in
    let stopped = subst (λ (es : List Event). Stops is_held es 0 c.in_err-pass-2.field-0.0) (sym (line-parts (test rule.Length (length c.args.d.now == c.args.problem.now.objs)) (test rule.Scaled (goes_on c.args.lines.now c.args.d.now)) (in_feasible c.args.problem.now c.args.x.now) (in_recession c.args.problem.now c.args.ray.now) (above c.args.problem.now c.args.d.now c.args.ray.now c.args.m.now) (in_recession c.args.problem.now c.args.back.now) (above c.args.problem.now (map neg_ℚ c.args.d.now) c.args.back.now c.args.n.now))) ((stopped-later came0 (stopped-in ((in_feasible c.args.problem.now c.args.x.now) ++ ((in_recession c.args.problem.now c.args.ray.now) ++ ((above c.args.problem.now c.args.d.now c.args.ray.now c.args.m.now) ++ ((in_recession c.args.problem.now c.args.back.now) ++ (([]) ++ (above c.args.problem.now (map neg_ℚ c.args.d.now) c.args.back.now c.args.n.now)))))) here)).at) in
    search (stopped, rules)

pub in_feasible-requires-clause-room : goal.in_feasible-requires-clause-room
in_feasible-requires-clause-room c =
    let room : 0 + steps (line_events c.args.problem.now c.args.lines.now c.args.d.now c.args.x.now c.args.ray.now c.args.m.now c.args.back.now c.args.n.now) < 9223372036854775808 = let few = steps-line c.args.problem.now c.args.lines.now c.args.d.now c.args.x.now c.args.ray.now c.args.m.now c.args.back.now c.args.n.now (length-tested (length c.args.d.now) c.args.problem.now.objs (c.in_ok-pass.ensures 0).0) in omega (arith, few) in
    let came0 : Passed (test rule.Length (length c.args.d.now == c.args.problem.now.objs) ∷ []) 0 0 = record { none = (c.in_ok-pass.ensures 0).0; count = (c.in_ok-pass.ensures 0).1 } in
    let came1 : Passed (test rule.Scaled (goes_on c.args.lines.now c.args.d.now) ∷ []) 0 0 = record { none = (subst (λ (es : List Event). Runs {X = Unit {0}} is_held es 0 0 (λ _. ⊤) (Ok tt)) (ap (λ (b : Bool). test rule.Scaled b ∷ []) c.goes_on.ensures) ((c.in_ok-pass-2.ensures 0).0, (c.in_ok-pass-2.ensures 0).1, tt)).0; count = (subst (λ (es : List Event). Runs {X = Unit {0}} is_held es 0 0 (λ _. ⊤) (Ok tt)) (ap (λ (b : Bool). test rule.Scaled b ∷ []) c.goes_on.ensures) ((c.in_ok-pass-2.ensures 0).0, (c.in_ok-pass-2.ensures 0).1, tt)).1 } in
    room-in (in_feasible c.args.problem.now c.args.x.now) ((in_recession c.args.problem.now c.args.ray.now) ++ ((above c.args.problem.now c.args.d.now c.args.ray.now c.args.m.now) ++ ((in_recession c.args.problem.now c.args.back.now) ++ (([]) ++ (above c.args.problem.now (map neg_ℚ c.args.d.now) c.args.back.now c.args.n.now))))) 0 _ (room-after ((in_feasible c.args.problem.now c.args.x.now) ++ ((in_recession c.args.problem.now c.args.ray.now) ++ ((above c.args.problem.now c.args.d.now c.args.ray.now c.args.m.now) ++ ((in_recession c.args.problem.now c.args.back.now) ++ (([]) ++ (above c.args.problem.now (map neg_ℚ c.args.d.now) c.args.back.now c.args.n.now)))))) _ came1 (room-after ((test rule.Scaled (goes_on c.args.lines.now c.args.d.now) ∷ []) ++ ((in_feasible c.args.problem.now c.args.x.now) ++ ((in_recession c.args.problem.now c.args.ray.now) ++ ((above c.args.problem.now c.args.d.now c.args.ray.now c.args.m.now) ++ ((in_recession c.args.problem.now c.args.back.now) ++ (([]) ++ (above c.args.problem.now (map neg_ℚ c.args.d.now) c.args.back.now c.args.n.now))))))) _ came0 (subst (λ (es : List Event). 0 + steps es < 9223372036854775808) (line-parts (test rule.Length (length c.args.d.now == c.args.problem.now.objs)) (test rule.Scaled (goes_on c.args.lines.now c.args.d.now)) (in_feasible c.args.problem.now c.args.x.now) (in_recession c.args.problem.now c.args.ray.now) (above c.args.problem.now c.args.d.now c.args.ray.now c.args.m.now) (in_recession c.args.problem.now c.args.back.now) (above c.args.problem.now (map neg_ℚ c.args.d.now) c.args.back.now c.args.n.now)) room)))

pub returns-in_err-in_feasible : goal.returns-in_err-in_feasible
returns-in_err-in_feasible c =
    let came0 : Passed (test rule.Length (length c.args.d.now == c.args.problem.now.objs) ∷ []) 0 0 = record { none = (c.in_ok-pass.ensures 0).0; count = (c.in_ok-pass.ensures 0).1 } in
    let came1 : Passed (test rule.Scaled (goes_on c.args.lines.now c.args.d.now) ∷ []) 0 0 = record { none = (subst (λ (es : List Event). Runs {X = Unit {0}} is_held es 0 0 (λ _. ⊤) (Ok tt)) (ap (λ (b : Bool). test rule.Scaled b ∷ []) c.goes_on.ensures) ((c.in_ok-pass-2.ensures 0).0, (c.in_ok-pass-2.ensures 0).1, tt)).0; count = (subst (λ (es : List Event). Runs {X = Unit {0}} is_held es 0 0 (λ _. ⊤) (Ok tt)) (ap (λ (b : Bool). test rule.Scaled b ∷ []) c.goes_on.ensures) ((c.in_ok-pass-2.ensures 0).0, (c.in_ok-pass-2.ensures 0).1, tt)).1 } in
    let here : Stopped (in_feasible c.args.problem.now c.args.x.now) 0 c.in_err-in_feasible.field-0.0 = record { at = c.in_err-in_feasible.ensures } in
    let stopped = subst (λ (es : List Event). Stops is_held es 0 c.in_err-in_feasible.field-0.0) (sym (line-parts (test rule.Length (length c.args.d.now == c.args.problem.now.objs)) (test rule.Scaled (goes_on c.args.lines.now c.args.d.now)) (in_feasible c.args.problem.now c.args.x.now) (in_recession c.args.problem.now c.args.ray.now) (above c.args.problem.now c.args.d.now c.args.ray.now c.args.m.now) (in_recession c.args.problem.now c.args.back.now) (above c.args.problem.now (map neg_ℚ c.args.d.now) c.args.back.now c.args.n.now))) ((stopped-later came0 (stopped-later came1 (stopped-in ((in_recession c.args.problem.now c.args.ray.now) ++ ((above c.args.problem.now c.args.d.now c.args.ray.now c.args.m.now) ++ ((in_recession c.args.problem.now c.args.back.now) ++ (([]) ++ (above c.args.problem.now (map neg_ℚ c.args.d.now) c.args.back.now c.args.n.now))))) here))).at) in
    search (stopped, rules)

pub in_recession-requires-clause-room : goal.in_recession-requires-clause-room
in_recession-requires-clause-room c =
    let room : 0 + steps (line_events c.args.problem.now c.args.lines.now c.args.d.now c.args.x.now c.args.ray.now c.args.m.now c.args.back.now c.args.n.now) < 9223372036854775808 = let few = steps-line c.args.problem.now c.args.lines.now c.args.d.now c.args.x.now c.args.ray.now c.args.m.now c.args.back.now c.args.n.now (length-tested (length c.args.d.now) c.args.problem.now.objs (c.in_ok-pass.ensures 0).0) in omega (arith, few) in
    let came0 : Passed (test rule.Length (length c.args.d.now == c.args.problem.now.objs) ∷ []) 0 0 = record { none = (c.in_ok-pass.ensures 0).0; count = (c.in_ok-pass.ensures 0).1 } in
    let came1 : Passed (test rule.Scaled (goes_on c.args.lines.now c.args.d.now) ∷ []) 0 0 = record { none = (subst (λ (es : List Event). Runs {X = Unit {0}} is_held es 0 0 (λ _. ⊤) (Ok tt)) (ap (λ (b : Bool). test rule.Scaled b ∷ []) c.goes_on.ensures) ((c.in_ok-pass-2.ensures 0).0, (c.in_ok-pass-2.ensures 0).1, tt)).0; count = (subst (λ (es : List Event). Runs {X = Unit {0}} is_held es 0 0 (λ _. ⊤) (Ok tt)) (ap (λ (b : Bool). test rule.Scaled b ∷ []) c.goes_on.ensures) ((c.in_ok-pass-2.ensures 0).0, (c.in_ok-pass-2.ensures 0).1, tt)).1 } in
    let came2 : Passed (in_feasible c.args.problem.now c.args.x.now) 0 c.in_feasible.new.counter.taken = record { none = c.in_ok-in_feasible.ensures.0; count = c.in_ok-in_feasible.ensures.1 } in
    room-in (in_recession c.args.problem.now c.args.ray.now) ((above c.args.problem.now c.args.d.now c.args.ray.now c.args.m.now) ++ ((in_recession c.args.problem.now c.args.back.now) ++ (([]) ++ (above c.args.problem.now (map neg_ℚ c.args.d.now) c.args.back.now c.args.n.now)))) c.in_feasible.new.counter.taken _ (room-after ((in_recession c.args.problem.now c.args.ray.now) ++ ((above c.args.problem.now c.args.d.now c.args.ray.now c.args.m.now) ++ ((in_recession c.args.problem.now c.args.back.now) ++ (([]) ++ (above c.args.problem.now (map neg_ℚ c.args.d.now) c.args.back.now c.args.n.now))))) _ came2 (room-after ((in_feasible c.args.problem.now c.args.x.now) ++ ((in_recession c.args.problem.now c.args.ray.now) ++ ((above c.args.problem.now c.args.d.now c.args.ray.now c.args.m.now) ++ ((in_recession c.args.problem.now c.args.back.now) ++ (([]) ++ (above c.args.problem.now (map neg_ℚ c.args.d.now) c.args.back.now c.args.n.now)))))) _ came1 (room-after ((test rule.Scaled (goes_on c.args.lines.now c.args.d.now) ∷ []) ++ ((in_feasible c.args.problem.now c.args.x.now) ++ ((in_recession c.args.problem.now c.args.ray.now) ++ ((above c.args.problem.now c.args.d.now c.args.ray.now c.args.m.now) ++ ((in_recession c.args.problem.now c.args.back.now) ++ (([]) ++ (above c.args.problem.now (map neg_ℚ c.args.d.now) c.args.back.now c.args.n.now))))))) _ came0 (subst (λ (es : List Event). 0 + steps es < 9223372036854775808) (line-parts (test rule.Length (length c.args.d.now == c.args.problem.now.objs)) (test rule.Scaled (goes_on c.args.lines.now c.args.d.now)) (in_feasible c.args.problem.now c.args.x.now) (in_recession c.args.problem.now c.args.ray.now) (above c.args.problem.now c.args.d.now c.args.ray.now c.args.m.now) (in_recession c.args.problem.now c.args.back.now) (above c.args.problem.now (map neg_ℚ c.args.d.now) c.args.back.now c.args.n.now)) room))))

pub returns-in_err-in_recession : goal.returns-in_err-in_recession
returns-in_err-in_recession c =
    let came0 : Passed (test rule.Length (length c.args.d.now == c.args.problem.now.objs) ∷ []) 0 0 = record { none = (c.in_ok-pass.ensures 0).0; count = (c.in_ok-pass.ensures 0).1 } in
    let came1 : Passed (test rule.Scaled (goes_on c.args.lines.now c.args.d.now) ∷ []) 0 0 = record { none = (subst (λ (es : List Event). Runs {X = Unit {0}} is_held es 0 0 (λ _. ⊤) (Ok tt)) (ap (λ (b : Bool). test rule.Scaled b ∷ []) c.goes_on.ensures) ((c.in_ok-pass-2.ensures 0).0, (c.in_ok-pass-2.ensures 0).1, tt)).0; count = (subst (λ (es : List Event). Runs {X = Unit {0}} is_held es 0 0 (λ _. ⊤) (Ok tt)) (ap (λ (b : Bool). test rule.Scaled b ∷ []) c.goes_on.ensures) ((c.in_ok-pass-2.ensures 0).0, (c.in_ok-pass-2.ensures 0).1, tt)).1 } in
    let came2 : Passed (in_feasible c.args.problem.now c.args.x.now) 0 c.in_feasible.new.counter.taken = record { none = c.in_ok-in_feasible.ensures.0; count = c.in_ok-in_feasible.ensures.1 } in
    let here : Stopped (in_recession c.args.problem.now c.args.ray.now) c.in_feasible.new.counter.taken c.in_err-in_recession.field-0.0 = record { at = c.in_err-in_recession.ensures } in
    let stopped = subst (λ (es : List Event). Stops is_held es 0 c.in_err-in_recession.field-0.0) (sym (line-parts (test rule.Length (length c.args.d.now == c.args.problem.now.objs)) (test rule.Scaled (goes_on c.args.lines.now c.args.d.now)) (in_feasible c.args.problem.now c.args.x.now) (in_recession c.args.problem.now c.args.ray.now) (above c.args.problem.now c.args.d.now c.args.ray.now c.args.m.now) (in_recession c.args.problem.now c.args.back.now) (above c.args.problem.now (map neg_ℚ c.args.d.now) c.args.back.now c.args.n.now))) ((stopped-later came0 (stopped-later came1 (stopped-later came2 (stopped-in ((above c.args.problem.now c.args.d.now c.args.ray.now c.args.m.now) ++ ((in_recession c.args.problem.now c.args.back.now) ++ (([]) ++ (above c.args.problem.now (map neg_ℚ c.args.d.now) c.args.back.now c.args.n.now)))) here)))).at) in
    search (stopped, rules)

pub is_above-requires-clause-entries : goal.is_above-requires-clause-entries
is_above-requires-clause-entries c = (length-tested (length c.args.d.now) c.args.problem.now.objs (c.in_ok-pass.ensures 0).0)

pub is_above-requires-clause-vector : goal.is_above-requires-clause-vector
is_above-requires-clause-vector c = record { sparse = c.requires.direction; places = recession-places c.in_feasible.new.counter.taken c.args.problem.now c.args.ray.now c.in_ok-in_recession.ensures.0 }

pub is_above-requires-clause-room : goal.is_above-requires-clause-room
is_above-requires-clause-room c =
    let room : 0 + steps (line_events c.args.problem.now c.args.lines.now c.args.d.now c.args.x.now c.args.ray.now c.args.m.now c.args.back.now c.args.n.now) < 9223372036854775808 = let few = steps-line c.args.problem.now c.args.lines.now c.args.d.now c.args.x.now c.args.ray.now c.args.m.now c.args.back.now c.args.n.now (length-tested (length c.args.d.now) c.args.problem.now.objs (c.in_ok-pass.ensures 0).0) in omega (arith, few) in
    let came0 : Passed (test rule.Length (length c.args.d.now == c.args.problem.now.objs) ∷ []) 0 0 = record { none = (c.in_ok-pass.ensures 0).0; count = (c.in_ok-pass.ensures 0).1 } in
    let came1 : Passed (test rule.Scaled (goes_on c.args.lines.now c.args.d.now) ∷ []) 0 0 = record { none = (subst (λ (es : List Event). Runs {X = Unit {0}} is_held es 0 0 (λ _. ⊤) (Ok tt)) (ap (λ (b : Bool). test rule.Scaled b ∷ []) c.goes_on.ensures) ((c.in_ok-pass-2.ensures 0).0, (c.in_ok-pass-2.ensures 0).1, tt)).0; count = (subst (λ (es : List Event). Runs {X = Unit {0}} is_held es 0 0 (λ _. ⊤) (Ok tt)) (ap (λ (b : Bool). test rule.Scaled b ∷ []) c.goes_on.ensures) ((c.in_ok-pass-2.ensures 0).0, (c.in_ok-pass-2.ensures 0).1, tt)).1 } in
    let came2 : Passed (in_feasible c.args.problem.now c.args.x.now) 0 c.in_feasible.new.counter.taken = record { none = c.in_ok-in_feasible.ensures.0; count = c.in_ok-in_feasible.ensures.1 } in
    let came3 : Passed (in_recession c.args.problem.now c.args.ray.now) c.in_feasible.new.counter.taken c.in_recession.new.counter.taken = record { none = c.in_ok-in_recession.ensures.0; count = c.in_ok-in_recession.ensures.1 } in
    room-in (above c.args.problem.now c.args.d.now c.args.ray.now c.args.m.now) ((in_recession c.args.problem.now c.args.back.now) ++ (([]) ++ (above c.args.problem.now (map neg_ℚ c.args.d.now) c.args.back.now c.args.n.now))) c.in_recession.new.counter.taken _ (room-after ((above c.args.problem.now c.args.d.now c.args.ray.now c.args.m.now) ++ ((in_recession c.args.problem.now c.args.back.now) ++ (([]) ++ (above c.args.problem.now (map neg_ℚ c.args.d.now) c.args.back.now c.args.n.now)))) _ came3 (room-after ((in_recession c.args.problem.now c.args.ray.now) ++ ((above c.args.problem.now c.args.d.now c.args.ray.now c.args.m.now) ++ ((in_recession c.args.problem.now c.args.back.now) ++ (([]) ++ (above c.args.problem.now (map neg_ℚ c.args.d.now) c.args.back.now c.args.n.now))))) _ came2 (room-after ((in_feasible c.args.problem.now c.args.x.now) ++ ((in_recession c.args.problem.now c.args.ray.now) ++ ((above c.args.problem.now c.args.d.now c.args.ray.now c.args.m.now) ++ ((in_recession c.args.problem.now c.args.back.now) ++ (([]) ++ (above c.args.problem.now (map neg_ℚ c.args.d.now) c.args.back.now c.args.n.now)))))) _ came1 (room-after ((test rule.Scaled (goes_on c.args.lines.now c.args.d.now) ∷ []) ++ ((in_feasible c.args.problem.now c.args.x.now) ++ ((in_recession c.args.problem.now c.args.ray.now) ++ ((above c.args.problem.now c.args.d.now c.args.ray.now c.args.m.now) ++ ((in_recession c.args.problem.now c.args.back.now) ++ (([]) ++ (above c.args.problem.now (map neg_ℚ c.args.d.now) c.args.back.now c.args.n.now))))))) _ came0 (subst (λ (es : List Event). 0 + steps es < 9223372036854775808) (line-parts (test rule.Length (length c.args.d.now == c.args.problem.now.objs)) (test rule.Scaled (goes_on c.args.lines.now c.args.d.now)) (in_feasible c.args.problem.now c.args.x.now) (in_recession c.args.problem.now c.args.ray.now) (above c.args.problem.now c.args.d.now c.args.ray.now c.args.m.now) (in_recession c.args.problem.now c.args.back.now) (above c.args.problem.now (map neg_ℚ c.args.d.now) c.args.back.now c.args.n.now)) room)))))

pub returns-in_err-is_above : goal.returns-in_err-is_above
returns-in_err-is_above c =
    let came0 : Passed (test rule.Length (length c.args.d.now == c.args.problem.now.objs) ∷ []) 0 0 = record { none = (c.in_ok-pass.ensures 0).0; count = (c.in_ok-pass.ensures 0).1 } in
    let came1 : Passed (test rule.Scaled (goes_on c.args.lines.now c.args.d.now) ∷ []) 0 0 = record { none = (subst (λ (es : List Event). Runs {X = Unit {0}} is_held es 0 0 (λ _. ⊤) (Ok tt)) (ap (λ (b : Bool). test rule.Scaled b ∷ []) c.goes_on.ensures) ((c.in_ok-pass-2.ensures 0).0, (c.in_ok-pass-2.ensures 0).1, tt)).0; count = (subst (λ (es : List Event). Runs {X = Unit {0}} is_held es 0 0 (λ _. ⊤) (Ok tt)) (ap (λ (b : Bool). test rule.Scaled b ∷ []) c.goes_on.ensures) ((c.in_ok-pass-2.ensures 0).0, (c.in_ok-pass-2.ensures 0).1, tt)).1 } in
    let came2 : Passed (in_feasible c.args.problem.now c.args.x.now) 0 c.in_feasible.new.counter.taken = record { none = c.in_ok-in_feasible.ensures.0; count = c.in_ok-in_feasible.ensures.1 } in
    let came3 : Passed (in_recession c.args.problem.now c.args.ray.now) c.in_feasible.new.counter.taken c.in_recession.new.counter.taken = record { none = c.in_ok-in_recession.ensures.0; count = c.in_ok-in_recession.ensures.1 } in
    let here : Stopped (above c.args.problem.now c.args.d.now c.args.ray.now c.args.m.now) c.in_recession.new.counter.taken c.in_err-is_above.field-0.0 = record { at = c.in_err-is_above.ensures } in
    let stopped = subst (λ (es : List Event). Stops is_held es 0 c.in_err-is_above.field-0.0) (sym (line-parts (test rule.Length (length c.args.d.now == c.args.problem.now.objs)) (test rule.Scaled (goes_on c.args.lines.now c.args.d.now)) (in_feasible c.args.problem.now c.args.x.now) (in_recession c.args.problem.now c.args.ray.now) (above c.args.problem.now c.args.d.now c.args.ray.now c.args.m.now) (in_recession c.args.problem.now c.args.back.now) (above c.args.problem.now (map neg_ℚ c.args.d.now) c.args.back.now c.args.n.now))) ((stopped-later came0 (stopped-later came1 (stopped-later came2 (stopped-later came3 (stopped-in ((in_recession c.args.problem.now c.args.back.now) ++ (([]) ++ (above c.args.problem.now (map neg_ℚ c.args.d.now) c.args.back.now c.args.n.now))) here))))).at) in
    search (stopped, rules)

pub in_recession-requires-2-clause-room : goal.in_recession-requires-2-clause-room
in_recession-requires-2-clause-room c =
    let room : 0 + steps (line_events c.args.problem.now c.args.lines.now c.args.d.now c.args.x.now c.args.ray.now c.args.m.now c.args.back.now c.args.n.now) < 9223372036854775808 = let few = steps-line c.args.problem.now c.args.lines.now c.args.d.now c.args.x.now c.args.ray.now c.args.m.now c.args.back.now c.args.n.now (length-tested (length c.args.d.now) c.args.problem.now.objs (c.in_ok-pass.ensures 0).0) in omega (arith, few) in
    let came0 : Passed (test rule.Length (length c.args.d.now == c.args.problem.now.objs) ∷ []) 0 0 = record { none = (c.in_ok-pass.ensures 0).0; count = (c.in_ok-pass.ensures 0).1 } in
    let came1 : Passed (test rule.Scaled (goes_on c.args.lines.now c.args.d.now) ∷ []) 0 0 = record { none = (subst (λ (es : List Event). Runs {X = Unit {0}} is_held es 0 0 (λ _. ⊤) (Ok tt)) (ap (λ (b : Bool). test rule.Scaled b ∷ []) c.goes_on.ensures) ((c.in_ok-pass-2.ensures 0).0, (c.in_ok-pass-2.ensures 0).1, tt)).0; count = (subst (λ (es : List Event). Runs {X = Unit {0}} is_held es 0 0 (λ _. ⊤) (Ok tt)) (ap (λ (b : Bool). test rule.Scaled b ∷ []) c.goes_on.ensures) ((c.in_ok-pass-2.ensures 0).0, (c.in_ok-pass-2.ensures 0).1, tt)).1 } in
    let came2 : Passed (in_feasible c.args.problem.now c.args.x.now) 0 c.in_feasible.new.counter.taken = record { none = c.in_ok-in_feasible.ensures.0; count = c.in_ok-in_feasible.ensures.1 } in
    let came3 : Passed (in_recession c.args.problem.now c.args.ray.now) c.in_feasible.new.counter.taken c.in_recession.new.counter.taken = record { none = c.in_ok-in_recession.ensures.0; count = c.in_ok-in_recession.ensures.1 } in
    let came4 : Passed (above c.args.problem.now c.args.d.now c.args.ray.now c.args.m.now) c.in_recession.new.counter.taken c.is_above.new.counter.taken = record { none = c.in_ok-is_above.ensures.0; count = c.in_ok-is_above.ensures.1 } in
    room-in (in_recession c.args.problem.now c.args.back.now) (([]) ++ (above c.args.problem.now (map neg_ℚ c.args.d.now) c.args.back.now c.args.n.now)) c.is_above.new.counter.taken _ (room-after ((in_recession c.args.problem.now c.args.back.now) ++ (([]) ++ (above c.args.problem.now (map neg_ℚ c.args.d.now) c.args.back.now c.args.n.now))) _ came4 (room-after ((above c.args.problem.now c.args.d.now c.args.ray.now c.args.m.now) ++ ((in_recession c.args.problem.now c.args.back.now) ++ (([]) ++ (above c.args.problem.now (map neg_ℚ c.args.d.now) c.args.back.now c.args.n.now)))) _ came3 (room-after ((in_recession c.args.problem.now c.args.ray.now) ++ ((above c.args.problem.now c.args.d.now c.args.ray.now c.args.m.now) ++ ((in_recession c.args.problem.now c.args.back.now) ++ (([]) ++ (above c.args.problem.now (map neg_ℚ c.args.d.now) c.args.back.now c.args.n.now))))) _ came2 (room-after ((in_feasible c.args.problem.now c.args.x.now) ++ ((in_recession c.args.problem.now c.args.ray.now) ++ ((above c.args.problem.now c.args.d.now c.args.ray.now c.args.m.now) ++ ((in_recession c.args.problem.now c.args.back.now) ++ (([]) ++ (above c.args.problem.now (map neg_ℚ c.args.d.now) c.args.back.now c.args.n.now)))))) _ came1 (room-after ((test rule.Scaled (goes_on c.args.lines.now c.args.d.now) ∷ []) ++ ((in_feasible c.args.problem.now c.args.x.now) ++ ((in_recession c.args.problem.now c.args.ray.now) ++ ((above c.args.problem.now c.args.d.now c.args.ray.now c.args.m.now) ++ ((in_recession c.args.problem.now c.args.back.now) ++ (([]) ++ (above c.args.problem.now (map neg_ℚ c.args.d.now) c.args.back.now c.args.n.now))))))) _ came0 (subst (λ (es : List Event). 0 + steps es < 9223372036854775808) (line-parts (test rule.Length (length c.args.d.now == c.args.problem.now.objs)) (test rule.Scaled (goes_on c.args.lines.now c.args.d.now)) (in_feasible c.args.problem.now c.args.x.now) (in_recession c.args.problem.now c.args.ray.now) (above c.args.problem.now c.args.d.now c.args.ray.now c.args.m.now) (in_recession c.args.problem.now c.args.back.now) (above c.args.problem.now (map neg_ℚ c.args.d.now) c.args.back.now c.args.n.now)) room))))))

pub returns-in_err-in_recession-2 : goal.returns-in_err-in_recession-2
returns-in_err-in_recession-2 c =
    let came0 : Passed (test rule.Length (length c.args.d.now == c.args.problem.now.objs) ∷ []) 0 0 = record { none = (c.in_ok-pass.ensures 0).0; count = (c.in_ok-pass.ensures 0).1 } in
    let came1 : Passed (test rule.Scaled (goes_on c.args.lines.now c.args.d.now) ∷ []) 0 0 = record { none = (subst (λ (es : List Event). Runs {X = Unit {0}} is_held es 0 0 (λ _. ⊤) (Ok tt)) (ap (λ (b : Bool). test rule.Scaled b ∷ []) c.goes_on.ensures) ((c.in_ok-pass-2.ensures 0).0, (c.in_ok-pass-2.ensures 0).1, tt)).0; count = (subst (λ (es : List Event). Runs {X = Unit {0}} is_held es 0 0 (λ _. ⊤) (Ok tt)) (ap (λ (b : Bool). test rule.Scaled b ∷ []) c.goes_on.ensures) ((c.in_ok-pass-2.ensures 0).0, (c.in_ok-pass-2.ensures 0).1, tt)).1 } in
    let came2 : Passed (in_feasible c.args.problem.now c.args.x.now) 0 c.in_feasible.new.counter.taken = record { none = c.in_ok-in_feasible.ensures.0; count = c.in_ok-in_feasible.ensures.1 } in
    let came3 : Passed (in_recession c.args.problem.now c.args.ray.now) c.in_feasible.new.counter.taken c.in_recession.new.counter.taken = record { none = c.in_ok-in_recession.ensures.0; count = c.in_ok-in_recession.ensures.1 } in
    let came4 : Passed (above c.args.problem.now c.args.d.now c.args.ray.now c.args.m.now) c.in_recession.new.counter.taken c.is_above.new.counter.taken = record { none = c.in_ok-is_above.ensures.0; count = c.in_ok-is_above.ensures.1 } in
    let here : Stopped (in_recession c.args.problem.now c.args.back.now) c.is_above.new.counter.taken c.in_err-in_recession-2.field-0.0 = record { at = c.in_err-in_recession-2.ensures } in
    let stopped = subst (λ (es : List Event). Stops is_held es 0 c.in_err-in_recession-2.field-0.0) (sym (line-parts (test rule.Length (length c.args.d.now == c.args.problem.now.objs)) (test rule.Scaled (goes_on c.args.lines.now c.args.d.now)) (in_feasible c.args.problem.now c.args.x.now) (in_recession c.args.problem.now c.args.ray.now) (above c.args.problem.now c.args.d.now c.args.ray.now c.args.m.now) (in_recession c.args.problem.now c.args.back.now) (above c.args.problem.now (map neg_ℚ c.args.d.now) c.args.back.now c.args.n.now))) ((stopped-later came0 (stopped-later came1 (stopped-later came2 (stopped-later came3 (stopped-later came4 (stopped-in (([]) ++ (above c.args.problem.now (map neg_ℚ c.args.d.now) c.args.back.now c.args.n.now)) here)))))).at) in
    search (stopped, rules)

pub returns-in_err-opposite : goal.returns-in_err-opposite
returns-in_err-opposite c =
    let came0 : Passed (test rule.Length (length c.args.d.now == c.args.problem.now.objs) ∷ []) 0 0 = record { none = (c.in_ok-pass.ensures 0).0; count = (c.in_ok-pass.ensures 0).1 } in
    let came1 : Passed (test rule.Scaled (goes_on c.args.lines.now c.args.d.now) ∷ []) 0 0 = record { none = (subst (λ (es : List Event). Runs {X = Unit {0}} is_held es 0 0 (λ _. ⊤) (Ok tt)) (ap (λ (b : Bool). test rule.Scaled b ∷ []) c.goes_on.ensures) ((c.in_ok-pass-2.ensures 0).0, (c.in_ok-pass-2.ensures 0).1, tt)).0; count = (subst (λ (es : List Event). Runs {X = Unit {0}} is_held es 0 0 (λ _. ⊤) (Ok tt)) (ap (λ (b : Bool). test rule.Scaled b ∷ []) c.goes_on.ensures) ((c.in_ok-pass-2.ensures 0).0, (c.in_ok-pass-2.ensures 0).1, tt)).1 } in
    let came2 : Passed (in_feasible c.args.problem.now c.args.x.now) 0 c.in_feasible.new.counter.taken = record { none = c.in_ok-in_feasible.ensures.0; count = c.in_ok-in_feasible.ensures.1 } in
    let came3 : Passed (in_recession c.args.problem.now c.args.ray.now) c.in_feasible.new.counter.taken c.in_recession.new.counter.taken = record { none = c.in_ok-in_recession.ensures.0; count = c.in_ok-in_recession.ensures.1 } in
    let came4 : Passed (above c.args.problem.now c.args.d.now c.args.ray.now c.args.m.now) c.in_recession.new.counter.taken c.is_above.new.counter.taken = record { none = c.in_ok-is_above.ensures.0; count = c.in_ok-is_above.ensures.1 } in
    let came5 : Passed (in_recession c.args.problem.now c.args.back.now) c.is_above.new.counter.taken c.in_recession-2.new.counter.taken = record { none = c.in_ok-in_recession-2.ensures.0; count = c.in_ok-in_recession-2.ensures.1 } in
    let here : Stopped ([]) c.in_recession-2.new.counter.taken c.in_err-opposite.field-0.0 = record { at = c.in_err-opposite.ensures c.in_recession-2.new.counter.taken } in
    let stopped = subst (λ (es : List Event). Stops is_held es 0 c.in_err-opposite.field-0.0) (sym (line-parts (test rule.Length (length c.args.d.now == c.args.problem.now.objs)) (test rule.Scaled (goes_on c.args.lines.now c.args.d.now)) (in_feasible c.args.problem.now c.args.x.now) (in_recession c.args.problem.now c.args.ray.now) (above c.args.problem.now c.args.d.now c.args.ray.now c.args.m.now) (in_recession c.args.problem.now c.args.back.now) (above c.args.problem.now (map neg_ℚ c.args.d.now) c.args.back.now c.args.n.now))) ((stopped-later came0 (stopped-later came1 (stopped-later came2 (stopped-later came3 (stopped-later came4 (stopped-later came5 (stopped-in (above c.args.problem.now (map neg_ℚ c.args.d.now) c.args.back.now c.args.n.now) here))))))).at) in
    search (stopped, rules)

pub is_above-requires-2-clause-entries : goal.is_above-requires-2-clause-entries
is_above-requires-2-clause-entries c = ap (λ (v : List ℚ). length v) (c.as_slice.ensures.items ∙ (c.in_ok-opposite.ensures 0).2) ∙ length-map c.args.d.now neg_ℚ ∙ (length-tested (length c.args.d.now) c.args.problem.now.objs (c.in_ok-pass.ensures 0).0)

pub is_above-requires-2-clause-vector : goal.is_above-requires-2-clause-vector
is_above-requires-2-clause-vector c = record { sparse = c.requires.back; places = recession-places c.is_above.new.counter.taken c.args.problem.now c.args.back.now c.in_ok-in_recession-2.ensures.0 }

pub is_above-requires-2-clause-room : goal.is_above-requires-2-clause-room
is_above-requires-2-clause-room c =
    let room : 0 + steps (line_events c.args.problem.now c.args.lines.now c.args.d.now c.args.x.now c.args.ray.now c.args.m.now c.args.back.now c.args.n.now) < 9223372036854775808 = let few = steps-line c.args.problem.now c.args.lines.now c.args.d.now c.args.x.now c.args.ray.now c.args.m.now c.args.back.now c.args.n.now (length-tested (length c.args.d.now) c.args.problem.now.objs (c.in_ok-pass.ensures 0).0) in omega (arith, few) in
    let came0 : Passed (test rule.Length (length c.args.d.now == c.args.problem.now.objs) ∷ []) 0 0 = record { none = (c.in_ok-pass.ensures 0).0; count = (c.in_ok-pass.ensures 0).1 } in
    let came1 : Passed (test rule.Scaled (goes_on c.args.lines.now c.args.d.now) ∷ []) 0 0 = record { none = (subst (λ (es : List Event). Runs {X = Unit {0}} is_held es 0 0 (λ _. ⊤) (Ok tt)) (ap (λ (b : Bool). test rule.Scaled b ∷ []) c.goes_on.ensures) ((c.in_ok-pass-2.ensures 0).0, (c.in_ok-pass-2.ensures 0).1, tt)).0; count = (subst (λ (es : List Event). Runs {X = Unit {0}} is_held es 0 0 (λ _. ⊤) (Ok tt)) (ap (λ (b : Bool). test rule.Scaled b ∷ []) c.goes_on.ensures) ((c.in_ok-pass-2.ensures 0).0, (c.in_ok-pass-2.ensures 0).1, tt)).1 } in
    let came2 : Passed (in_feasible c.args.problem.now c.args.x.now) 0 c.in_feasible.new.counter.taken = record { none = c.in_ok-in_feasible.ensures.0; count = c.in_ok-in_feasible.ensures.1 } in
    let came3 : Passed (in_recession c.args.problem.now c.args.ray.now) c.in_feasible.new.counter.taken c.in_recession.new.counter.taken = record { none = c.in_ok-in_recession.ensures.0; count = c.in_ok-in_recession.ensures.1 } in
    let came4 : Passed (above c.args.problem.now c.args.d.now c.args.ray.now c.args.m.now) c.in_recession.new.counter.taken c.is_above.new.counter.taken = record { none = c.in_ok-is_above.ensures.0; count = c.in_ok-is_above.ensures.1 } in
    let came5 : Passed (in_recession c.args.problem.now c.args.back.now) c.is_above.new.counter.taken c.in_recession-2.new.counter.taken = record { none = c.in_ok-in_recession-2.ensures.0; count = c.in_ok-in_recession-2.ensures.1 } in
    let came6 : Passed ([]) c.in_recession-2.new.counter.taken c.in_recession-2.new.counter.taken = record { none = (c.in_ok-opposite.ensures c.in_recession-2.new.counter.taken).0; count = (c.in_ok-opposite.ensures c.in_recession-2.new.counter.taken).1 } in
    subst (λ (v : List ℚ). c.in_recession-2.new.counter.taken + steps (above c.args.problem.now v c.args.back.now c.args.n.now) < 9223372036854775808) (sym (c.as_slice.ensures.items ∙ (c.in_ok-opposite.ensures 0).2)) ((room-after (above c.args.problem.now (map neg_ℚ c.args.d.now) c.args.back.now c.args.n.now) _ came6 (room-after (([]) ++ (above c.args.problem.now (map neg_ℚ c.args.d.now) c.args.back.now c.args.n.now)) _ came5 (room-after ((in_recession c.args.problem.now c.args.back.now) ++ (([]) ++ (above c.args.problem.now (map neg_ℚ c.args.d.now) c.args.back.now c.args.n.now))) _ came4 (room-after ((above c.args.problem.now c.args.d.now c.args.ray.now c.args.m.now) ++ ((in_recession c.args.problem.now c.args.back.now) ++ (([]) ++ (above c.args.problem.now (map neg_ℚ c.args.d.now) c.args.back.now c.args.n.now)))) _ came3 (room-after ((in_recession c.args.problem.now c.args.ray.now) ++ ((above c.args.problem.now c.args.d.now c.args.ray.now c.args.m.now) ++ ((in_recession c.args.problem.now c.args.back.now) ++ (([]) ++ (above c.args.problem.now (map neg_ℚ c.args.d.now) c.args.back.now c.args.n.now))))) _ came2 (room-after ((in_feasible c.args.problem.now c.args.x.now) ++ ((in_recession c.args.problem.now c.args.ray.now) ++ ((above c.args.problem.now c.args.d.now c.args.ray.now c.args.m.now) ++ ((in_recession c.args.problem.now c.args.back.now) ++ (([]) ++ (above c.args.problem.now (map neg_ℚ c.args.d.now) c.args.back.now c.args.n.now)))))) _ came1 (room-after ((test rule.Scaled (goes_on c.args.lines.now c.args.d.now) ∷ []) ++ ((in_feasible c.args.problem.now c.args.x.now) ++ ((in_recession c.args.problem.now c.args.ray.now) ++ ((above c.args.problem.now c.args.d.now c.args.ray.now c.args.m.now) ++ ((in_recession c.args.problem.now c.args.back.now) ++ (([]) ++ (above c.args.problem.now (map neg_ℚ c.args.d.now) c.args.back.now c.args.n.now))))))) _ came0 (subst (λ (es : List Event). 0 + steps es < 9223372036854775808) (line-parts (test rule.Length (length c.args.d.now == c.args.problem.now.objs)) (test rule.Scaled (goes_on c.args.lines.now c.args.d.now)) (in_feasible c.args.problem.now c.args.x.now) (in_recession c.args.problem.now c.args.ray.now) (above c.args.problem.now c.args.d.now c.args.ray.now c.args.m.now) (in_recession c.args.problem.now c.args.back.now) (above c.args.problem.now (map neg_ℚ c.args.d.now) c.args.back.now c.args.n.now)) room)))))))))

pub returns : goal.returns
returns c =
    let came0 : Passed (test rule.Length (length c.args.d.now == c.args.problem.now.objs) ∷ []) 0 0 = record { none = (c.in_ok-pass.ensures 0).0; count = (c.in_ok-pass.ensures 0).1 } in
    let came1 : Passed (test rule.Scaled (goes_on c.args.lines.now c.args.d.now) ∷ []) 0 0 = record { none = (subst (λ (es : List Event). Runs {X = Unit {0}} is_held es 0 0 (λ _. ⊤) (Ok tt)) (ap (λ (b : Bool). test rule.Scaled b ∷ []) c.goes_on.ensures) ((c.in_ok-pass-2.ensures 0).0, (c.in_ok-pass-2.ensures 0).1, tt)).0; count = (subst (λ (es : List Event). Runs {X = Unit {0}} is_held es 0 0 (λ _. ⊤) (Ok tt)) (ap (λ (b : Bool). test rule.Scaled b ∷ []) c.goes_on.ensures) ((c.in_ok-pass-2.ensures 0).0, (c.in_ok-pass-2.ensures 0).1, tt)).1 } in
    let came2 : Passed (in_feasible c.args.problem.now c.args.x.now) 0 c.in_feasible.new.counter.taken = record { none = c.in_ok-in_feasible.ensures.0; count = c.in_ok-in_feasible.ensures.1 } in
    let came3 : Passed (in_recession c.args.problem.now c.args.ray.now) c.in_feasible.new.counter.taken c.in_recession.new.counter.taken = record { none = c.in_ok-in_recession.ensures.0; count = c.in_ok-in_recession.ensures.1 } in
    let came4 : Passed (above c.args.problem.now c.args.d.now c.args.ray.now c.args.m.now) c.in_recession.new.counter.taken c.is_above.new.counter.taken = record { none = c.in_ok-is_above.ensures.0; count = c.in_ok-is_above.ensures.1 } in
    let came5 : Passed (in_recession c.args.problem.now c.args.back.now) c.is_above.new.counter.taken c.in_recession-2.new.counter.taken = record { none = c.in_ok-in_recession-2.ensures.0; count = c.in_ok-in_recession-2.ensures.1 } in
    let came6 : Passed ([]) c.in_recession-2.new.counter.taken c.in_recession-2.new.counter.taken = record { none = (c.in_ok-opposite.ensures c.in_recession-2.new.counter.taken).0; count = (c.in_ok-opposite.ensures c.in_recession-2.new.counter.taken).1 } in
    let last : Ran {X = Unit {0}} (above c.args.problem.now (map neg_ℚ c.args.d.now) c.args.back.now c.args.n.now) c.in_recession-2.new.counter.taken c.is_above-2.new.counter.taken (λ _. ⊤) c.is_above-2.result = record { runs = subst (λ (v : List ℚ). Runs {X = Unit {0}} is_held (above c.args.problem.now v c.args.back.now c.args.n.now) c.in_recession-2.new.counter.taken c.is_above-2.new.counter.taken (λ _. ⊤) c.is_above-2.result) (c.as_slice.ensures.items ∙ (c.in_ok-opposite.ensures 0).2) c.is_above-2.ensures } in
    whole-run (line_events c.args.problem.now c.args.lines.now c.args.d.now c.args.x.now c.args.ray.now c.args.m.now c.args.back.now c.args.n.now) c.is_above-2.new.counter.taken (λ _. ⊤) c.is_above-2.result (subst (λ (es : List Event). Runs {X = Unit {0}} is_held es 0 c.is_above-2.new.counter.taken (λ _. ⊤) c.is_above-2.result) (sym (line-parts (test rule.Length (length c.args.d.now == c.args.problem.now.objs)) (test rule.Scaled (goes_on c.args.lines.now c.args.d.now)) (in_feasible c.args.problem.now c.args.x.now) (in_recession c.args.problem.now c.args.ray.now) (above c.args.problem.now c.args.d.now c.args.ray.now c.args.m.now) (in_recession c.args.problem.now c.args.back.now) (above c.args.problem.now (map neg_ℚ c.args.d.now) c.args.back.now c.args.n.now))) ((ran-after came0 (ran-after came1 (ran-after came2 (ran-after came3 (ran-after came4 (ran-after came5 (ran-after came6 last))))))).runs))
