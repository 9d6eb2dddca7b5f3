use Rattle.std.proofs.Common.{rules, sym, subst, ap, ◌∙◌, ◌+◌, ◌<◌, ℕ, List, [], ◌++◌, length, map, IsTrue}
use Rattle.std.specs.Prelude.{⊤}
use Rattle.exact_field.specs.Rational.{ℚ}
use Rattle.frac128.specs.Held.{is_held}
use Rattle.frac128.specs.declared.vectors.Spot.{Spot}
use Rattle.log_rules.specs.Events.{Event}
use Rattle.log_rules.specs.Runs.{Runs, Stops, steps}
use Rattle.log_rules.specs.VectorEvents.{in_cone}
use Rattle.upper_image.specs.Spots.{dense}
use Rattle.upper_image.specs.UpperImage.{rest}
use Rattle.upper_image.proofs.Widths.{length-dense}
use Rattle.entry_checks.specs.Parts.{rest_events}
use Rattle.entry_checks.proofs.Going.{Passed, Stopped, stopped-in, stopped-later, Ran, ran-after, room-in, room-after}
use Rattle.entry_checks.proofs.MatrixEvents.{above-matrices, rest-matrices, rows-objectives}
use Rattle.upper_image.proofs.WorkingImage.{rest_wide}
use Rattle.entry_checks.proofs.MatrixEvents.{vectors-as, rest-as, differences-as}
use Rattle.std.specs.Prelude.{Ok}
use Rattle.vlp_problem.specs.Cones.{cone_fits}
use Rattle.entry_checks.proofs.image.is_above.Goals as goal

pub returns-in_err-values : goal.returns-in_err-values
returns-in_err-values c =
    let here : Stopped ([]) c.args.counter.now.taken c.in_err-values.field-0.0 = record { at = c.in_err-values.ensures c.args.counter.now.taken } in
    let stopped = subst (λ (es : List Event). Stops is_held es c.args.counter.now.taken c.in_err-values.field-0.0) (sym (above-matrices c.args.problem.now c.args.matrices.now c.args.y.now c.args.x.now c.args.m.now c.requires.matrices c.requires.entries)) ((stopped-in ((rest_events (map (dense c.args.problem.now.cols) c.args.matrices.now.objectives.rows) c.args.y.now (dense c.args.problem.now.cols c.args.x.now)) ++ (in_cone c.args.problem.now.cone (rest c.args.problem.now c.args.y.now (dense c.args.problem.now.cols c.args.x.now)) c.args.m.now)) here).at) in
    search (stopped, rules)

pub differences-requires-clause-vectors : goal.differences-requires-clause-vectors
differences-requires-clause-vectors c = vectors-as c.args.problem.now.cols c.as_slice.result.now (dense c.args.problem.now.cols c.args.x.now) c.as_slice-rows.result.now c.args.matrices.now.objectives.rows (c.as_slice.ensures.value ∙ (c.in_ok-values.ensures c.args.counter.now.taken).2) (length-dense c.args.problem.now.cols c.args.x.now) c.as_slice-rows.ensures.items c.requires.matrices.objective_rows.sparse

pub differences-requires-clause-entries : goal.differences-requires-clause-entries
differences-requires-clause-entries c = ap (λ (us : List (List Spot)). length us) c.as_slice-rows.ensures.items ∙ rows-objectives c.args.problem.now c.args.matrices.now c.requires.matrices ∙ sym c.requires.entries

pub differences-requires-clause-room : goal.differences-requires-clause-room
differences-requires-clause-room c =
    let came0 : Passed ([]) c.args.counter.now.taken c.args.counter.now.taken = record { none = (c.in_ok-values.ensures c.args.counter.now.taken).0; count = (c.in_ok-values.ensures c.args.counter.now.taken).1 } in
    subst (λ (es : List Event). c.args.counter.now.taken + steps es < 9223372036854775808) (sym (rest-as c.args.problem.now.cols c.as_slice.result.now (dense c.args.problem.now.cols c.args.x.now) c.as_slice-rows.result.now c.args.matrices.now.objectives.rows c.args.y.now (c.as_slice.ensures.value ∙ (c.in_ok-values.ensures c.args.counter.now.taken).2) (length-dense c.args.problem.now.cols c.args.x.now) c.as_slice-rows.ensures.items)) (room-in (rest_events (map (dense c.args.problem.now.cols) c.args.matrices.now.objectives.rows) c.args.y.now (dense c.args.problem.now.cols c.args.x.now)) (in_cone c.args.problem.now.cone (rest c.args.problem.now c.args.y.now (dense c.args.problem.now.cols c.args.x.now)) c.args.m.now) c.args.counter.now.taken _ (room-after ((rest_events (map (dense c.args.problem.now.cols) c.args.matrices.now.objectives.rows) c.args.y.now (dense c.args.problem.now.cols c.args.x.now)) ++ (in_cone c.args.problem.now.cone (rest c.args.problem.now c.args.y.now (dense c.args.problem.now.cols c.args.x.now)) c.args.m.now)) _ came0 (subst (λ (es : List Event). c.args.counter.now.taken + steps es < 9223372036854775808) (above-matrices c.args.problem.now c.args.matrices.now c.args.y.now c.args.x.now c.args.m.now c.requires.matrices c.requires.entries) c.requires.room)))

pub returns-in_err-rest : goal.returns-in_err-rest
returns-in_err-rest c =
    let came0 : Passed ([]) c.args.counter.now.taken c.args.counter.now.taken = record { none = (c.in_ok-values.ensures c.args.counter.now.taken).0; count = (c.in_ok-values.ensures c.args.counter.now.taken).1 } in
    let here : Stopped (rest_events (map (dense c.args.problem.now.cols) c.args.matrices.now.objectives.rows) c.args.y.now (dense c.args.problem.now.cols c.args.x.now)) c.args.counter.now.taken c.in_err-rest.field-0.0 = record { at = subst (λ (es : List Event). Stops is_held es c.args.counter.now.taken c.in_err-rest.field-0.0) (rest-as c.args.problem.now.cols c.as_slice.result.now (dense c.args.problem.now.cols c.args.x.now) c.as_slice-rows.result.now c.args.matrices.now.objectives.rows c.args.y.now (c.as_slice.ensures.value ∙ (c.in_ok-values.ensures c.args.counter.now.taken).2) (length-dense c.args.problem.now.cols c.args.x.now) c.as_slice-rows.ensures.items) c.in_err-rest.ensures } in
    let stopped = subst (λ (es : List Event). Stops is_held es c.args.counter.now.taken c.in_err-rest.field-0.0) (sym (above-matrices c.args.problem.now c.args.matrices.now c.args.y.now c.args.x.now c.args.m.now c.requires.matrices c.requires.entries)) ((stopped-later came0 (stopped-in (in_cone c.args.problem.now.cone (rest c.args.problem.now c.args.y.now (dense c.args.problem.now.cols c.args.x.now)) c.args.m.now) here)).at) in
    search (stopped, rules)

pub in_cone-requires-clause-fits : goal.in_cone-requires-clause-fits
in_cone-requires-clause-fits c = subst (λ (k : ℕ). IsTrue (cone_fits k c.args.problem.now.cone)) (sym (ap (λ (v : List ℚ). length v) (c.as_slice-2.ensures.items ∙ c.in_ok-rest.ensures.2 ∙ differences-as c.args.problem.now.cols c.as_slice.result.now (dense c.args.problem.now.cols c.args.x.now) c.as_slice-rows.result.now c.args.matrices.now.objectives.rows c.args.y.now (c.as_slice.ensures.value ∙ (c.in_ok-values.ensures c.args.counter.now.taken).2) (length-dense c.args.problem.now.cols c.args.x.now) c.as_slice-rows.ensures.items ∙ rest-matrices c.args.problem.now c.args.matrices.now c.args.y.now c.args.x.now c.requires.matrices c.requires.entries) ∙ rest_wide c.args.problem.now c.args.y.now (dense c.args.problem.now.cols c.args.x.now) c.requires.entries)) c.args.problem.now.cone_vectors

pub in_cone-requires-clause-room : goal.in_cone-requires-clause-room
in_cone-requires-clause-room c =
    let came0 : Passed ([]) c.args.counter.now.taken c.args.counter.now.taken = record { none = (c.in_ok-values.ensures c.args.counter.now.taken).0; count = (c.in_ok-values.ensures c.args.counter.now.taken).1 } in
    let came1 : Passed (rest_events (map (dense c.args.problem.now.cols) c.args.matrices.now.objectives.rows) c.args.y.now (dense c.args.problem.now.cols c.args.x.now)) c.args.counter.now.taken c.differences.new.counter.taken = record { none = (subst (λ (es : List Event). Runs {X = Unit {0}} is_held es c.args.counter.now.taken c.differences.new.counter.taken (λ _. ⊤) (Ok tt)) (rest-as c.args.problem.now.cols c.as_slice.result.now (dense c.args.problem.now.cols c.args.x.now) c.as_slice-rows.result.now c.args.matrices.now.objectives.rows c.args.y.now (c.as_slice.ensures.value ∙ (c.in_ok-values.ensures c.args.counter.now.taken).2) (length-dense c.args.problem.now.cols c.args.x.now) c.as_slice-rows.ensures.items) (c.in_ok-rest.ensures.0, c.in_ok-rest.ensures.1, tt)).0; count = (subst (λ (es : List Event). Runs {X = Unit {0}} is_held es c.args.counter.now.taken c.differences.new.counter.taken (λ _. ⊤) (Ok tt)) (rest-as c.args.problem.now.cols c.as_slice.result.now (dense c.args.problem.now.cols c.args.x.now) c.as_slice-rows.result.now c.args.matrices.now.objectives.rows c.args.y.now (c.as_slice.ensures.value ∙ (c.in_ok-values.ensures c.args.counter.now.taken).2) (length-dense c.args.problem.now.cols c.args.x.now) c.as_slice-rows.ensures.items) (c.in_ok-rest.ensures.0, c.in_ok-rest.ensures.1, tt)).1 } in
    subst (λ (v : List ℚ). c.differences.new.counter.taken + steps (in_cone c.args.problem.now.cone v c.args.m.now) < 9223372036854775808) (sym (c.as_slice-2.ensures.items ∙ c.in_ok-rest.ensures.2 ∙ differences-as c.args.problem.now.cols c.as_slice.result.now (dense c.args.problem.now.cols c.args.x.now) c.as_slice-rows.result.now c.args.matrices.now.objectives.rows c.args.y.now (c.as_slice.ensures.value ∙ (c.in_ok-values.ensures c.args.counter.now.taken).2) (length-dense c.args.problem.now.cols c.args.x.now) c.as_slice-rows.ensures.items ∙ rest-matrices c.args.problem.now c.args.matrices.now c.args.y.now c.args.x.now c.requires.matrices c.requires.entries)) ((room-after (in_cone c.args.problem.now.cone (rest c.args.problem.now c.args.y.now (dense c.args.problem.now.cols c.args.x.now)) c.args.m.now) _ came1 (room-after ((rest_events (map (dense c.args.problem.now.cols) c.args.matrices.now.objectives.rows) c.args.y.now (dense c.args.problem.now.cols c.args.x.now)) ++ (in_cone c.args.problem.now.cone (rest c.args.problem.now c.args.y.now (dense c.args.problem.now.cols c.args.x.now)) c.args.m.now)) _ came0 (subst (λ (es : List Event). c.args.counter.now.taken + steps es < 9223372036854775808) (above-matrices c.args.problem.now c.args.matrices.now c.args.y.now c.args.x.now c.args.m.now c.requires.matrices c.requires.entries) c.requires.room))))

pub returns : goal.returns
returns c =
    let came0 : Passed ([]) c.args.counter.now.taken c.args.counter.now.taken = record { none = (c.in_ok-values.ensures c.args.counter.now.taken).0; count = (c.in_ok-values.ensures c.args.counter.now.taken).1 } in
    let came1 : Passed (rest_events (map (dense c.args.problem.now.cols) c.args.matrices.now.objectives.rows) c.args.y.now (dense c.args.problem.now.cols c.args.x.now)) c.args.counter.now.taken c.differences.new.counter.taken = record { none = (subst (λ (es : List Event). Runs {X = Unit {0}} is_held es c.args.counter.now.taken c.differences.new.counter.taken (λ _. ⊤) (Ok tt)) (rest-as c.args.problem.now.cols c.as_slice.result.now (dense c.args.problem.now.cols c.args.x.now) c.as_slice-rows.result.now c.args.matrices.now.objectives.rows c.args.y.now (c.as_slice.ensures.value ∙ (c.in_ok-values.ensures c.args.counter.now.taken).2) (length-dense c.args.problem.now.cols c.args.x.now) c.as_slice-rows.ensures.items) (c.in_ok-rest.ensures.0, c.in_ok-rest.ensures.1, tt)).0; count = (subst (λ (es : List Event). Runs {X = Unit {0}} is_held es c.args.counter.now.taken c.differences.new.counter.taken (λ _. ⊤) (Ok tt)) (rest-as c.args.problem.now.cols c.as_slice.result.now (dense c.args.problem.now.cols c.args.x.now) c.as_slice-rows.result.now c.args.matrices.now.objectives.rows c.args.y.now (c.as_slice.ensures.value ∙ (c.in_ok-values.ensures c.args.counter.now.taken).2) (length-dense c.args.problem.now.cols c.args.x.now) c.as_slice-rows.ensures.items) (c.in_ok-rest.ensures.0, c.in_ok-rest.ensures.1, tt)).1 } in
    let last : Ran {X = Unit {0}} (in_cone c.args.problem.now.cone (rest c.args.problem.now c.args.y.now (dense c.args.problem.now.cols c.args.x.now)) c.args.m.now) c.differences.new.counter.taken c.in_cone.new.counter.taken (λ _. ⊤) c.in_cone.result = record { runs = subst (λ (v : List ℚ). Runs {X = Unit {0}} is_held (in_cone c.args.problem.now.cone v c.args.m.now) c.differences.new.counter.taken c.in_cone.new.counter.taken (λ _. ⊤) c.in_cone.result) (c.as_slice-2.ensures.items ∙ c.in_ok-rest.ensures.2 ∙ differences-as c.args.problem.now.cols c.as_slice.result.now (dense c.args.problem.now.cols c.args.x.now) c.as_slice-rows.result.now c.args.matrices.now.objectives.rows c.args.y.now (c.as_slice.ensures.value ∙ (c.in_ok-values.ensures c.args.counter.now.taken).2) (length-dense c.args.problem.now.cols c.args.x.now) c.as_slice-rows.ensures.items ∙ rest-matrices c.args.problem.now c.args.matrices.now c.args.y.now c.args.x.now c.requires.matrices c.requires.entries) c.in_cone.ensures } in
    subst (λ (es : List Event). Runs {X = Unit {0}} is_held es c.args.counter.now.taken c.in_cone.new.counter.taken (λ _. ⊤) c.in_cone.result) (sym (above-matrices c.args.problem.now c.args.matrices.now c.args.y.now c.args.x.now c.args.m.now c.requires.matrices c.requires.entries)) ((ran-after came0 (ran-after came1 last)).runs)
