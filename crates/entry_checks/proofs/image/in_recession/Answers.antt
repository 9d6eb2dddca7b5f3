use Rattle.std.proofs.Common.{rules, sym, subst, ◌∙◌, ◌+◌, ◌<◌, List, [], ◌∷◌, ◌++◌, map}
use Rattle.std.specs.Prelude.{⊤}
use Rattle.frac128.specs.Held.{is_held}
use Rattle.log_rules.specs.Events.{Event}
use Rattle.log_rules.specs.Runs.{Runs, Stops, steps}
use Rattle.log_rules.specs.VectorEvents.{places_within}
use Rattle.upper_image.specs.Spots.{dense}
use Rattle.upper_image.proofs.Widths.{length-dense}
use Rattle.entry_checks.specs.Parts.{recession_events}
use Rattle.entry_checks.proofs.Going.{Passed, Stopped, stopped-in, stopped-later, Ran, ran-after, spots-within, room-after}
use Rattle.entry_checks.proofs.MatrixEvents.{recession-matrices}
use Rattle.entry_checks.proofs.MatrixEvents.{vectors-as, recession-as}
use Rattle.entry_checks.proofs.image.in_recession.Goals as goal

pub returns-in_err-places_within : goal.returns-in_err-places_within
returns-in_err-places_within c =
    let here : Stopped (places_within c.args.problem.now.cols c.args.x.now ∷ []) c.args.counter.now.taken c.in_err-places_within.field-0.0 = record { at = c.in_err-places_within.ensures c.args.counter.now.taken } in
    let stopped = subst (λ (es : List Event). Stops is_held es c.args.counter.now.taken c.in_err-places_within.field-0.0) (sym (recession-matrices c.args.problem.now c.args.matrices.now c.args.x.now c.requires.matrices)) ((stopped-in (([]) ++ (recession_events (map (dense c.args.problem.now.cols) c.args.matrices.now.sides.rows) (dense c.args.problem.now.cols c.args.x.now))) here).at) in
    search (stopped, rules)

pub spread-requires : goal.spread-requires
spread-requires c = record { sparse = c.requires.sparse; places = spots-within c.args.counter.now.taken c.args.problem.now.cols c.args.x.now (c.in_ok-places_within.ensures c.args.counter.now.taken).0 }

pub returns-in_err-values : goal.returns-in_err-values
returns-in_err-values c =
    let came0 : Passed (places_within c.args.problem.now.cols c.args.x.now ∷ []) c.args.counter.now.taken c.args.counter.now.taken = record { none = (c.in_ok-places_within.ensures c.args.counter.now.taken).0; count = (c.in_ok-places_within.ensures c.args.counter.now.taken).1 } in
    let here : Stopped ([]) c.args.counter.now.taken c.in_err-values.field-0.0 = record { at = c.in_err-values.ensures c.args.counter.now.taken } in
    let stopped = subst (λ (es : List Event). Stops is_held es c.args.counter.now.taken c.in_err-values.field-0.0) (sym (recession-matrices c.args.problem.now c.args.matrices.now c.args.x.now c.requires.matrices)) ((stopped-later came0 (stopped-in (recession_events (map (dense c.args.problem.now.cols) c.args.matrices.now.sides.rows) (dense c.args.problem.now.cols c.args.x.now)) here)).at) in
    search (stopped, rules)

pub keeps_sides-requires-clause-vectors : goal.keeps_sides-requires-clause-vectors
keeps_sides-requires-clause-vectors c = vectors-as c.args.problem.now.cols c.as_slice-2.result.now (dense c.args.problem.now.cols c.args.x.now) c.as_slice.result.now c.args.matrices.now.sides.rows (c.as_slice-2.ensures.value ∙ (c.in_ok-values.ensures c.args.counter.now.taken).2) (length-dense c.args.problem.now.cols c.args.x.now) c.as_slice.ensures.items c.requires.matrices.side_rows.sparse

pub keeps_sides-requires-clause-room : goal.keeps_sides-requires-clause-room
keeps_sides-requires-clause-room c =
    let came0 : Passed (places_within c.args.problem.now.cols c.args.x.now ∷ []) c.args.counter.now.taken c.args.counter.now.taken = record { none = (c.in_ok-places_within.ensures c.args.counter.now.taken).0; count = (c.in_ok-places_within.ensures c.args.counter.now.taken).1 } in
    let came1 : Passed ([]) c.args.counter.now.taken c.args.counter.now.taken = record { none = (c.in_ok-values.ensures c.args.counter.now.taken).0; count = (c.in_ok-values.ensures c.args.counter.now.taken).1 } in
    subst (λ (es : List Event). c.args.counter.now.taken + steps es < 9223372036854775808) (sym (recession-as c.args.problem.now.cols c.as_slice-2.result.now (dense c.args.problem.now.cols c.args.x.now) c.as_slice.result.now c.args.matrices.now.sides.rows (c.as_slice-2.ensures.value ∙ (c.in_ok-values.ensures c.args.counter.now.taken).2) (length-dense c.args.problem.now.cols c.args.x.now) c.as_slice.ensures.items)) ((room-after (recession_events (map (dense c.args.problem.now.cols) c.args.matrices.now.sides.rows) (dense c.args.problem.now.cols c.args.x.now)) _ came1 (room-after (([]) ++ (recession_events (map (dense c.args.problem.now.cols) c.args.matrices.now.sides.rows) (dense c.args.problem.now.cols c.args.x.now))) _ came0 (subst (λ (es : List Event). c.args.counter.now.taken + steps es < 9223372036854775808) (recession-matrices c.args.problem.now c.args.matrices.now c.args.x.now c.requires.matrices) c.requires.room))))

pub returns : goal.returns
returns c =
    let came0 : Passed (places_within c.args.problem.now.cols c.args.x.now ∷ []) c.args.counter.now.taken c.args.counter.now.taken = record { none = (c.in_ok-places_within.ensures c.args.counter.now.taken).0; count = (c.in_ok-places_within.ensures c.args.counter.now.taken).1 } in
    let came1 : Passed ([]) c.args.counter.now.taken c.args.counter.now.taken = record { none = (c.in_ok-values.ensures c.args.counter.now.taken).0; count = (c.in_ok-values.ensures c.args.counter.now.taken).1 } in
    let last : Ran {X = Unit {0}} (recession_events (map (dense c.args.problem.now.cols) c.args.matrices.now.sides.rows) (dense c.args.problem.now.cols c.args.x.now)) c.args.counter.now.taken c.keeps_sides.new.counter.taken (λ _. ⊤) c.keeps_sides.result = record { runs = subst (λ (es : List Event). Runs {X = Unit {0}} is_held es c.args.counter.now.taken c.keeps_sides.new.counter.taken (λ _. ⊤) c.keeps_sides.result) (recession-as c.args.problem.now.cols c.as_slice-2.result.now (dense c.args.problem.now.cols c.args.x.now) c.as_slice.result.now c.args.matrices.now.sides.rows (c.as_slice-2.ensures.value ∙ (c.in_ok-values.ensures c.args.counter.now.taken).2) (length-dense c.args.problem.now.cols c.args.x.now) c.as_slice.ensures.items) c.keeps_sides.ensures } in
    subst (λ (es : List Event). Runs {X = Unit {0}} is_held es c.args.counter.now.taken c.keeps_sides.new.counter.taken (λ _. ⊤) c.keeps_sides.result) (sym (recession-matrices c.args.problem.now c.args.matrices.now c.args.x.now c.requires.matrices)) ((ran-after came0 (ran-after came1 last)).runs)
