use Rattle.std.proofs.Common.{rules, sym, subst, ap, arith, ◌∙◌, ◌+◌, ◌<◌, ℕ, List, [], ◌∷◌, ◌++◌, length, map}
use Rattle.std.specs.Prelude.{⊤}
use Rattle.exact_field.specs.Rational.{ℚ}
use Rattle.frac128.specs.Held.{is_held}
use Rattle.log_rules.specs.CutEvents.{farkas_events}
use Rattle.log_rules.specs.Events.{Event}
use Rattle.log_rules.specs.Runs.{Runs, Stops, steps}
use Rattle.log_rules.specs.VectorEvents.{places_within, values_positive}
use Rattle.upper_image.specs.Spots.{dense}
use Rattle.upper_image.proofs.Widths.{length-dense}
use Rattle.vlp_problem.specs.Sides.{sides, side_bounds}
use Rattle.entry_checks.specs.Parts.{contradiction_events, positive_events}
use Rattle.entry_checks.proofs.Going.{Passed, Stopped, stopped-in, stopped-later, Ran, ran-after, spots-within, room-in, room-after}
use Rattle.entry_checks.proofs.Going.{whole-run}
use Rattle.entry_checks.proofs.MatrixEvents.{contradiction-as, length-bounds, farkas-matrices, vectors-as}
use Rattle.entry_checks.proofs.StepBounds.{steps-farkas}
use Rattle.std.specs.Prelude.{Ok}
use Rattle.entry_checks.proofs.cut.check_farkas.Goals as goal

pub returns-in_err-places_within : goal.returns-in_err-places_within
returns-in_err-places_within c =
    let here : Stopped (places_within (length (sides c.args.problem.now)) c.args.u.now ∷ []) 0 c.in_err-places_within.field-0.0 = record { at = subst (λ (es : List Event). Stops is_held es 0 c.in_err-places_within.field-0.0) (ap (λ (n : ℕ). places_within n c.args.u.now ∷ []) (ap (λ (bs : List ℚ). length bs) c.as_slice-bounds.ensures.items ∙ length-bounds c.args.problem.now c.args.matrices.now c.requires.matrices)) (c.in_err-places_within.ensures 0) } in
    let stopped = subst (λ (es : List Event). Stops is_held es 0 c.in_err-places_within.field-0.0) (sym (farkas-matrices c.args.problem.now c.args.matrices.now c.args.u.now c.requires.matrices)) ((stopped-in ((values_positive c.args.u.now ∷ []) ++ (([]) ++ ((contradiction_events (map (dense (length (sides c.args.problem.now))) c.args.matrices.now.sides.columns) (dense (length (sides c.args.problem.now)) c.args.u.now)) ++ (positive_events (side_bounds c.args.problem.now) c.args.u.now)))) here).at) in
    search (stopped, rules)

pub returns-in_err-values_positive : goal.returns-in_err-values_positive
returns-in_err-values_positive c =
    let came0 : Passed (places_within (length (sides c.args.problem.now)) c.args.u.now ∷ []) 0 0 = record { none = (subst (λ (es : List Event). Runs {X = Unit {0}} is_held es 0 0 (λ _. ⊤) (Ok tt)) (ap (λ (n : ℕ). places_within n c.args.u.now ∷ []) (ap (λ (bs : List ℚ). length bs) c.as_slice-bounds.ensures.items ∙ length-bounds c.args.problem.now c.args.matrices.now c.requires.matrices)) ((c.in_ok-places_within.ensures 0).0, (c.in_ok-places_within.ensures 0).1, tt)).0; count = (subst (λ (es : List Event). Runs {X = Unit {0}} is_held es 0 0 (λ _. ⊤) (Ok tt)) (ap (λ (n : ℕ). places_within n c.args.u.now ∷ []) (ap (λ (bs : List ℚ). length bs) c.as_slice-bounds.ensures.items ∙ length-bounds c.args.problem.now c.args.matrices.now c.requires.matrices)) ((c.in_ok-places_within.ensures 0).0, (c.in_ok-places_within.ensures 0).1, tt)).1 } in
    let here : Stopped (values_positive c.args.u.now ∷ []) 0 c.in_err-values_positive.field-0.0 = record { at = c.in_err-values_positive.ensures 0 } in
    let stopped = subst (λ (es : List Event). Stops is_held es 0 c.in_err-values_positive.field-0.0) (sym (farkas-matrices c.args.problem.now c.args.matrices.now c.args.u.now c.requires.matrices)) ((stopped-later came0 (stopped-in (([]) ++ ((contradiction_events (map (dense (length (sides c.args.problem.now))) c.args.matrices.now.sides.columns) (dense (length (sides c.args.problem.now)) c.args.u.now)) ++ (positive_events (side_bounds c.args.problem.now) c.args.u.now))) here)).at) in
    search (stopped, rules)

pub spread-requires : goal.spread-requires
spread-requires c = record { sparse = c.requires.sparse; places = spots-within 0 (length c.as_slice-bounds.result.now) c.args.u.now (c.in_ok-places_within.ensures 0).0 }

pub returns-in_err-values : goal.returns-in_err-values
returns-in_err-values c =
    let came0 : Passed (places_within (length (sides c.args.problem.now)) c.args.u.now ∷ []) 0 0 = record { none = (subst (λ (es : List Event). Runs {X = Unit {0}} is_held es 0 0 (λ _. ⊤) (Ok tt)) (ap (λ (n : ℕ). places_within n c.args.u.now ∷ []) (ap (λ (bs : List ℚ). length bs) c.as_slice-bounds.ensures.items ∙ length-bounds c.args.problem.now c.args.matrices.now c.requires.matrices)) ((c.in_ok-places_within.ensures 0).0, (c.in_ok-places_within.ensures 0).1, tt)).0; count = (subst (λ (es : List Event). Runs {X = Unit {0}} is_held es 0 0 (λ _. ⊤) (Ok tt)) (ap (λ (n : ℕ). places_within n c.args.u.now ∷ []) (ap (λ (bs : List ℚ). length bs) c.as_slice-bounds.ensures.items ∙ length-bounds c.args.problem.now c.args.matrices.now c.requires.matrices)) ((c.in_ok-places_within.ensures 0).0, (c.in_ok-places_within.ensures 0).1, tt)).1 } in
    let came1 : Passed (values_positive c.args.u.now ∷ []) 0 0 = record { none = (c.in_ok-values_positive.ensures 0).0; count = (c.in_ok-values_positive.ensures 0).1 } in
    let here : Stopped ([]) 0 c.in_err-values.field-0.0 = record { at = c.in_err-values.ensures 0 } in
    let stopped = subst (λ (es : List Event). Stops is_held es 0 c.in_err-values.field-0.0) (sym (farkas-matrices c.args.problem.now c.args.matrices.now c.args.u.now c.requires.matrices)) ((stopped-later came0 (stopped-later came1 (stopped-in ((contradiction_events (map (dense (length (sides c.args.problem.now))) c.args.matrices.now.sides.columns) (dense (length (sides c.args.problem.now)) c.args.u.now)) ++ (positive_events (side_bounds c.args.problem.now) c.args.u.now)) here))).at) in
    search (stopped, rules)

pub all_vanish-requires-clause-sides : goal.all_vanish-requires-clause-sides
all_vanish-requires-clause-sides c = vectors-as (length (sides c.args.problem.now)) c.as_slice-2.result.now (dense (length (sides c.args.problem.now)) c.args.u.now) c.as_slice.result.now c.args.matrices.now.sides.columns (c.as_slice-2.ensures.value ∙ (c.in_ok-values.ensures 0).2 ∙ ap (λ (n : ℕ). dense n c.args.u.now) (ap (λ (bs : List ℚ). length bs) c.as_slice-bounds.ensures.items ∙ length-bounds c.args.problem.now c.args.matrices.now c.requires.matrices)) (length-dense (length (sides c.args.problem.now)) c.args.u.now) c.as_slice.ensures.items c.requires.matrices.side_columns.sparse

pub all_vanish-requires-clause-room : goal.all_vanish-requires-clause-room
all_vanish-requires-clause-room c =
    let room : 0 + steps (farkas_events c.args.problem.now c.args.u.now) < 9223372036854775808 = let few = steps-farkas c.args.problem.now c.args.u.now in omega (arith, few) in
    let came0 : Passed (places_within (length (sides c.args.problem.now)) c.args.u.now ∷ []) 0 0 = record { none = (subst (λ (es : List Event). Runs {X = Unit {0}} is_held es 0 0 (λ _. ⊤) (Ok tt)) (ap (λ (n : ℕ). places_within n c.args.u.now ∷ []) (ap (λ (bs : List ℚ). length bs) c.as_slice-bounds.ensures.items ∙ length-bounds c.args.problem.now c.args.matrices.now c.requires.matrices)) ((c.in_ok-places_within.ensures 0).0, (c.in_ok-places_within.ensures 0).1, tt)).0; count = (subst (λ (es : List Event). Runs {X = Unit {0}} is_held es 0 0 (λ _. ⊤) (Ok tt)) (ap (λ (n : ℕ). places_within n c.args.u.now ∷ []) (ap (λ (bs : List ℚ). length bs) c.as_slice-bounds.ensures.items ∙ length-bounds c.args.problem.now c.args.matrices.now c.requires.matrices)) ((c.in_ok-places_within.ensures 0).0, (c.in_ok-places_within.ensures 0).1, tt)).1 } in
    let came1 : Passed (values_positive c.args.u.now ∷ []) 0 0 = record { none = (c.in_ok-values_positive.ensures 0).0; count = (c.in_ok-values_positive.ensures 0).1 } in
    let came2 : Passed ([]) 0 0 = record { none = (c.in_ok-values.ensures 0).0; count = (c.in_ok-values.ensures 0).1 } in
    subst (λ (es : List Event). 0 + steps es < 9223372036854775808) (sym (contradiction-as (length (sides c.args.problem.now)) c.as_slice-2.result.now (dense (length (sides c.args.problem.now)) c.args.u.now) c.as_slice.result.now c.args.matrices.now.sides.columns (c.as_slice-2.ensures.value ∙ (c.in_ok-values.ensures 0).2 ∙ ap (λ (n : ℕ). dense n c.args.u.now) (ap (λ (bs : List ℚ). length bs) c.as_slice-bounds.ensures.items ∙ length-bounds c.args.problem.now c.args.matrices.now c.requires.matrices)) (length-dense (length (sides c.args.problem.now)) c.args.u.now) c.as_slice.ensures.items)) (room-in (contradiction_events (map (dense (length (sides c.args.problem.now))) c.args.matrices.now.sides.columns) (dense (length (sides c.args.problem.now)) c.args.u.now)) (positive_events (side_bounds c.args.problem.now) c.args.u.now) 0 _ (room-after ((contradiction_events (map (dense (length (sides c.args.problem.now))) c.args.matrices.now.sides.columns) (dense (length (sides c.args.problem.now)) c.args.u.now)) ++ (positive_events (side_bounds c.args.problem.now) c.args.u.now)) _ came2 (room-after (([]) ++ ((contradiction_events (map (dense (length (sides c.args.problem.now))) c.args.matrices.now.sides.columns) (dense (length (sides c.args.problem.now)) c.args.u.now)) ++ (positive_events (side_bounds c.args.problem.now) c.args.u.now))) _ came1 (room-after ((values_positive c.args.u.now ∷ []) ++ (([]) ++ ((contradiction_events (map (dense (length (sides c.args.problem.now))) c.args.matrices.now.sides.columns) (dense (length (sides c.args.problem.now)) c.args.u.now)) ++ (positive_events (side_bounds c.args.problem.now) c.args.u.now)))) _ came0 (subst (λ (es : List Event). 0 + steps es < 9223372036854775808) (farkas-matrices c.args.problem.now c.args.matrices.now c.args.u.now c.requires.matrices) room)))))

pub returns-in_err-all_vanish : goal.returns-in_err-all_vanish
returns-in_err-all_vanish c =
    let came0 : Passed (places_within (length (sides c.args.problem.now)) c.args.u.now ∷ []) 0 0 = record { none = (subst (λ (es : List Event). Runs {X = Unit {0}} is_held es 0 0 (λ _. ⊤) (Ok tt)) (ap (λ (n : ℕ). places_within n c.args.u.now ∷ []) (ap (λ (bs : List ℚ). length bs) c.as_slice-bounds.ensures.items ∙ length-bounds c.args.problem.now c.args.matrices.now c.requires.matrices)) ((c.in_ok-places_within.ensures 0).0, (c.in_ok-places_within.ensures 0).1, tt)).0; count = (subst (λ (es : List Event). Runs {X = Unit {0}} is_held es 0 0 (λ _. ⊤) (Ok tt)) (ap (λ (n : ℕ). places_within n c.args.u.now ∷ []) (ap (λ (bs : List ℚ). length bs) c.as_slice-bounds.ensures.items ∙ length-bounds c.args.problem.now c.args.matrices.now c.requires.matrices)) ((c.in_ok-places_within.ensures 0).0, (c.in_ok-places_within.ensures 0).1, tt)).1 } in
    let came1 : Passed (values_positive c.args.u.now ∷ []) 0 0 = record { none = (c.in_ok-values_positive.ensures 0).0; count = (c.in_ok-values_positive.ensures 0).1 } in
    let came2 : Passed ([]) 0 0 = record { none = (c.in_ok-values.ensures 0).0; count = (c.in_ok-values.ensures 0).1 } in
    let here : Stopped (contradiction_events (map (dense (length (sides c.args.problem.now))) c.args.matrices.now.sides.columns) (dense (length (sides c.args.problem.now)) c.args.u.now)) 0 c.in_err-all_vanish.field-0.0 = record { at = subst (λ (es : List Event). Stops is_held es 0 c.in_err-all_vanish.field-0.0) (contradiction-as (length (sides c.args.problem.now)) c.as_slice-2.result.now (dense (length (sides c.args.problem.now)) c.args.u.now) c.as_slice.result.now c.args.matrices.now.sides.columns (c.as_slice-2.ensures.value ∙ (c.in_ok-values.ensures 0).2 ∙ ap (λ (n : ℕ). dense n c.args.u.now) (ap (λ (bs : List ℚ). length bs) c.as_slice-bounds.ensures.items ∙ length-bounds c.args.problem.now c.args.matrices.now c.requires.matrices)) (length-dense (length (sides c.args.problem.now)) c.args.u.now) c.as_slice.ensures.items) c.in_err-all_vanish.ensures } in
    let stopped = subst (λ (es : List Event). Stops is_held es 0 c.in_err-all_vanish.field-0.0) (sym (farkas-matrices c.args.problem.now c.args.matrices.now c.args.u.now c.requires.matrices)) ((stopped-later came0 (stopped-later came1 (stopped-later came2 (stopped-in (positive_events (side_bounds c.args.problem.now) c.args.u.now) here)))).at) in
    search (stopped, rules)

pub has_positive_bound-requires-clause-vector : goal.has_positive_bound-requires-clause-vector
has_positive_bound-requires-clause-vector c = record { sparse = c.requires.sparse; places = spots-within 0 (length c.as_slice-bounds.result.now) c.args.u.now (c.in_ok-places_within.ensures 0).0 }

pub has_positive_bound-requires-clause-room : goal.has_positive_bound-requires-clause-room
has_positive_bound-requires-clause-room c =
    let room : 0 + steps (farkas_events c.args.problem.now c.args.u.now) < 9223372036854775808 = let few = steps-farkas c.args.problem.now c.args.u.now in omega (arith, few) in
    let came0 : Passed (places_within (length (sides c.args.problem.now)) c.args.u.now ∷ []) 0 0 = record { none = (subst (λ (es : List Event). Runs {X = Unit {0}} is_held es 0 0 (λ _. ⊤) (Ok tt)) (ap (λ (n : ℕ). places_within n c.args.u.now ∷ []) (ap (λ (bs : List ℚ). length bs) c.as_slice-bounds.ensures.items ∙ length-bounds c.args.problem.now c.args.matrices.now c.requires.matrices)) ((c.in_ok-places_within.ensures 0).0, (c.in_ok-places_within.ensures 0).1, tt)).0; count = (subst (λ (es : List Event). Runs {X = Unit {0}} is_held es 0 0 (λ _. ⊤) (Ok tt)) (ap (λ (n : ℕ). places_within n c.args.u.now ∷ []) (ap (λ (bs : List ℚ). length bs) c.as_slice-bounds.ensures.items ∙ length-bounds c.args.problem.now c.args.matrices.now c.requires.matrices)) ((c.in_ok-places_within.ensures 0).0, (c.in_ok-places_within.ensures 0).1, tt)).1 } in
    let came1 : Passed (values_positive c.args.u.now ∷ []) 0 0 = record { none = (c.in_ok-values_positive.ensures 0).0; count = (c.in_ok-values_positive.ensures 0).1 } in
    let came2 : Passed ([]) 0 0 = record { none = (c.in_ok-values.ensures 0).0; count = (c.in_ok-values.ensures 0).1 } in
    let came3 : Passed (contradiction_events (map (dense (length (sides c.args.problem.now))) c.args.matrices.now.sides.columns) (dense (length (sides c.args.problem.now)) c.args.u.now)) 0 c.all_vanish.new.counter.taken = record { none = (subst (λ (es : List Event). Runs {X = Unit {0}} is_held es 0 c.all_vanish.new.counter.taken (λ _. ⊤) (Ok tt)) (contradiction-as (length (sides c.args.problem.now)) c.as_slice-2.result.now (dense (length (sides c.args.problem.now)) c.args.u.now) c.as_slice.result.now c.args.matrices.now.sides.columns (c.as_slice-2.ensures.value ∙ (c.in_ok-values.ensures 0).2 ∙ ap (λ (n : ℕ). dense n c.args.u.now) (ap (λ (bs : List ℚ). length bs) c.as_slice-bounds.ensures.items ∙ length-bounds c.args.problem.now c.args.matrices.now c.requires.matrices)) (length-dense (length (sides c.args.problem.now)) c.args.u.now) c.as_slice.ensures.items) (c.in_ok-all_vanish.ensures.0, c.in_ok-all_vanish.ensures.1, tt)).0; count = (subst (λ (es : List Event). Runs {X = Unit {0}} is_held es 0 c.all_vanish.new.counter.taken (λ _. ⊤) (Ok tt)) (contradiction-as (length (sides c.args.problem.now)) c.as_slice-2.result.now (dense (length (sides c.args.problem.now)) c.args.u.now) c.as_slice.result.now c.args.matrices.now.sides.columns (c.as_slice-2.ensures.value ∙ (c.in_ok-values.ensures 0).2 ∙ ap (λ (n : ℕ). dense n c.args.u.now) (ap (λ (bs : List ℚ). length bs) c.as_slice-bounds.ensures.items ∙ length-bounds c.args.problem.now c.args.matrices.now c.requires.matrices)) (length-dense (length (sides c.args.problem.now)) c.args.u.now) c.as_slice.ensures.items) (c.in_ok-all_vanish.ensures.0, c.in_ok-all_vanish.ensures.1, tt)).1 } in
    subst (λ (bs : List ℚ). c.all_vanish.new.counter.taken + steps (positive_events bs c.args.u.now) < 9223372036854775808) (sym (c.as_slice-bounds.ensures.items ∙ c.requires.matrices.bounds)) ((room-after (positive_events (side_bounds c.args.problem.now) c.args.u.now) _ came3 (room-after ((contradiction_events (map (dense (length (sides c.args.problem.now))) c.args.matrices.now.sides.columns) (dense (length (sides c.args.problem.now)) c.args.u.now)) ++ (positive_events (side_bounds c.args.problem.now) c.args.u.now)) _ came2 (room-after (([]) ++ ((contradiction_events (map (dense (length (sides c.args.problem.now))) c.args.matrices.now.sides.columns) (dense (length (sides c.args.problem.now)) c.args.u.now)) ++ (positive_events (side_bounds c.args.problem.now) c.args.u.now))) _ came1 (room-after ((values_positive c.args.u.now ∷ []) ++ (([]) ++ ((contradiction_events (map (dense (length (sides c.args.problem.now))) c.args.matrices.now.sides.columns) (dense (length (sides c.args.problem.now)) c.args.u.now)) ++ (positive_events (side_bounds c.args.problem.now) c.args.u.now)))) _ came0 (subst (λ (es : List Event). 0 + steps es < 9223372036854775808) (farkas-matrices c.args.problem.now c.args.matrices.now c.args.u.now c.requires.matrices) room))))))

pub returns : goal.returns
returns c =
    let came0 : Passed (places_within (length (sides c.args.problem.now)) c.args.u.now ∷ []) 0 0 = record { none = (subst (λ (es : List Event). Runs {X = Unit {0}} is_held es 0 0 (λ _. ⊤) (Ok tt)) (ap (λ (n : ℕ). places_within n c.args.u.now ∷ []) (ap (λ (bs : List ℚ). length bs) c.as_slice-bounds.ensures.items ∙ length-bounds c.args.problem.now c.args.matrices.now c.requires.matrices)) ((c.in_ok-places_within.ensures 0).0, (c.in_ok-places_within.ensures 0).1, tt)).0; count = (subst (λ (es : List Event). Runs {X = Unit {0}} is_held es 0 0 (λ _. ⊤) (Ok tt)) (ap (λ (n : ℕ). places_within n c.args.u.now ∷ []) (ap (λ (bs : List ℚ). length bs) c.as_slice-bounds.ensures.items ∙ length-bounds c.args.problem.now c.args.matrices.now c.requires.matrices)) ((c.in_ok-places_within.ensures 0).0, (c.in_ok-places_within.ensures 0).1, tt)).1 } in
    let came1 : Passed (values_positive c.args.u.now ∷ []) 0 0 = record { none = (c.in_ok-values_positive.ensures 0).0; count = (c.in_ok-values_positive.ensures 0).1 } in
    let came2 : Passed ([]) 0 0 = record { none = (c.in_ok-values.ensures 0).0; count = (c.in_ok-values.ensures 0).1 } in
    let came3 : Passed (contradiction_events (map (dense (length (sides c.args.problem.now))) c.args.matrices.now.sides.columns) (dense (length (sides c.args.problem.now)) c.args.u.now)) 0 c.all_vanish.new.counter.taken = record { none = (subst (λ (es : List Event). Runs {X = Unit {0}} is_held es 0 c.all_vanish.new.counter.taken (λ _. ⊤) (Ok tt)) (contradiction-as (length (sides c.args.problem.now)) c.as_slice-2.result.now (dense (length (sides c.args.problem.now)) c.args.u.now) c.as_slice.result.now c.args.matrices.now.sides.columns (c.as_slice-2.ensures.value ∙ (c.in_ok-values.ensures 0).2 ∙ ap (λ (n : ℕ). dense n c.args.u.now) (ap (λ (bs : List ℚ). length bs) c.as_slice-bounds.ensures.items ∙ length-bounds c.args.problem.now c.args.matrices.now c.requires.matrices)) (length-dense (length (sides c.args.problem.now)) c.args.u.now) c.as_slice.ensures.items) (c.in_ok-all_vanish.ensures.0, c.in_ok-all_vanish.ensures.1, tt)).0; count = (subst (λ (es : List Event). Runs {X = Unit {0}} is_held es 0 c.all_vanish.new.counter.taken (λ _. ⊤) (Ok tt)) (contradiction-as (length (sides c.args.problem.now)) c.as_slice-2.result.now (dense (length (sides c.args.problem.now)) c.args.u.now) c.as_slice.result.now c.args.matrices.now.sides.columns (c.as_slice-2.ensures.value ∙ (c.in_ok-values.ensures 0).2 ∙ ap (λ (n : ℕ). dense n c.args.u.now) (ap (λ (bs : List ℚ). length bs) c.as_slice-bounds.ensures.items ∙ length-bounds c.args.problem.now c.args.matrices.now c.requires.matrices)) (length-dense (length (sides c.args.problem.now)) c.args.u.now) c.as_slice.ensures.items) (c.in_ok-all_vanish.ensures.0, c.in_ok-all_vanish.ensures.1, tt)).1 } in
    let last : Ran {X = Unit {0}} (positive_events (side_bounds c.args.problem.now) c.args.u.now) c.all_vanish.new.counter.taken c.has_positive_bound.new.counter.taken (λ _. ⊤) c.has_positive_bound.result = record { runs = subst (λ (bs : List ℚ). Runs {X = Unit {0}} is_held (positive_events bs c.args.u.now) c.all_vanish.new.counter.taken c.has_positive_bound.new.counter.taken (λ _. ⊤) c.has_positive_bound.result) (c.as_slice-bounds.ensures.items ∙ c.requires.matrices.bounds) c.has_positive_bound.ensures } in
    whole-run (farkas_events c.args.problem.now c.args.u.now) c.has_positive_bound.new.counter.taken (λ _. ⊤) c.has_positive_bound.result (subst (λ (es : List Event). Runs {X = Unit {0}} is_held es 0 c.has_positive_bound.new.counter.taken (λ _. ⊤) c.has_positive_bound.result) (sym (farkas-matrices c.args.problem.now c.args.matrices.now c.args.u.now c.requires.matrices)) ((ran-after came0 (ran-after came1 (ran-after came2 (ran-after came3 last)))).runs))
