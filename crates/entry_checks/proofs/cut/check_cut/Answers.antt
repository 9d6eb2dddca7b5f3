use Rattle.std.proofs.Common.{rules, sym, subst, ap, arith, refl, ◌∙◌, ◌≡◌, ◌+◌, ◌<◌, ℕ, List, [], ◌∷◌, ◌++◌, length, map, ◌==◌, IsTrue}
use Rattle.std.specs.Prelude.{⊤}
use Rattle.exact_field.specs.Rational.{ℚ}
use Rattle.frac128.specs.Held.{is_held}
use Rattle.frac128.specs.declared.vectors.Spot.{Spot}
use Rattle.log_rules.specs.CutEvents.{cut_events}
use Rattle.log_rules.specs.Events.{Event}
use Rattle.log_rules.specs.VectorEvents.{places_within, values_positive, in_cone}
use Rattle.log_rules.specs.Events.Event.{test}
use Rattle.log_rules.specs.Runs.{Runs, Stops, steps}
use Rattle.log_rules.specs.declared.rule.Rule.TheVariants as rule
use Rattle.upper_image.specs.Spots.{dense}
use Rattle.upper_image.specs.OrderingCone.{dual_of}
use Rattle.upper_image.proofs.Widths.{length-dense}
use Rattle.vlp_problem.specs.Sides.{sides, side_bounds}
use Rattle.entry_checks.specs.Parts.{balances_events, bound_events, scaled_events}
use Rattle.entry_checks.proofs.Going.{Passed, Stopped, stopped-in, stopped-later, Ran, ran-after, spots-within, room-in, room-after}
use Rattle.entry_checks.proofs.Going.{whole-run}
use Rattle.entry_checks.proofs.MatrixEvents.{balances-as, columns-columns, length-bounds, cut-matrices, vectors-as}
use Rattle.std.specs.Prelude.{Ok}
use Rattle.vlp_problem.specs.Cones.{cone_fits}
use Rattle.deriv_log.specs.declared.entry.Entry.{Entry}
use Rattle.deriv_log.specs.declared.entry.Entry.TheVariants as entry
use Rattle.log_rules.specs.Live.{duality_vector}
use Rattle.entry_checks.proofs.Going.{length-tested}
use Rattle.entry_checks.proofs.StepBounds.{steps-cut}
use Rattle.entry_checks.proofs.cut.check_cut.Goals as goal

pub returns-in_err-pass : goal.returns-in_err-pass
returns-in_err-pass c = λ before given.
    let here : Stopped (test rule.Length (length c.args.w.now == c.args.problem.now.objs) ∷ []) 0 c.in_err-pass.field-0.0 = record { at = c.in_err-pass.ensures 0 } in
    let stopped = subst (λ (es : List Event). Stops is_held es 0 c.in_err-pass.field-0.0) (sym (cut-matrices c.args.problem.now c.args.matrices.now before c.args.c.now c.args.w.now c.args.gamma c.args.u.now c.args.v.now c.requires.matrices given)) ((stopped-in ((places_within (length (sides c.args.problem.now)) c.args.u.now ∷ []) ++ ((values_positive c.args.u.now ∷ []) ++ (([]) ++ ((balances_events (map (dense (length (sides c.args.problem.now))) c.args.matrices.now.sides.columns) (map (dense c.args.problem.now.objs) c.args.matrices.now.objectives.columns) (dense (length (sides c.args.problem.now)) c.args.u.now) c.args.w.now) ++ ((in_cone (dual_of c.args.problem.now.cone) c.args.w.now c.args.v.now) ++ ((scaled_events c.args.w.now c.args.c.now) ++ (bound_events (side_bounds c.args.problem.now) c.args.u.now c.args.gamma))))))) here).at) in
    search (stopped, rules)

pub returns-in_err-places_within : goal.returns-in_err-places_within
returns-in_err-places_within c = λ before given.
    let came0 : Passed (test rule.Length (length c.args.w.now == c.args.problem.now.objs) ∷ []) 0 0 = record { none = (c.in_ok-pass.ensures 0).0; count = (c.in_ok-pass.ensures 0).1 } in
    let here : Stopped (places_within (length (sides c.args.problem.now)) c.args.u.now ∷ []) 0 c.in_err-places_within.field-0.0 = record { at = subst (λ (es : List Event). Stops is_held es 0 c.in_err-places_within.field-0.0) (ap (λ (n : ℕ). places_within n c.args.u.now ∷ []) (ap (λ (bs : List ℚ). length bs) c.as_slice-bounds.ensures.items ∙ length-bounds c.args.problem.now c.args.matrices.now c.requires.matrices)) (c.in_err-places_within.ensures 0) } in
    let stopped = subst (λ (es : List Event). Stops is_held es 0 c.in_err-places_within.field-0.0) (sym (cut-matrices c.args.problem.now c.args.matrices.now before c.args.c.now c.args.w.now c.args.gamma c.args.u.now c.args.v.now c.requires.matrices given)) ((stopped-later came0 (stopped-in ((values_positive c.args.u.now ∷ []) ++ (([]) ++ ((balances_events (map (dense (length (sides c.args.problem.now))) c.args.matrices.now.sides.columns) (map (dense c.args.problem.now.objs) c.args.matrices.now.objectives.columns) (dense (length (sides c.args.problem.now)) c.args.u.now) c.args.w.now) ++ ((in_cone (dual_of c.args.problem.now.cone) c.args.w.now c.args.v.now) ++ ((scaled_events c.args.w.now c.args.c.now) ++ (bound_events (side_bounds c.args.problem.now) c.args.u.now c.args.gamma)))))) here)).at) in
    search (stopped, rules)

pub returns-in_err-values_positive : goal.returns-in_err-values_positive
returns-in_err-values_positive c = λ before given.
    let came0 : Passed (test rule.Length (length c.args.w.now == c.args.problem.now.objs) ∷ []) 0 0 = record { none = (c.in_ok-pass.ensures 0).0; count = (c.in_ok-pass.ensures 0).1 } in
    let came1 : Passed (places_within (length (sides c.args.problem.now)) c.args.u.now ∷ []) 0 0 = record { none = (subst (λ (es : List Event). Runs {X = Unit {0}} is_held es 0 0 (λ _. ⊤) (Ok tt)) (ap (λ (n : ℕ). places_within n c.args.u.now ∷ []) (ap (λ (bs : List ℚ). length bs) c.as_slice-bounds.ensures.items ∙ length-bounds c.args.problem.now c.args.matrices.now c.requires.matrices)) ((c.in_ok-places_within.ensures 0).0, (c.in_ok-places_within.ensures 0).1, tt)).0; count = (subst (λ (es : List Event). Runs {X = Unit {0}} is_held es 0 0 (λ _. ⊤) (Ok tt)) (ap (λ (n : ℕ). places_within n c.args.u.now ∷ []) (ap (λ (bs : List ℚ). length bs) c.as_slice-bounds.ensures.items ∙ length-bounds c.args.problem.now c.args.matrices.now c.requires.matrices)) ((c.in_ok-places_within.ensures 0).0, (c.in_ok-places_within.ensures 0).1, tt)).1 } in
    let here : Stopped (values_positive c.args.u.now ∷ []) 0 c.in_err-values_positive.field-0.0 = record { at = c.in_err-values_positive.ensures 0 } in
    let stopped = subst (λ (es : List Event). Stops is_held es 0 c.in_err-values_positive.field-0.0) (sym (cut-matrices c.args.problem.now c.args.matrices.now before c.args.c.now c.args.w.now c.args.gamma c.args.u.now c.args.v.now c.requires.matrices given)) ((stopped-later came0 (stopped-later came1 (stopped-in (([]) ++ ((balances_events (map (dense (length (sides c.args.problem.now))) c.args.matrices.now.sides.columns) (map (dense c.args.problem.now.objs) c.args.matrices.now.objectives.columns) (dense (length (sides c.args.problem.now)) c.args.u.now) c.args.w.now) ++ ((in_cone (dual_of c.args.problem.now.cone) c.args.w.now c.args.v.now) ++ ((scaled_events c.args.w.now c.args.c.now) ++ (bound_events (side_bounds c.args.problem.now) c.args.u.now c.args.gamma))))) here))).at) in
    search (stopped, rules)

pub spread-requires : goal.spread-requires
spread-requires c = record { sparse = c.requires.multipliers; places = spots-within 0 (length c.as_slice-bounds.result.now) c.args.u.now (c.in_ok-places_within.ensures 0).0 }

pub returns-in_err-values : goal.returns-in_err-values
returns-in_err-values c = λ before given.
    let came0 : Passed (test rule.Length (length c.args.w.now == c.args.problem.now.objs) ∷ []) 0 0 = record { none = (c.in_ok-pass.ensures 0).0; count = (c.in_ok-pass.ensures 0).1 } in
    let came1 : Passed (places_within (length (sides c.args.problem.now)) c.args.u.now ∷ []) 0 0 = record { none = (subst (λ (es : List Event). Runs {X = Unit {0}} is_held es 0 0 (λ _. ⊤) (Ok tt)) (ap (λ (n : ℕ). places_within n c.args.u.now ∷ []) (ap (λ (bs : List ℚ). length bs) c.as_slice-bounds.ensures.items ∙ length-bounds c.args.problem.now c.args.matrices.now c.requires.matrices)) ((c.in_ok-places_within.ensures 0).0, (c.in_ok-places_within.ensures 0).1, tt)).0; count = (subst (λ (es : List Event). Runs {X = Unit {0}} is_held es 0 0 (λ _. ⊤) (Ok tt)) (ap (λ (n : ℕ). places_within n c.args.u.now ∷ []) (ap (λ (bs : List ℚ). length bs) c.as_slice-bounds.ensures.items ∙ length-bounds c.args.problem.now c.args.matrices.now c.requires.matrices)) ((c.in_ok-places_within.ensures 0).0, (c.in_ok-places_within.ensures 0).1, tt)).1 } in
    let came2 : Passed (values_positive c.args.u.now ∷ []) 0 0 = record { none = (c.in_ok-values_positive.ensures 0).0; count = (c.in_ok-values_positive.ensures 0).1 } in
    let here : Stopped ([]) 0 c.in_err-values.field-0.0 = record { at = c.in_err-values.ensures 0 } in
    let stopped = subst (λ (es : List Event). Stops is_held es 0 c.in_err-values.field-0.0) (sym (cut-matrices c.args.problem.now c.args.matrices.now before c.args.c.now c.args.w.now c.args.gamma c.args.u.now c.args.v.now c.requires.matrices given)) ((stopped-later came0 (stopped-later came1 (stopped-later came2 (stopped-in ((balances_events (map (dense (length (sides c.args.problem.now))) c.args.matrices.now.sides.columns) (map (dense c.args.problem.now.objs) c.args.matrices.now.objectives.columns) (dense (length (sides c.args.problem.now)) c.args.u.now) c.args.w.now) ++ ((in_cone (dual_of c.args.problem.now.cone) c.args.w.now c.args.v.now) ++ ((scaled_events c.args.w.now c.args.c.now) ++ (bound_events (side_bounds c.args.problem.now) c.args.u.now c.args.gamma)))) here)))).at) in
    search (stopped, rules)

pub are_balanced-requires-clause-columns : goal.are_balanced-requires-clause-columns
are_balanced-requires-clause-columns c = ap (λ (us : List (List Spot)). length us) c.as_slice-columns.ensures.items ∙ columns-columns c.args.problem.now c.args.matrices.now c.requires.matrices ∙ ap (λ (us : List (List Spot)). length us) (sym c.as_slice-objectives.ensures.items)

pub are_balanced-requires-clause-sides : goal.are_balanced-requires-clause-sides
are_balanced-requires-clause-sides c = vectors-as (length (sides c.args.problem.now)) c.as_slice.result.now (dense (length (sides c.args.problem.now)) c.args.u.now) c.as_slice-columns.result.now c.args.matrices.now.sides.columns (c.as_slice.ensures.value ∙ (c.in_ok-values.ensures 0).2 ∙ ap (λ (n : ℕ). dense n c.args.u.now) (ap (λ (bs : List ℚ). length bs) c.as_slice-bounds.ensures.items ∙ length-bounds c.args.problem.now c.args.matrices.now c.requires.matrices)) (length-dense (length (sides c.args.problem.now)) c.args.u.now) c.as_slice-columns.ensures.items c.requires.matrices.side_columns.sparse

pub are_balanced-requires-clause-objectives : goal.are_balanced-requires-clause-objectives
are_balanced-requires-clause-objectives c = vectors-as c.args.problem.now.objs c.args.w.now c.args.w.now c.as_slice-objectives.result.now c.args.matrices.now.objectives.columns refl (length-tested (length c.args.w.now) c.args.problem.now.objs (c.in_ok-pass.ensures 0).0) c.as_slice-objectives.ensures.items c.requires.matrices.objective_columns.sparse

pub are_balanced-requires-clause-room : goal.are_balanced-requires-clause-room
are_balanced-requires-clause-room c =
    let before : List Entry = (entry.Duality c.args.c.now [] [] [] ∷ []) in
    let given : duality_vector before ≡ c.args.c.now = refl in
    let room : 0 + steps (cut_events c.args.problem.now before c.args.w.now c.args.gamma c.args.u.now c.args.v.now) < 9223372036854775808 = let wide = (length-tested (length c.args.w.now) c.args.problem.now.objs (c.in_ok-pass.ensures 0).0) in let objs = c.args.problem.now.objs_bounded in let few = steps-cut c.args.problem.now before c.args.w.now c.args.gamma c.args.u.now c.args.v.now (omega (arith, wide, objs)) in omega (arith, few) in
    let came0 : Passed (test rule.Length (length c.args.w.now == c.args.problem.now.objs) ∷ []) 0 0 = record { none = (c.in_ok-pass.ensures 0).0; count = (c.in_ok-pass.ensures 0).1 } in
    let came1 : Passed (places_within (length (sides c.args.problem.now)) c.args.u.now ∷ []) 0 0 = record { none = (subst (λ (es : List Event). Runs {X = Unit {0}} is_held es 0 0 (λ _. ⊤) (Ok tt)) (ap (λ (n : ℕ). places_within n c.args.u.now ∷ []) (ap (λ (bs : List ℚ). length bs) c.as_slice-bounds.ensures.items ∙ length-bounds c.args.problem.now c.args.matrices.now c.requires.matrices)) ((c.in_ok-places_within.ensures 0).0, (c.in_ok-places_within.ensures 0).1, tt)).0; count = (subst (λ (es : List Event). Runs {X = Unit {0}} is_held es 0 0 (λ _. ⊤) (Ok tt)) (ap (λ (n : ℕ). places_within n c.args.u.now ∷ []) (ap (λ (bs : List ℚ). length bs) c.as_slice-bounds.ensures.items ∙ length-bounds c.args.problem.now c.args.matrices.now c.requires.matrices)) ((c.in_ok-places_within.ensures 0).0, (c.in_ok-places_within.ensures 0).1, tt)).1 } in
    let came2 : Passed (values_positive c.args.u.now ∷ []) 0 0 = record { none = (c.in_ok-values_positive.ensures 0).0; count = (c.in_ok-values_positive.ensures 0).1 } in
    let came3 : Passed ([]) 0 0 = record { none = (c.in_ok-values.ensures 0).0; count = (c.in_ok-values.ensures 0).1 } in
    subst (λ (es : List Event). 0 + steps es < 9223372036854775808) (sym (balances-as (length (sides c.args.problem.now)) c.args.problem.now.objs c.as_slice.result.now (dense (length (sides c.args.problem.now)) c.args.u.now) c.args.w.now c.as_slice-columns.result.now c.args.matrices.now.sides.columns c.as_slice-objectives.result.now c.args.matrices.now.objectives.columns (c.as_slice.ensures.value ∙ (c.in_ok-values.ensures 0).2 ∙ ap (λ (n : ℕ). dense n c.args.u.now) (ap (λ (bs : List ℚ). length bs) c.as_slice-bounds.ensures.items ∙ length-bounds c.args.problem.now c.args.matrices.now c.requires.matrices)) (length-dense (length (sides c.args.problem.now)) c.args.u.now) (length-tested (length c.args.w.now) c.args.problem.now.objs (c.in_ok-pass.ensures 0).0) c.as_slice-columns.ensures.items c.as_slice-objectives.ensures.items)) (room-in (balances_events (map (dense (length (sides c.args.problem.now))) c.args.matrices.now.sides.columns) (map (dense c.args.problem.now.objs) c.args.matrices.now.objectives.columns) (dense (length (sides c.args.problem.now)) c.args.u.now) c.args.w.now) ((in_cone (dual_of c.args.problem.now.cone) c.args.w.now c.args.v.now) ++ ((scaled_events c.args.w.now c.args.c.now) ++ (bound_events (side_bounds c.args.problem.now) c.args.u.now c.args.gamma))) 0 _ (room-after ((balances_events (map (dense (length (sides c.args.problem.now))) c.args.matrices.now.sides.columns) (map (dense c.args.problem.now.objs) c.args.matrices.now.objectives.columns) (dense (length (sides c.args.problem.now)) c.args.u.now) c.args.w.now) ++ ((in_cone (dual_of c.args.problem.now.cone) c.args.w.now c.args.v.now) ++ ((scaled_events c.args.w.now c.args.c.now) ++ (bound_events (side_bounds c.args.problem.now) c.args.u.now c.args.gamma)))) _ came3 (room-after (([]) ++ ((balances_events (map (dense (length (sides c.args.problem.now))) c.args.matrices.now.sides.columns) (map (dense c.args.problem.now.objs) c.args.matrices.now.objectives.columns) (dense (length (sides c.args.problem.now)) c.args.u.now) c.args.w.now) ++ ((in_cone (dual_of c.args.problem.now.cone) c.args.w.now c.args.v.now) ++ ((scaled_events c.args.w.now c.args.c.now) ++ (bound_events (side_bounds c.args.problem.now) c.args.u.now c.args.gamma))))) _ came2 (room-after ((values_positive c.args.u.now ∷ []) ++ (([]) ++ ((balances_events (map (dense (length (sides c.args.problem.now))) c.args.matrices.now.sides.columns) (map (dense c.args.problem.now.objs) c.args.matrices.now.objectives.columns) (dense (length (sides c.args.problem.now)) c.args.u.now) c.args.w.now) ++ ((in_cone (dual_of c.args.problem.now.cone) c.args.w.now c.args.v.now) ++ ((scaled_events c.args.w.now c.args.c.now) ++ (bound_events (side_bounds c.args.problem.now) c.args.u.now c.args.gamma)))))) _ came1 (room-after ((places_within (length (sides c.args.problem.now)) c.args.u.now ∷ []) ++ ((values_positive c.args.u.now ∷ []) ++ (([]) ++ ((balances_events (map (dense (length (sides c.args.problem.now))) c.args.matrices.now.sides.columns) (map (dense c.args.problem.now.objs) c.args.matrices.now.objectives.columns) (dense (length (sides c.args.problem.now)) c.args.u.now) c.args.w.now) ++ ((in_cone (dual_of c.args.problem.now.cone) c.args.w.now c.args.v.now) ++ ((scaled_events c.args.w.now c.args.c.now) ++ (bound_events (side_bounds c.args.problem.now) c.args.u.now c.args.gamma))))))) _ came0 (subst (λ (es : List Event). 0 + steps es < 9223372036854775808) (cut-matrices c.args.problem.now c.args.matrices.now before c.args.c.now c.args.w.now c.args.gamma c.args.u.now c.args.v.now c.requires.matrices given) room))))))

pub returns-in_err-are_balanced : goal.returns-in_err-are_balanced
returns-in_err-are_balanced c = λ before given.
    let came0 : Passed (test rule.Length (length c.args.w.now == c.args.problem.now.objs) ∷ []) 0 0 = record { none = (c.in_ok-pass.ensures 0).0; count = (c.in_ok-pass.ensures 0).1 } in
    let came1 : Passed (places_within (length (sides c.args.problem.now)) c.args.u.now ∷ []) 0 0 = record { none = (subst (λ (es : List Event). Runs {X = Unit {0}} is_held es 0 0 (λ _. ⊤) (Ok tt)) (ap (λ (n : ℕ). places_within n c.args.u.now ∷ []) (ap (λ (bs : List ℚ). length bs) c.as_slice-bounds.ensures.items ∙ length-bounds c.args.problem.now c.args.matrices.now c.requires.matrices)) ((c.in_ok-places_within.ensures 0).0, (c.in_ok-places_within.ensures 0).1, tt)).0; count = (subst (λ (es : List Event). Runs {X = Unit {0}} is_held es 0 0 (λ _. ⊤) (Ok tt)) (ap (λ (n : ℕ). places_within n c.args.u.now ∷ []) (ap (λ (bs : List ℚ). length bs) c.as_slice-bounds.ensures.items ∙ length-bounds c.args.problem.now c.args.matrices.now c.requires.matrices)) ((c.in_ok-places_within.ensures 0).0, (c.in_ok-places_within.ensures 0).1, tt)).1 } in
    let came2 : Passed (values_positive c.args.u.now ∷ []) 0 0 = record { none = (c.in_ok-values_positive.ensures 0).0; count = (c.in_ok-values_positive.ensures 0).1 } in
    let came3 : Passed ([]) 0 0 = record { none = (c.in_ok-values.ensures 0).0; count = (c.in_ok-values.ensures 0).1 } in
    let here : Stopped (balances_events (map (dense (length (sides c.args.problem.now))) c.args.matrices.now.sides.columns) (map (dense c.args.problem.now.objs) c.args.matrices.now.objectives.columns) (dense (length (sides c.args.problem.now)) c.args.u.now) c.args.w.now) 0 c.in_err-are_balanced.field-0.0 = record { at = subst (λ (es : List Event). Stops is_held es 0 c.in_err-are_balanced.field-0.0) (balances-as (length (sides c.args.problem.now)) c.args.problem.now.objs c.as_slice.result.now (dense (length (sides c.args.problem.now)) c.args.u.now) c.args.w.now c.as_slice-columns.result.now c.args.matrices.now.sides.columns c.as_slice-objectives.result.now c.args.matrices.now.objectives.columns (c.as_slice.ensures.value ∙ (c.in_ok-values.ensures 0).2 ∙ ap (λ (n : ℕ). dense n c.args.u.now) (ap (λ (bs : List ℚ). length bs) c.as_slice-bounds.ensures.items ∙ length-bounds c.args.problem.now c.args.matrices.now c.requires.matrices)) (length-dense (length (sides c.args.problem.now)) c.args.u.now) (length-tested (length c.args.w.now) c.args.problem.now.objs (c.in_ok-pass.ensures 0).0) c.as_slice-columns.ensures.items c.as_slice-objectives.ensures.items) c.in_err-are_balanced.ensures } in
    let stopped = subst (λ (es : List Event). Stops is_held es 0 c.in_err-are_balanced.field-0.0) (sym (cut-matrices c.args.problem.now c.args.matrices.now before c.args.c.now c.args.w.now c.args.gamma c.args.u.now c.args.v.now c.requires.matrices given)) ((stopped-later came0 (stopped-later came1 (stopped-later came2 (stopped-later came3 (stopped-in ((in_cone (dual_of c.args.problem.now.cone) c.args.w.now c.args.v.now) ++ ((scaled_events c.args.w.now c.args.c.now) ++ (bound_events (side_bounds c.args.problem.now) c.args.u.now c.args.gamma))) here))))).at) in
    search (stopped, rules)

pub in_dual_cone-requires-clause-fits : goal.in_dual_cone-requires-clause-fits
in_dual_cone-requires-clause-fits c = subst (λ (k : ℕ). IsTrue (cone_fits k c.args.problem.now.cone)) (sym (length-tested (length c.args.w.now) c.args.problem.now.objs (c.in_ok-pass.ensures 0).0)) c.args.problem.now.cone_vectors

pub in_dual_cone-requires-clause-room : goal.in_dual_cone-requires-clause-room
in_dual_cone-requires-clause-room c =
    let before : List Entry = (entry.Duality c.args.c.now [] [] [] ∷ []) in
    let given : duality_vector before ≡ c.args.c.now = refl in
    let room : 0 + steps (cut_events c.args.problem.now before c.args.w.now c.args.gamma c.args.u.now c.args.v.now) < 9223372036854775808 = let wide = (length-tested (length c.args.w.now) c.args.problem.now.objs (c.in_ok-pass.ensures 0).0) in let objs = c.args.problem.now.objs_bounded in let few = steps-cut c.args.problem.now before c.args.w.now c.args.gamma c.args.u.now c.args.v.now (omega (arith, wide, objs)) in omega (arith, few) in
    let came0 : Passed (test rule.Length (length c.args.w.now == c.args.problem.now.objs) ∷ []) 0 0 = record { none = (c.in_ok-pass.ensures 0).0; count = (c.in_ok-pass.ensures 0).1 } in
    let came1 : Passed (places_within (length (sides c.args.problem.now)) c.args.u.now ∷ []) 0 0 = record { none = (subst (λ (es : List Event). Runs {X = Unit {0}} is_held es 0 0 (λ _. ⊤) (Ok tt)) (ap (λ (n : ℕ). places_within n c.args.u.now ∷ []) (ap (λ (bs : List ℚ). length bs) c.as_slice-bounds.ensures.items ∙ length-bounds c.args.problem.now c.args.matrices.now c.requires.matrices)) ((c.in_ok-places_within.ensures 0).0, (c.in_ok-places_within.ensures 0).1, tt)).0; count = (subst (λ (es : List Event). Runs {X = Unit {0}} is_held es 0 0 (λ _. ⊤) (Ok tt)) (ap (λ (n : ℕ). places_within n c.args.u.now ∷ []) (ap (λ (bs : List ℚ). length bs) c.as_slice-bounds.ensures.items ∙ length-bounds c.args.problem.now c.args.matrices.now c.requires.matrices)) ((c.in_ok-places_within.ensures 0).0, (c.in_ok-places_within.ensures 0).1, tt)).1 } in
    let came2 : Passed (values_positive c.args.u.now ∷ []) 0 0 = record { none = (c.in_ok-values_positive.ensures 0).0; count = (c.in_ok-values_positive.ensures 0).1 } in
    let came3 : Passed ([]) 0 0 = record { none = (c.in_ok-values.ensures 0).0; count = (c.in_ok-values.ensures 0).1 } in
    let came4 : Passed (balances_events (map (dense (length (sides c.args.problem.now))) c.args.matrices.now.sides.columns) (map (dense c.args.problem.now.objs) c.args.matrices.now.objectives.columns) (dense (length (sides c.args.problem.now)) c.args.u.now) c.args.w.now) 0 c.are_balanced.new.counter.taken = record { none = (subst (λ (es : List Event). Runs {X = Unit {0}} is_held es 0 c.are_balanced.new.counter.taken (λ _. ⊤) (Ok tt)) (balances-as (length (sides c.args.problem.now)) c.args.problem.now.objs c.as_slice.result.now (dense (length (sides c.args.problem.now)) c.args.u.now) c.args.w.now c.as_slice-columns.result.now c.args.matrices.now.sides.columns c.as_slice-objectives.result.now c.args.matrices.now.objectives.columns (c.as_slice.ensures.value ∙ (c.in_ok-values.ensures 0).2 ∙ ap (λ (n : ℕ). dense n c.args.u.now) (ap (λ (bs : List ℚ). length bs) c.as_slice-bounds.ensures.items ∙ length-bounds c.args.problem.now c.args.matrices.now c.requires.matrices)) (length-dense (length (sides c.args.problem.now)) c.args.u.now) (length-tested (length c.args.w.now) c.args.problem.now.objs (c.in_ok-pass.ensures 0).0) c.as_slice-columns.ensures.items c.as_slice-objectives.ensures.items) (c.in_ok-are_balanced.ensures.0, c.in_ok-are_balanced.ensures.1, tt)).0; count = (subst (λ (es : List Event). Runs {X = Unit {0}} is_held es 0 c.are_balanced.new.counter.taken (λ _. ⊤) (Ok tt)) (balances-as (length (sides c.args.problem.now)) c.args.problem.now.objs c.as_slice.result.now (dense (length (sides c.args.problem.now)) c.args.u.now) c.args.w.now c.as_slice-columns.result.now c.args.matrices.now.sides.columns c.as_slice-objectives.result.now c.args.matrices.now.objectives.columns (c.as_slice.ensures.value ∙ (c.in_ok-values.ensures 0).2 ∙ ap (λ (n : ℕ). dense n c.args.u.now) (ap (λ (bs : List ℚ). length bs) c.as_slice-bounds.ensures.items ∙ length-bounds c.args.problem.now c.args.matrices.now c.requires.matrices)) (length-dense (length (sides c.args.problem.now)) c.args.u.now) (length-tested (length c.args.w.now) c.args.problem.now.objs (c.in_ok-pass.ensures 0).0) c.as_slice-columns.ensures.items c.as_slice-objectives.ensures.items) (c.in_ok-are_balanced.ensures.0, c.in_ok-are_balanced.ensures.1, tt)).1 } in
    room-in (in_cone (dual_of c.args.problem.now.cone) c.args.w.now c.args.v.now) ((scaled_events c.args.w.now c.args.c.now) ++ (bound_events (side_bounds c.args.problem.now) c.args.u.now c.args.gamma)) c.are_balanced.new.counter.taken _ (room-after ((in_cone (dual_of c.args.problem.now.cone) c.args.w.now c.args.v.now) ++ ((scaled_events c.args.w.now c.args.c.now) ++ (bound_events (side_bounds c.args.problem.now) c.args.u.now c.args.gamma))) _ came4 (room-after ((balances_events (map (dense (length (sides c.args.problem.now))) c.args.matrices.now.sides.columns) (map (dense c.args.problem.now.objs) c.args.matrices.now.objectives.columns) (dense (length (sides c.args.problem.now)) c.args.u.now) c.args.w.now) ++ ((in_cone (dual_of c.args.problem.now.cone) c.args.w.now c.args.v.now) ++ ((scaled_events c.args.w.now c.args.c.now) ++ (bound_events (side_bounds c.args.problem.now) c.args.u.now c.args.gamma)))) _ came3 (room-after (([]) ++ ((balances_events (map (dense (length (sides c.args.problem.now))) c.args.matrices.now.sides.columns) (map (dense c.args.problem.now.objs) c.args.matrices.now.objectives.columns) (dense (length (sides c.args.problem.now)) c.args.u.now) c.args.w.now) ++ ((in_cone (dual_of c.args.problem.now.cone) c.args.w.now c.args.v.now) ++ ((scaled_events c.args.w.now c.args.c.now) ++ (bound_events (side_bounds c.args.problem.now) c.args.u.now c.args.gamma))))) _ came2 (room-after ((values_positive c.args.u.now ∷ []) ++ (([]) ++ ((balances_events (map (dense (length (sides c.args.problem.now))) c.args.matrices.now.sides.columns) (map (dense c.args.problem.now.objs) c.args.matrices.now.objectives.columns) (dense (length (sides c.args.problem.now)) c.args.u.now) c.args.w.now) ++ ((in_cone (dual_of c.args.problem.now.cone) c.args.w.now c.args.v.now) ++ ((scaled_events c.args.w.now c.args.c.now) ++ (bound_events (side_bounds c.args.problem.now) c.args.u.now c.args.gamma)))))) _ came1 (room-after ((places_within (length (sides c.args.problem.now)) c.args.u.now ∷ []) ++ ((values_positive c.args.u.now ∷ []) ++ (([]) ++ ((balances_events (map (dense (length (sides c.args.problem.now))) c.args.matrices.now.sides.columns) (map (dense c.args.problem.now.objs) c.args.matrices.now.objectives.columns) (dense (length (sides c.args.problem.now)) c.args.u.now) c.args.w.now) ++ ((in_cone (dual_of c.args.problem.now.cone) c.args.w.now c.args.v.now) ++ ((scaled_events c.args.w.now c.args.c.now) ++ (bound_events (side_bounds c.args.problem.now) c.args.u.now c.args.gamma))))))) _ came0 (subst (λ (es : List Event). 0 + steps es < 9223372036854775808) (cut-matrices c.args.problem.now c.args.matrices.now before c.args.c.now c.args.w.now c.args.gamma c.args.u.now c.args.v.now c.requires.matrices given) room))))))

pub returns-in_err-in_dual_cone : goal.returns-in_err-in_dual_cone
returns-in_err-in_dual_cone c = λ before given.
    let came0 : Passed (test rule.Length (length c.args.w.now == c.args.problem.now.objs) ∷ []) 0 0 = record { none = (c.in_ok-pass.ensures 0).0; count = (c.in_ok-pass.ensures 0).1 } in
    let came1 : Passed (places_within (length (sides c.args.problem.now)) c.args.u.now ∷ []) 0 0 = record { none = (subst (λ (es : List Event). Runs {X = Unit {0}} is_held es 0 0 (λ _. ⊤) (Ok tt)) (ap (λ (n : ℕ). places_within n c.args.u.now ∷ []) (ap (λ (bs : List ℚ). length bs) c.as_slice-bounds.ensures.items ∙ length-bounds c.args.problem.now c.args.matrices.now c.requires.matrices)) ((c.in_ok-places_within.ensures 0).0, (c.in_ok-places_within.ensures 0).1, tt)).0; count = (subst (λ (es : List Event). Runs {X = Unit {0}} is_held es 0 0 (λ _. ⊤) (Ok tt)) (ap (λ (n : ℕ). places_within n c.args.u.now ∷ []) (ap (λ (bs : List ℚ). length bs) c.as_slice-bounds.ensures.items ∙ length-bounds c.args.problem.now c.args.matrices.now c.requires.matrices)) ((c.in_ok-places_within.ensures 0).0, (c.in_ok-places_within.ensures 0).1, tt)).1 } in
    let came2 : Passed (values_positive c.args.u.now ∷ []) 0 0 = record { none = (c.in_ok-values_positive.ensures 0).0; count = (c.in_ok-values_positive.ensures 0).1 } in
    let came3 : Passed ([]) 0 0 = record { none = (c.in_ok-values.ensures 0).0; count = (c.in_ok-values.ensures 0).1 } in
    let came4 : Passed (balances_events (map (dense (length (sides c.args.problem.now))) c.args.matrices.now.sides.columns) (map (dense c.args.problem.now.objs) c.args.matrices.now.objectives.columns) (dense (length (sides c.args.problem.now)) c.args.u.now) c.args.w.now) 0 c.are_balanced.new.counter.taken = record { none = (subst (λ (es : List Event). Runs {X = Unit {0}} is_held es 0 c.are_balanced.new.counter.taken (λ _. ⊤) (Ok tt)) (balances-as (length (sides c.args.problem.now)) c.args.problem.now.objs c.as_slice.result.now (dense (length (sides c.args.problem.now)) c.args.u.now) c.args.w.now c.as_slice-columns.result.now c.args.matrices.now.sides.columns c.as_slice-objectives.result.now c.args.matrices.now.objectives.columns (c.as_slice.ensures.value ∙ (c.in_ok-values.ensures 0).2 ∙ ap (λ (n : ℕ). dense n c.args.u.now) (ap (λ (bs : List ℚ). length bs) c.as_slice-bounds.ensures.items ∙ length-bounds c.args.problem.now c.args.matrices.now c.requires.matrices)) (length-dense (length (sides c.args.problem.now)) c.args.u.now) (length-tested (length c.args.w.now) c.args.problem.now.objs (c.in_ok-pass.ensures 0).0) c.as_slice-columns.ensures.items c.as_slice-objectives.ensures.items) (c.in_ok-are_balanced.ensures.0, c.in_ok-are_balanced.ensures.1, tt)).0; count = (subst (λ (es : List Event). Runs {X = Unit {0}} is_held es 0 c.are_balanced.new.counter.taken (λ _. ⊤) (Ok tt)) (balances-as (length (sides c.args.problem.now)) c.args.problem.now.objs c.as_slice.result.now (dense (length (sides c.args.problem.now)) c.args.u.now) c.args.w.now c.as_slice-columns.result.now c.args.matrices.now.sides.columns c.as_slice-objectives.result.now c.args.matrices.now.objectives.columns (c.as_slice.ensures.value ∙ (c.in_ok-values.ensures 0).2 ∙ ap (λ (n : ℕ). dense n c.args.u.now) (ap (λ (bs : List ℚ). length bs) c.as_slice-bounds.ensures.items ∙ length-bounds c.args.problem.now c.args.matrices.now c.requires.matrices)) (length-dense (length (sides c.args.problem.now)) c.args.u.now) (length-tested (length c.args.w.now) c.args.problem.now.objs (c.in_ok-pass.ensures 0).0) c.as_slice-columns.ensures.items c.as_slice-objectives.ensures.items) (c.in_ok-are_balanced.ensures.0, c.in_ok-are_balanced.ensures.1, tt)).1 } in
    let here : Stopped (in_cone (dual_of c.args.problem.now.cone) c.args.w.now c.args.v.now) c.are_balanced.new.counter.taken c.in_err-in_dual_cone.field-0.0 = record { at = c.in_err-in_dual_cone.ensures } in
    let stopped = subst (λ (es : List Event). Stops is_held es 0 c.in_err-in_dual_cone.field-0.0) (sym (cut-matrices c.args.problem.now c.args.matrices.now before c.args.c.now c.args.w.now c.args.gamma c.args.u.now c.args.v.now c.requires.matrices given)) ((stopped-later came0 (stopped-later came1 (stopped-later came2 (stopped-later came3 (stopped-later came4 (stopped-in ((scaled_events c.args.w.now c.args.c.now) ++ (bound_events (side_bounds c.args.problem.now) c.args.u.now c.args.gamma)) here)))))).at) in
    search (stopped, rules)

pub is_scaled-requires-clause-lengths : goal.is_scaled-requires-clause-lengths
is_scaled-requires-clause-lengths c = (length-tested (length c.args.w.now) c.args.problem.now.objs (c.in_ok-pass.ensures 0).0) ∙ sym c.requires.scale

pub is_scaled-requires-clause-room : goal.is_scaled-requires-clause-room
is_scaled-requires-clause-room c =
    let before : List Entry = (entry.Duality c.args.c.now [] [] [] ∷ []) in
    let given : duality_vector before ≡ c.args.c.now = refl in
    let room : 0 + steps (cut_events c.args.problem.now before c.args.w.now c.args.gamma c.args.u.now c.args.v.now) < 9223372036854775808 = let wide = (length-tested (length c.args.w.now) c.args.problem.now.objs (c.in_ok-pass.ensures 0).0) in let objs = c.args.problem.now.objs_bounded in let few = steps-cut c.args.problem.now before c.args.w.now c.args.gamma c.args.u.now c.args.v.now (omega (arith, wide, objs)) in omega (arith, few) in
    let came0 : Passed (test rule.Length (length c.args.w.now == c.args.problem.now.objs) ∷ []) 0 0 = record { none = (c.in_ok-pass.ensures 0).0; count = (c.in_ok-pass.ensures 0).1 } in
    let came1 : Passed (places_within (length (sides c.args.problem.now)) c.args.u.now ∷ []) 0 0 = record { none = (subst (λ (es : List Event). Runs {X = Unit {0}} is_held es 0 0 (λ _. ⊤) (Ok tt)) (ap (λ (n : ℕ). places_within n c.args.u.now ∷ []) (ap (λ (bs : List ℚ). length bs) c.as_slice-bounds.ensures.items ∙ length-bounds c.args.problem.now c.args.matrices.now c.requires.matrices)) ((c.in_ok-places_within.ensures 0).0, (c.in_ok-places_within.ensures 0).1, tt)).0; count = (subst (λ (es : List Event). Runs {X = Unit {0}} is_held es 0 0 (λ _. ⊤) (Ok tt)) (ap (λ (n : ℕ). places_within n c.args.u.now ∷ []) (ap (λ (bs : List ℚ). length bs) c.as_slice-bounds.ensures.items ∙ length-bounds c.args.problem.now c.args.matrices.now c.requires.matrices)) ((c.in_ok-places_within.ensures 0).0, (c.in_ok-places_within.ensures 0).1, tt)).1 } in
    let came2 : Passed (values_positive c.args.u.now ∷ []) 0 0 = record { none = (c.in_ok-values_positive.ensures 0).0; count = (c.in_ok-values_positive.ensures 0).1 } in
    let came3 : Passed ([]) 0 0 = record { none = (c.in_ok-values.ensures 0).0; count = (c.in_ok-values.ensures 0).1 } in
    let came4 : Passed (balances_events (map (dense (length (sides c.args.problem.now))) c.args.matrices.now.sides.columns) (map (dense c.args.problem.now.objs) c.args.matrices.now.objectives.columns) (dense (length (sides c.args.problem.now)) c.args.u.now) c.args.w.now) 0 c.are_balanced.new.counter.taken = record { none = (subst (λ (es : List Event). Runs {X = Unit {0}} is_held es 0 c.are_balanced.new.counter.taken (λ _. ⊤) (Ok tt)) (balances-as (length (sides c.args.problem.now)) c.args.problem.now.objs c.as_slice.result.now (dense (length (sides c.args.problem.now)) c.args.u.now) c.args.w.now c.as_slice-columns.result.now c.args.matrices.now.sides.columns c.as_slice-objectives.result.now c.args.matrices.now.objectives.columns (c.as_slice.ensures.value ∙ (c.in_ok-values.ensures 0).2 ∙ ap (λ (n : ℕ). dense n c.args.u.now) (ap (λ (bs : List ℚ). length bs) c.as_slice-bounds.ensures.items ∙ length-bounds c.args.problem.now c.args.matrices.now c.requires.matrices)) (length-dense (length (sides c.args.problem.now)) c.args.u.now) (length-tested (length c.args.w.now) c.args.problem.now.objs (c.in_ok-pass.ensures 0).0) c.as_slice-columns.ensures.items c.as_slice-objectives.ensures.items) (c.in_ok-are_balanced.ensures.0, c.in_ok-are_balanced.ensures.1, tt)).0; count = (subst (λ (es : List Event). Runs {X = Unit {0}} is_held es 0 c.are_balanced.new.counter.taken (λ _. ⊤) (Ok tt)) (balances-as (length (sides c.args.problem.now)) c.args.problem.now.objs c.as_slice.result.now (dense (length (sides c.args.problem.now)) c.args.u.now) c.args.w.now c.as_slice-columns.result.now c.args.matrices.now.sides.columns c.as_slice-objectives.result.now c.args.matrices.now.objectives.columns (c.as_slice.ensures.value ∙ (c.in_ok-values.ensures 0).2 ∙ ap (λ (n : ℕ). dense n c.args.u.now) (ap (λ (bs : List ℚ). length bs) c.as_slice-bounds.ensures.items ∙ length-bounds c.args.problem.now c.args.matrices.now c.requires.matrices)) (length-dense (length (sides c.args.problem.now)) c.args.u.now) (length-tested (length c.args.w.now) c.args.problem.now.objs (c.in_ok-pass.ensures 0).0) c.as_slice-columns.ensures.items c.as_slice-objectives.ensures.items) (c.in_ok-are_balanced.ensures.0, c.in_ok-are_balanced.ensures.1, tt)).1 } in
    let came5 : Passed (in_cone (dual_of c.args.problem.now.cone) c.args.w.now c.args.v.now) c.are_balanced.new.counter.taken c.in_dual_cone.new.counter.taken = record { none = c.in_ok-in_dual_cone.ensures.0; count = c.in_ok-in_dual_cone.ensures.1 } in
    room-in (scaled_events c.args.w.now c.args.c.now) (bound_events (side_bounds c.args.problem.now) c.args.u.now c.args.gamma) c.in_dual_cone.new.counter.taken _ (room-after ((scaled_events c.args.w.now c.args.c.now) ++ (bound_events (side_bounds c.args.problem.now) c.args.u.now c.args.gamma)) _ came5 (room-after ((in_cone (dual_of c.args.problem.now.cone) c.args.w.now c.args.v.now) ++ ((scaled_events c.args.w.now c.args.c.now) ++ (bound_events (side_bounds c.args.problem.now) c.args.u.now c.args.gamma))) _ came4 (room-after ((balances_events (map (dense (length (sides c.args.problem.now))) c.args.matrices.now.sides.columns) (map (dense c.args.problem.now.objs) c.args.matrices.now.objectives.columns) (dense (length (sides c.args.problem.now)) c.args.u.now) c.args.w.now) ++ ((in_cone (dual_of c.args.problem.now.cone) c.args.w.now c.args.v.now) ++ ((scaled_events c.args.w.now c.args.c.now) ++ (bound_events (side_bounds c.args.problem.now) c.args.u.now c.args.gamma)))) _ came3 (room-after (([]) ++ ((balances_events (map (dense (length (sides c.args.problem.now))) c.args.matrices.now.sides.columns) (map (dense c.args.problem.now.objs) c.args.matrices.now.objectives.columns) (dense (length (sides c.args.problem.now)) c.args.u.now) c.args.w.now) ++ ((in_cone (dual_of c.args.problem.now.cone) c.args.w.now c.args.v.now) ++ ((scaled_events c.args.w.now c.args.c.now) ++ (bound_events (side_bounds c.args.problem.now) c.args.u.now c.args.gamma))))) _ came2 (room-after ((values_positive c.args.u.now ∷ []) ++ (([]) ++ ((balances_events (map (dense (length (sides c.args.problem.now))) c.args.matrices.now.sides.columns) (map (dense c.args.problem.now.objs) c.args.matrices.now.objectives.columns) (dense (length (sides c.args.problem.now)) c.args.u.now) c.args.w.now) ++ ((in_cone (dual_of c.args.problem.now.cone) c.args.w.now c.args.v.now) ++ ((scaled_events c.args.w.now c.args.c.now) ++ (bound_events (side_bounds c.args.problem.now) c.args.u.now c.args.gamma)))))) _ came1 (room-after ((places_within (length (sides c.args.problem.now)) c.args.u.now ∷ []) ++ ((values_positive c.args.u.now ∷ []) ++ (([]) ++ ((balances_events (map (dense (length (sides c.args.problem.now))) c.args.matrices.now.sides.columns) (map (dense c.args.problem.now.objs) c.args.matrices.now.objectives.columns) (dense (length (sides c.args.problem.now)) c.args.u.now) c.args.w.now) ++ ((in_cone (dual_of c.args.problem.now.cone) c.args.w.now c.args.v.now) ++ ((scaled_events c.args.w.now c.args.c.now) ++ (bound_events (side_bounds c.args.problem.now) c.args.u.now c.args.gamma))))))) _ came0 (subst (λ (es : List Event). 0 + steps es < 9223372036854775808) (cut-matrices c.args.problem.now c.args.matrices.now before c.args.c.now c.args.w.now c.args.gamma c.args.u.now c.args.v.now c.requires.matrices given) room)))))))

pub returns-in_err-is_scaled : goal.returns-in_err-is_scaled
returns-in_err-is_scaled c = λ before given.
    let came0 : Passed (test rule.Length (length c.args.w.now == c.args.problem.now.objs) ∷ []) 0 0 = record { none = (c.in_ok-pass.ensures 0).0; count = (c.in_ok-pass.ensures 0).1 } in
    let came1 : Passed (places_within (length (sides c.args.problem.now)) c.args.u.now ∷ []) 0 0 = record { none = (subst (λ (es : List Event). Runs {X = Unit {0}} is_held es 0 0 (λ _. ⊤) (Ok tt)) (ap (λ (n : ℕ). places_within n c.args.u.now ∷ []) (ap (λ (bs : List ℚ). length bs) c.as_slice-bounds.ensures.items ∙ length-bounds c.args.problem.now c.args.matrices.now c.requires.matrices)) ((c.in_ok-places_within.ensures 0).0, (c.in_ok-places_within.ensures 0).1, tt)).0; count = (subst (λ (es : List Event). Runs {X = Unit {0}} is_held es 0 0 (λ _. ⊤) (Ok tt)) (ap (λ (n : ℕ). places_within n c.args.u.now ∷ []) (ap (λ (bs : List ℚ). length bs) c.as_slice-bounds.ensures.items ∙ length-bounds c.args.problem.now c.args.matrices.now c.requires.matrices)) ((c.in_ok-places_within.ensures 0).0, (c.in_ok-places_within.ensures 0).1, tt)).1 } in
    let came2 : Passed (values_positive c.args.u.now ∷ []) 0 0 = record { none = (c.in_ok-values_positive.ensures 0).0; count = (c.in_ok-values_positive.ensures 0).1 } in
    let came3 : Passed ([]) 0 0 = record { none = (c.in_ok-values.ensures 0).0; count = (c.in_ok-values.ensures 0).1 } in
    let came4 : Passed (balances_events (map (dense (length (sides c.args.problem.now))) c.args.matrices.now.sides.columns) (map (dense c.args.problem.now.objs) c.args.matrices.now.objectives.columns) (dense (length (sides c.args.problem.now)) c.args.u.now) c.args.w.now) 0 c.are_balanced.new.counter.taken = record { none = (subst (λ (es : List Event). Runs {X = Unit {0}} is_held es 0 c.are_balanced.new.counter.taken (λ _. ⊤) (Ok tt)) (balances-as (length (sides c.args.problem.now)) c.args.problem.now.objs c.as_slice.result.now (dense (length (sides c.args.problem.now)) c.args.u.now) c.args.w.now c.as_slice-columns.result.now c.args.matrices.now.sides.columns c.as_slice-objectives.result.now c.args.matrices.now.objectives.columns (c.as_slice.ensures.value ∙ (c.in_ok-values.ensures 0).2 ∙ ap (λ (n : ℕ). dense n c.args.u.now) (ap (λ (bs : List ℚ). length bs) c.as_slice-bounds.ensures.items ∙ length-bounds c.args.problem.now c.args.matrices.now c.requires.matrices)) (length-dense (length (sides c.args.problem.now)) c.args.u.now) (length-tested (length c.args.w.now) c.args.problem.now.objs (c.in_ok-pass.ensures 0).0) c.as_slice-columns.ensures.items c.as_slice-objectives.ensures.items) (c.in_ok-are_balanced.ensures.0, c.in_ok-are_balanced.ensures.1, tt)).0; count = (subst (λ (es : List Event). Runs {X = Unit {0}} is_held es 0 c.are_balanced.new.counter.taken (λ _. ⊤) (Ok tt)) (balances-as (length (sides c.args.problem.now)) c.args.problem.now.objs c.as_slice.result.now (dense (length (sides c.args.problem.now)) c.args.u.now) c.args.w.now c.as_slice-columns.result.now c.args.matrices.now.sides.columns c.as_slice-objectives.result.now c.args.matrices.now.objectives.columns (c.as_slice.ensures.value ∙ (c.in_ok-values.ensures 0).2 ∙ ap (λ (n : ℕ). dense n c.args.u.now) (ap (λ (bs : List ℚ). length bs) c.as_slice-bounds.ensures.items ∙ length-bounds c.args.problem.now c.args.matrices.now c.requires.matrices)) (length-dense (length (sides c.args.problem.now)) c.args.u.now) (length-tested (length c.args.w.now) c.args.problem.now.objs (c.in_ok-pass.ensures 0).0) c.as_slice-columns.ensures.items c.as_slice-objectives.ensures.items) (c.in_ok-are_balanced.ensures.0, c.in_ok-are_balanced.ensures.1, tt)).1 } in
    let came5 : Passed (in_cone (dual_of c.args.problem.now.cone) c.args.w.now c.args.v.now) c.are_balanced.new.counter.taken c.in_dual_cone.new.counter.taken = record { none = c.in_ok-in_dual_cone.ensures.0; count = c.in_ok-in_dual_cone.ensures.1 } in
    let here : Stopped (scaled_events c.args.w.now c.args.c.now) c.in_dual_cone.new.counter.taken c.in_err-is_scaled.field-0.0 = record { at = c.in_err-is_scaled.ensures } in
    let stopped = subst (λ (es : List Event). Stops is_held es 0 c.in_err-is_scaled.field-0.0) (sym (cut-matrices c.args.problem.now c.args.matrices.now before c.args.c.now c.args.w.now c.args.gamma c.args.u.now c.args.v.now c.requires.matrices given)) ((stopped-later came0 (stopped-later came1 (stopped-later came2 (stopped-later came3 (stopped-later came4 (stopped-later came5 (stopped-in (bound_events (side_bounds c.args.problem.now) c.args.u.now c.args.gamma) here))))))).at) in
    search (stopped, rules)

pub has_bound-requires-clause-vector : goal.has_bound-requires-clause-vector
has_bound-requires-clause-vector c = record { sparse = c.requires.multipliers; places = spots-within 0 (length c.as_slice-bounds.result.now) c.args.u.now (c.in_ok-places_within.ensures 0).0 }

pub has_bound-requires-clause-room : goal.has_bound-requires-clause-room
has_bound-requires-clause-room c =
    let before : List Entry = (entry.Duality c.args.c.now [] [] [] ∷ []) in
    let given : duality_vector before ≡ c.args.c.now = refl in
    let room : 0 + steps (cut_events c.args.problem.now before c.args.w.now c.args.gamma c.args.u.now c.args.v.now) < 9223372036854775808 = let wide = (length-tested (length c.args.w.now) c.args.problem.now.objs (c.in_ok-pass.ensures 0).0) in let objs = c.args.problem.now.objs_bounded in let few = steps-cut c.args.problem.now before c.args.w.now c.args.gamma c.args.u.now c.args.v.now (omega (arith, wide, objs)) in omega (arith, few) in
    let came0 : Passed (test rule.Length (length c.args.w.now == c.args.problem.now.objs) ∷ []) 0 0 = record { none = (c.in_ok-pass.ensures 0).0; count = (c.in_ok-pass.ensures 0).1 } in
    let came1 : Passed (places_within (length (sides c.args.problem.now)) c.args.u.now ∷ []) 0 0 = record { none = (subst (λ (es : List Event). Runs {X = Unit {0}} is_held es 0 0 (λ _. ⊤) (Ok tt)) (ap (λ (n : ℕ). places_within n c.args.u.now ∷ []) (ap (λ (bs : List ℚ). length bs) c.as_slice-bounds.ensures.items ∙ length-bounds c.args.problem.now c.args.matrices.now c.requires.matrices)) ((c.in_ok-places_within.ensures 0).0, (c.in_ok-places_within.ensures 0).1, tt)).0; count = (subst (λ (es : List Event). Runs {X = Unit {0}} is_held es 0 0 (λ _. ⊤) (Ok tt)) (ap (λ (n : ℕ). places_within n c.args.u.now ∷ []) (ap (λ (bs : List ℚ). length bs) c.as_slice-bounds.ensures.items ∙ length-bounds c.args.problem.now c.args.matrices.now c.requires.matrices)) ((c.in_ok-places_within.ensures 0).0, (c.in_ok-places_within.ensures 0).1, tt)).1 } in
    let came2 : Passed (values_positive c.args.u.now ∷ []) 0 0 = record { none = (c.in_ok-values_positive.ensures 0).0; count = (c.in_ok-values_positive.ensures 0).1 } in
    let came3 : Passed ([]) 0 0 = record { none = (c.in_ok-values.ensures 0).0; count = (c.in_ok-values.ensures 0).1 } in
    let came4 : Passed (balances_events (map (dense (length (sides c.args.problem.now))) c.args.matrices.now.sides.columns) (map (dense c.args.problem.now.objs) c.args.matrices.now.objectives.columns) (dense (length (sides c.args.problem.now)) c.args.u.now) c.args.w.now) 0 c.are_balanced.new.counter.taken = record { none = (subst (λ (es : List Event). Runs {X = Unit {0}} is_held es 0 c.are_balanced.new.counter.taken (λ _. ⊤) (Ok tt)) (balances-as (length (sides c.args.problem.now)) c.args.problem.now.objs c.as_slice.result.now (dense (length (sides c.args.problem.now)) c.args.u.now) c.args.w.now c.as_slice-columns.result.now c.args.matrices.now.sides.columns c.as_slice-objectives.result.now c.args.matrices.now.objectives.columns (c.as_slice.ensures.value ∙ (c.in_ok-values.ensures 0).2 ∙ ap (λ (n : ℕ). dense n c.args.u.now) (ap (λ (bs : List ℚ). length bs) c.as_slice-bounds.ensures.items ∙ length-bounds c.args.problem.now c.args.matrices.now c.requires.matrices)) (length-dense (length (sides c.args.problem.now)) c.args.u.now) (length-tested (length c.args.w.now) c.args.problem.now.objs (c.in_ok-pass.ensures 0).0) c.as_slice-columns.ensures.items c.as_slice-objectives.ensures.items) (c.in_ok-are_balanced.ensures.0, c.in_ok-are_balanced.ensures.1, tt)).0; count = (subst (λ (es : List Event). Runs {X = Unit {0}} is_held es 0 c.are_balanced.new.counter.taken (λ _. ⊤) (Ok tt)) (balances-as (length (sides c.args.problem.now)) c.args.problem.now.objs c.as_slice.result.now (dense (length (sides c.args.problem.now)) c.args.u.now) c.args.w.now c.as_slice-columns.result.now c.args.matrices.now.sides.columns c.as_slice-objectives.result.now c.args.matrices.now.objectives.columns (c.as_slice.ensures.value ∙ (c.in_ok-values.ensures 0).2 ∙ ap (λ (n : ℕ). dense n c.args.u.now) (ap (λ (bs : List ℚ). length bs) c.as_slice-bounds.ensures.items ∙ length-bounds c.args.problem.now c.args.matrices.now c.requires.matrices)) (length-dense (length (sides c.args.problem.now)) c.args.u.now) (length-tested (length c.args.w.now) c.args.problem.now.objs (c.in_ok-pass.ensures 0).0) c.as_slice-columns.ensures.items c.as_slice-objectives.ensures.items) (c.in_ok-are_balanced.ensures.0, c.in_ok-are_balanced.ensures.1, tt)).1 } in
    let came5 : Passed (in_cone (dual_of c.args.problem.now.cone) c.args.w.now c.args.v.now) c.are_balanced.new.counter.taken c.in_dual_cone.new.counter.taken = record { none = c.in_ok-in_dual_cone.ensures.0; count = c.in_ok-in_dual_cone.ensures.1 } in
    let came6 : Passed (scaled_events c.args.w.now c.args.c.now) c.in_dual_cone.new.counter.taken c.is_scaled.new.counter.taken = record { none = c.in_ok-is_scaled.ensures.0; count = c.in_ok-is_scaled.ensures.1 } in
    subst (λ (bs : List ℚ). c.is_scaled.new.counter.taken + steps (bound_events bs c.args.u.now c.args.gamma) < 9223372036854775808) (sym (c.as_slice-bounds.ensures.items ∙ c.requires.matrices.bounds)) ((room-after (bound_events (side_bounds c.args.problem.now) c.args.u.now c.args.gamma) _ came6 (room-after ((scaled_events c.args.w.now c.args.c.now) ++ (bound_events (side_bounds c.args.problem.now) c.args.u.now c.args.gamma)) _ came5 (room-after ((in_cone (dual_of c.args.problem.now.cone) c.args.w.now c.args.v.now) ++ ((scaled_events c.args.w.now c.args.c.now) ++ (bound_events (side_bounds c.args.problem.now) c.args.u.now c.args.gamma))) _ came4 (room-after ((balances_events (map (dense (length (sides c.args.problem.now))) c.args.matrices.now.sides.columns) (map (dense c.args.problem.now.objs) c.args.matrices.now.objectives.columns) (dense (length (sides c.args.problem.now)) c.args.u.now) c.args.w.now) ++ ((in_cone (dual_of c.args.problem.now.cone) c.args.w.now c.args.v.now) ++ ((scaled_events c.args.w.now c.args.c.now) ++ (bound_events (side_bounds c.args.problem.now) c.args.u.now c.args.gamma)))) _ came3 (room-after (([]) ++ ((balances_events (map (dense (length (sides c.args.problem.now))) c.args.matrices.now.sides.columns) (map (dense c.args.problem.now.objs) c.args.matrices.now.objectives.columns) (dense (length (sides c.args.problem.now)) c.args.u.now) c.args.w.now) ++ ((in_cone (dual_of c.args.problem.now.cone) c.args.w.now c.args.v.now) ++ ((scaled_events c.args.w.now c.args.c.now) ++ (bound_events (side_bounds c.args.problem.now) c.args.u.now c.args.gamma))))) _ came2 (room-after ((values_positive c.args.u.now ∷ []) ++ (([]) ++ ((balances_events (map (dense (length (sides c.args.problem.now))) c.args.matrices.now.sides.columns) (map (dense c.args.problem.now.objs) c.args.matrices.now.objectives.columns) (dense (length (sides c.args.problem.now)) c.args.u.now) c.args.w.now) ++ ((in_cone (dual_of c.args.problem.now.cone) c.args.w.now c.args.v.now) ++ ((scaled_events c.args.w.now c.args.c.now) ++ (bound_events (side_bounds c.args.problem.now) c.args.u.now c.args.gamma)))))) _ came1 (room-after ((places_within (length (sides c.args.problem.now)) c.args.u.now ∷ []) ++ ((values_positive c.args.u.now ∷ []) ++ (([]) ++ ((balances_events (map (dense (length (sides c.args.problem.now))) c.args.matrices.now.sides.columns) (map (dense c.args.problem.now.objs) c.args.matrices.now.objectives.columns) (dense (length (sides c.args.problem.now)) c.args.u.now) c.args.w.now) ++ ((in_cone (dual_of c.args.problem.now.cone) c.args.w.now c.args.v.now) ++ ((scaled_events c.args.w.now c.args.c.now) ++ (bound_events (side_bounds c.args.problem.now) c.args.u.now c.args.gamma))))))) _ came0 (subst (λ (es : List Event). 0 + steps es < 9223372036854775808) (cut-matrices c.args.problem.now c.args.matrices.now before c.args.c.now c.args.w.now c.args.gamma c.args.u.now c.args.v.now c.requires.matrices given) room)))))))))

pub returns : goal.returns
returns c = λ before given.
    let came0 : Passed (test rule.Length (length c.args.w.now == c.args.problem.now.objs) ∷ []) 0 0 = record { none = (c.in_ok-pass.ensures 0).0; count = (c.in_ok-pass.ensures 0).1 } in
    let came1 : Passed (places_within (length (sides c.args.problem.now)) c.args.u.now ∷ []) 0 0 = record { none = (subst (λ (es : List Event). Runs {X = Unit {0}} is_held es 0 0 (λ _. ⊤) (Ok tt)) (ap (λ (n : ℕ). places_within n c.args.u.now ∷ []) (ap (λ (bs : List ℚ). length bs) c.as_slice-bounds.ensures.items ∙ length-bounds c.args.problem.now c.args.matrices.now c.requires.matrices)) ((c.in_ok-places_within.ensures 0).0, (c.in_ok-places_within.ensures 0).1, tt)).0; count = (subst (λ (es : List Event). Runs {X = Unit {0}} is_held es 0 0 (λ _. ⊤) (Ok tt)) (ap (λ (n : ℕ). places_within n c.args.u.now ∷ []) (ap (λ (bs : List ℚ). length bs) c.as_slice-bounds.ensures.items ∙ length-bounds c.args.problem.now c.args.matrices.now c.requires.matrices)) ((c.in_ok-places_within.ensures 0).0, (c.in_ok-places_within.ensures 0).1, tt)).1 } in
    let came2 : Passed (values_positive c.args.u.now ∷ []) 0 0 = record { none = (c.in_ok-values_positive.ensures 0).0; count = (c.in_ok-values_positive.ensures 0).1 } in
    let came3 : Passed ([]) 0 0 = record { none = (c.in_ok-values.ensures 0).0; count = (c.in_ok-values.ensures 0).1 } in
    let came4 : Passed (balances_events (map (dense (length (sides c.args.problem.now))) c.args.matrices.now.sides.columns) (map (dense c.args.problem.now.objs) c.args.matrices.now.objectives.columns) (dense (length (sides c.args.problem.now)) c.args.u.now) c.args.w.now) 0 c.are_balanced.new.counter.taken = record { none = (subst (λ (es : List Event). Runs {X = Unit {0}} is_held es 0 c.are_balanced.new.counter.taken (λ _. ⊤) (Ok tt)) (balances-as (length (sides c.args.problem.now)) c.args.problem.now.objs c.as_slice.result.now (dense (length (sides c.args.problem.now)) c.args.u.now) c.args.w.now c.as_slice-columns.result.now c.args.matrices.now.sides.columns c.as_slice-objectives.result.now c.args.matrices.now.objectives.columns (c.as_slice.ensures.value ∙ (c.in_ok-values.ensures 0).2 ∙ ap (λ (n : ℕ). dense n c.args.u.now) (ap (λ (bs : List ℚ). length bs) c.as_slice-bounds.ensures.items ∙ length-bounds c.args.problem.now c.args.matrices.now c.requires.matrices)) (length-dense (length (sides c.args.problem.now)) c.args.u.now) (length-tested (length c.args.w.now) c.args.problem.now.objs (c.in_ok-pass.ensures 0).0) c.as_slice-columns.ensures.items c.as_slice-objectives.ensures.items) (c.in_ok-are_balanced.ensures.0, c.in_ok-are_balanced.ensures.1, tt)).0; count = (subst (λ (es : List Event). Runs {X = Unit {0}} is_held es 0 c.are_balanced.new.counter.taken (λ _. ⊤) (Ok tt)) (balances-as (length (sides c.args.problem.now)) c.args.problem.now.objs c.as_slice.result.now (dense (length (sides c.args.problem.now)) c.args.u.now) c.args.w.now c.as_slice-columns.result.now c.args.matrices.now.sides.columns c.as_slice-objectives.result.now c.args.matrices.now.objectives.columns (c.as_slice.ensures.value ∙ (c.in_ok-values.ensures 0).2 ∙ ap (λ (n : ℕ). dense n c.args.u.now) (ap (λ (bs : List ℚ). length bs) c.as_slice-bounds.ensures.items ∙ length-bounds c.args.problem.now c.args.matrices.now c.requires.matrices)) (length-dense (length (sides c.args.problem.now)) c.args.u.now) (length-tested (length c.args.w.now) c.args.problem.now.objs (c.in_ok-pass.ensures 0).0) c.as_slice-columns.ensures.items c.as_slice-objectives.ensures.items) (c.in_ok-are_balanced.ensures.0, c.in_ok-are_balanced.ensures.1, tt)).1 } in
    let came5 : Passed (in_cone (dual_of c.args.problem.now.cone) c.args.w.now c.args.v.now) c.are_balanced.new.counter.taken c.in_dual_cone.new.counter.taken = record { none = c.in_ok-in_dual_cone.ensures.0; count = c.in_ok-in_dual_cone.ensures.1 } in
    let came6 : Passed (scaled_events c.args.w.now c.args.c.now) c.in_dual_cone.new.counter.taken c.is_scaled.new.counter.taken = record { none = c.in_ok-is_scaled.ensures.0; count = c.in_ok-is_scaled.ensures.1 } in
    let last : Ran {X = Unit {0}} (bound_events (side_bounds c.args.problem.now) c.args.u.now c.args.gamma) c.is_scaled.new.counter.taken c.has_bound.new.counter.taken (λ _. ⊤) c.has_bound.result = record { runs = subst (λ (bs : List ℚ). Runs {X = Unit {0}} is_held (bound_events bs c.args.u.now c.args.gamma) c.is_scaled.new.counter.taken c.has_bound.new.counter.taken (λ _. ⊤) c.has_bound.result) (c.as_slice-bounds.ensures.items ∙ c.requires.matrices.bounds) c.has_bound.ensures } in
    whole-run (cut_events c.args.problem.now before c.args.w.now c.args.gamma c.args.u.now c.args.v.now) c.has_bound.new.counter.taken (λ _. ⊤) c.has_bound.result (subst (λ (es : List Event). Runs {X = Unit {0}} is_held es 0 c.has_bound.new.counter.taken (λ _. ⊤) c.has_bound.result) (sym (cut-matrices c.args.problem.now c.args.matrices.now before c.args.c.now c.args.w.now c.args.gamma c.args.u.now c.args.v.now c.requires.matrices given)) ((ran-after came0 (ran-after came1 (ran-after came2 (ran-after came3 (ran-after came4 (ran-after came5 (ran-after came6 last))))))).runs))
