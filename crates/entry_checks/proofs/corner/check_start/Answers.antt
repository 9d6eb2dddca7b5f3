use Rattle.std.proofs.Common.{rules, sym, subst, ap, arith, refl, ◌∙◌, ◌≡◌, ◌+◌, ◌*◌, ◌<◌, ℕ, List, [], ◌∷◌, ◌++◌, length, map, Bool, ◌==◌, All}
use Rattle.std.specs.Prelude.{⊤, Ok, ◌&&◌, nat_le}
use Rattle.std.specs.List.{list_all}
use Rattle.std.proofs.lemmas.List.{length-map}
use Rattle.exact_field.specs.Order.{same_ℚ}
use Rattle.exact_field.specs.Rational.{one_ℚ}
use Rattle.frac128.specs.Held.{is_held}
use Rattle.log_rules.specs.CutEvents.{rises, all_within}
use Rattle.log_rules.specs.Events.{Event}
use Rattle.log_rules.specs.LiveEvents.{all_reduced, start_events}
use Rattle.log_rules.specs.Events.Event.{test}
use Rattle.log_rules.specs.Runs.{Runs, Stops, steps}
use Rattle.log_rules.specs.declared.rule.Rule.TheVariants as rule
use Rattle.entry_checks.specs.Parts.{tights_events, all_corners}
use Rattle.entry_checks.proofs.Going.{Passed, Stopped, stopped-in, stopped-later, Ran, ran-after, test-passed, room-in, room-after, whole-run}
use Rattle.polyhedra.proofs.Tests.{both_true}
use Rattle.polyhedra.specs.DoubleDescription.{magnitude, leading}
use Rattle.upper_image.specs.Spots.{pieces}
use Rattle.log_rules.specs.Live.{State}
use Rattle.entry_checks.specs.Cuts.{stated, named_from}
use Rattle.entry_checks.proofs.NamedCuts.{start-as, steps-start, fit-many, fit-point, fit-directions}
use Rattle.polyhedra.specs.LiveList.{starting}
use Rattle.entry_checks.proofs.corner.check_start.Goals as goal

pub returns-in_err-pass : goal.returns-in_err-pass
returns-in_err-pass c = λ s given.
    let here : Stopped (test rule.Length (length c.args.named.now + length c.args.lines.now == c.args.problem.now.objs && nat_le 1 (length c.args.named.now) && length c.args.point.now == c.args.problem.now.objs && length c.args.directions.now == length c.args.named.now * c.args.problem.now.objs) ∷ []) 0 c.in_err-pass.field-0.0 = record { at = subst (λ (es : List Event). Stops is_held es 0 c.in_err-pass.field-0.0) (ap (λ (b : Bool). test rule.Length b ∷ []) c.lists_fit.ensures) (c.in_err-pass.ensures 0) } in
    let stopped = subst (λ (es : List Event). Stops is_held es 0 c.in_err-pass.field-0.0) (sym (start-as c.args.problem.now c.args.lines.now s (map stated c.args.cuts.now) c.args.named.now c.args.point.now c.args.directions.now given)) ((stopped-in ((test rule.Index (rises c.args.named.now && all_within (length (map stated c.args.cuts.now)) c.args.named.now) ∷ []) ++ ((test rule.Corner (all_reduced c.args.lines.now (c.args.point.now ∷ pieces (length c.args.named.now) c.args.problem.now.objs c.args.directions.now)) ∷ []) ++ ((test rule.Corner (list_all (λ d. same_ℚ (magnitude (leading d)) one_ℚ) (pieces (length c.args.named.now) c.args.problem.now.objs c.args.directions.now)) ∷ []) ++ ((tights_events c.args.point.now (named_from (map stated c.args.cuts.now) c.args.named.now)) ++ (all_corners (pieces (length c.args.named.now) c.args.problem.now.objs c.args.directions.now) (named_from (map stated c.args.cuts.now) c.args.named.now)))))) here).at) in
    search (stopped, rules)

pub returns-in_err-pass-2 : goal.returns-in_err-pass-2
returns-in_err-pass-2 c = λ s given.
    let came0 : Passed (test rule.Length (length c.args.named.now + length c.args.lines.now == c.args.problem.now.objs && nat_le 1 (length c.args.named.now) && length c.args.point.now == c.args.problem.now.objs && length c.args.directions.now == length c.args.named.now * c.args.problem.now.objs) ∷ []) 0 0 = record { none = (subst (λ (es : List Event). Runs {X = Unit {0}} is_held es 0 0 (λ _. ⊤) (Ok tt)) (ap (λ (b : Bool). test rule.Length b ∷ []) c.lists_fit.ensures) ((c.in_ok-pass.ensures 0).0, (c.in_ok-pass.ensures 0).1, tt)).0; count = (subst (λ (es : List Event). Runs {X = Unit {0}} is_held es 0 0 (λ _. ⊤) (Ok tt)) (ap (λ (b : Bool). test rule.Length b ∷ []) c.lists_fit.ensures) ((c.in_ok-pass.ensures 0).0, (c.in_ok-pass.ensures 0).1, tt)).1 } in
    let here : Stopped (test rule.Index (rises c.args.named.now && all_within (length (map stated c.args.cuts.now)) c.args.named.now) ∷ []) 0 c.in_err-pass-2.field-0.0 = record { at = subst (λ (es : List Event). Stops is_held es 0 c.in_err-pass-2.field-0.0) (ap (λ (b : Bool). test rule.Index b ∷ []) (c.are_picks.ensures ∙ ap (λ (n : ℕ). rises c.args.named.now && all_within n c.args.named.now) (sym (length-map c.args.cuts.now stated)))) (c.in_err-pass-2.ensures 0) } in
    let stopped = subst (λ (es : List Event). Stops is_held es 0 c.in_err-pass-2.field-0.0) (sym (start-as c.args.problem.now c.args.lines.now s (map stated c.args.cuts.now) c.args.named.now c.args.point.now c.args.directions.now given)) ((stopped-later came0 (stopped-in ((test rule.Corner (all_reduced c.args.lines.now (c.args.point.now ∷ pieces (length c.args.named.now) c.args.problem.now.objs c.args.directions.now)) ∷ []) ++ ((test rule.Corner (list_all (λ d. same_ℚ (magnitude (leading d)) one_ℚ) (pieces (length c.args.named.now) c.args.problem.now.objs c.args.directions.now)) ∷ []) ++ ((tights_events c.args.point.now (named_from (map stated c.args.cuts.now) c.args.named.now)) ++ (all_corners (pieces (length c.args.named.now) c.args.problem.now.objs c.args.directions.now) (named_from (map stated c.args.cuts.now) c.args.named.now))))) here)).at) in
    search (stopped, rules)

pub are_reduced-requires-clause-many : goal.are_reduced-requires-clause-many
are_reduced-requires-clause-many c = (let n = (fit-many (length c.args.named.now) (length c.args.lines.now) c.args.problem.now.objs (length c.args.point.now) (length c.args.directions.now) (sym c.lists_fit.ensures ∙ test-passed 1 rule.Length c.lists_fit.result (c.in_ok-pass.ensures 0).0)) in let o = c.args.problem.now.objs_bounded in omega (arith, n, o))

pub are_reduced-requires-clause-entries : goal.are_reduced-requires-clause-entries
are_reduced-requires-clause-entries c = (fit-directions (length c.args.named.now) (length c.args.lines.now) c.args.problem.now.objs (length c.args.point.now) (length c.args.directions.now) (sym c.lists_fit.ensures ∙ test-passed 1 rule.Length c.lists_fit.result (c.in_ok-pass.ensures 0).0))

pub returns-in_err-pass-3 : goal.returns-in_err-pass-3
returns-in_err-pass-3 c = λ s given.
    let came0 : Passed (test rule.Length (length c.args.named.now + length c.args.lines.now == c.args.problem.now.objs && nat_le 1 (length c.args.named.now) && length c.args.point.now == c.args.problem.now.objs && length c.args.directions.now == length c.args.named.now * c.args.problem.now.objs) ∷ []) 0 0 = record { none = (subst (λ (es : List Event). Runs {X = Unit {0}} is_held es 0 0 (λ _. ⊤) (Ok tt)) (ap (λ (b : Bool). test rule.Length b ∷ []) c.lists_fit.ensures) ((c.in_ok-pass.ensures 0).0, (c.in_ok-pass.ensures 0).1, tt)).0; count = (subst (λ (es : List Event). Runs {X = Unit {0}} is_held es 0 0 (λ _. ⊤) (Ok tt)) (ap (λ (b : Bool). test rule.Length b ∷ []) c.lists_fit.ensures) ((c.in_ok-pass.ensures 0).0, (c.in_ok-pass.ensures 0).1, tt)).1 } in
    let came1 : Passed (test rule.Index (rises c.args.named.now && all_within (length (map stated c.args.cuts.now)) c.args.named.now) ∷ []) 0 0 = record { none = (subst (λ (es : List Event). Runs {X = Unit {0}} is_held es 0 0 (λ _. ⊤) (Ok tt)) (ap (λ (b : Bool). test rule.Index b ∷ []) (c.are_picks.ensures ∙ ap (λ (n : ℕ). rises c.args.named.now && all_within n c.args.named.now) (sym (length-map c.args.cuts.now stated)))) ((c.in_ok-pass-2.ensures 0).0, (c.in_ok-pass-2.ensures 0).1, tt)).0; count = (subst (λ (es : List Event). Runs {X = Unit {0}} is_held es 0 0 (λ _. ⊤) (Ok tt)) (ap (λ (b : Bool). test rule.Index b ∷ []) (c.are_picks.ensures ∙ ap (λ (n : ℕ). rises c.args.named.now && all_within n c.args.named.now) (sym (length-map c.args.cuts.now stated)))) ((c.in_ok-pass-2.ensures 0).0, (c.in_ok-pass-2.ensures 0).1, tt)).1 } in
    let here : Stopped (test rule.Corner (all_reduced c.args.lines.now (c.args.point.now ∷ pieces (length c.args.named.now) c.args.problem.now.objs c.args.directions.now)) ∷ []) 0 c.in_err-pass-3.field-0.0 = record { at = subst (λ (es : List Event). Stops is_held es 0 c.in_err-pass-3.field-0.0) (ap (λ (b : Bool). test rule.Corner b ∷ []) c.are_reduced.ensures) (c.in_err-pass-3.ensures 0) } in
    let stopped = subst (λ (es : List Event). Stops is_held es 0 c.in_err-pass-3.field-0.0) (sym (start-as c.args.problem.now c.args.lines.now s (map stated c.args.cuts.now) c.args.named.now c.args.point.now c.args.directions.now given)) ((stopped-later came0 (stopped-later came1 (stopped-in ((test rule.Corner (list_all (λ d. same_ℚ (magnitude (leading d)) one_ℚ) (pieces (length c.args.named.now) c.args.problem.now.objs c.args.directions.now)) ∷ []) ++ ((tights_events c.args.point.now (named_from (map stated c.args.cuts.now) c.args.named.now)) ++ (all_corners (pieces (length c.args.named.now) c.args.problem.now.objs c.args.directions.now) (named_from (map stated c.args.cuts.now) c.args.named.now)))) here))).at) in
    search (stopped, rules)

pub are_normed-requires-clause-many : goal.are_normed-requires-clause-many
are_normed-requires-clause-many c = (let n = (fit-many (length c.args.named.now) (length c.args.lines.now) c.args.problem.now.objs (length c.args.point.now) (length c.args.directions.now) (sym c.lists_fit.ensures ∙ test-passed 1 rule.Length c.lists_fit.result (c.in_ok-pass.ensures 0).0)) in let o = c.args.problem.now.objs_bounded in omega (arith, n, o))

pub are_normed-requires-clause-entries : goal.are_normed-requires-clause-entries
are_normed-requires-clause-entries c = (fit-directions (length c.args.named.now) (length c.args.lines.now) c.args.problem.now.objs (length c.args.point.now) (length c.args.directions.now) (sym c.lists_fit.ensures ∙ test-passed 1 rule.Length c.lists_fit.result (c.in_ok-pass.ensures 0).0))

pub returns-in_err-pass-4 : goal.returns-in_err-pass-4
returns-in_err-pass-4 c = λ s given.
    let came0 : Passed (test rule.Length (length c.args.named.now + length c.args.lines.now == c.args.problem.now.objs && nat_le 1 (length c.args.named.now) && length c.args.point.now == c.args.problem.now.objs && length c.args.directions.now == length c.args.named.now * c.args.problem.now.objs) ∷ []) 0 0 = record { none = (subst (λ (es : List Event). Runs {X = Unit {0}} is_held es 0 0 (λ _. ⊤) (Ok tt)) (ap (λ (b : Bool). test rule.Length b ∷ []) c.lists_fit.ensures) ((c.in_ok-pass.ensures 0).0, (c.in_ok-pass.ensures 0).1, tt)).0; count = (subst (λ (es : List Event). Runs {X = Unit {0}} is_held es 0 0 (λ _. ⊤) (Ok tt)) (ap (λ (b : Bool). test rule.Length b ∷ []) c.lists_fit.ensures) ((c.in_ok-pass.ensures 0).0, (c.in_ok-pass.ensures 0).1, tt)).1 } in
    let came1 : Passed (test rule.Index (rises c.args.named.now && all_within (length (map stated c.args.cuts.now)) c.args.named.now) ∷ []) 0 0 = record { none = (subst (λ (es : List Event). Runs {X = Unit {0}} is_held es 0 0 (λ _. ⊤) (Ok tt)) (ap (λ (b : Bool). test rule.Index b ∷ []) (c.are_picks.ensures ∙ ap (λ (n : ℕ). rises c.args.named.now && all_within n c.args.named.now) (sym (length-map c.args.cuts.now stated)))) ((c.in_ok-pass-2.ensures 0).0, (c.in_ok-pass-2.ensures 0).1, tt)).0; count = (subst (λ (es : List Event). Runs {X = Unit {0}} is_held es 0 0 (λ _. ⊤) (Ok tt)) (ap (λ (b : Bool). test rule.Index b ∷ []) (c.are_picks.ensures ∙ ap (λ (n : ℕ). rises c.args.named.now && all_within n c.args.named.now) (sym (length-map c.args.cuts.now stated)))) ((c.in_ok-pass-2.ensures 0).0, (c.in_ok-pass-2.ensures 0).1, tt)).1 } in
    let came2 : Passed (test rule.Corner (all_reduced c.args.lines.now (c.args.point.now ∷ pieces (length c.args.named.now) c.args.problem.now.objs c.args.directions.now)) ∷ []) 0 0 = record { none = (subst (λ (es : List Event). Runs {X = Unit {0}} is_held es 0 0 (λ _. ⊤) (Ok tt)) (ap (λ (b : Bool). test rule.Corner b ∷ []) c.are_reduced.ensures) ((c.in_ok-pass-3.ensures 0).0, (c.in_ok-pass-3.ensures 0).1, tt)).0; count = (subst (λ (es : List Event). Runs {X = Unit {0}} is_held es 0 0 (λ _. ⊤) (Ok tt)) (ap (λ (b : Bool). test rule.Corner b ∷ []) c.are_reduced.ensures) ((c.in_ok-pass-3.ensures 0).0, (c.in_ok-pass-3.ensures 0).1, tt)).1 } in
    let here : Stopped (test rule.Corner (list_all (λ d. same_ℚ (magnitude (leading d)) one_ℚ) (pieces (length c.args.named.now) c.args.problem.now.objs c.args.directions.now)) ∷ []) 0 c.in_err-pass-4.field-0.0 = record { at = subst (λ (es : List Event). Stops is_held es 0 c.in_err-pass-4.field-0.0) (ap (λ (b : Bool). test rule.Corner b ∷ []) c.are_normed.ensures) (c.in_err-pass-4.ensures 0) } in
    let stopped = subst (λ (es : List Event). Stops is_held es 0 c.in_err-pass-4.field-0.0) (sym (start-as c.args.problem.now c.args.lines.now s (map stated c.args.cuts.now) c.args.named.now c.args.point.now c.args.directions.now given)) ((stopped-later came0 (stopped-later came1 (stopped-later came2 (stopped-in ((tights_events c.args.point.now (named_from (map stated c.args.cuts.now) c.args.named.now)) ++ (all_corners (pieces (length c.args.named.now) c.args.problem.now.objs c.args.directions.now) (named_from (map stated c.args.cuts.now) c.args.named.now))) here)))).at) in
    search (stopped, rules)

pub are_tight-requires-clause-widths : goal.are_tight-requires-clause-widths
are_tight-requires-clause-widths c = subst (λ (n : ℕ). All (λ cut. length cut.w ≡ n) c.args.cuts.now) (sym (fit-point (length c.args.named.now) (length c.args.lines.now) c.args.problem.now.objs (length c.args.point.now) (length c.args.directions.now) (sym c.lists_fit.ensures ∙ test-passed 1 rule.Length c.lists_fit.result (c.in_ok-pass.ensures 0).0))) c.requires.widths

pub are_tight-requires-clause-named : goal.are_tight-requires-clause-named
are_tight-requires-clause-named c = (both_true (rises c.args.named.now) (all_within (length c.args.cuts.now) c.args.named.now) (sym c.are_picks.ensures ∙ test-passed 1 rule.Index c.are_picks.result (c.in_ok-pass-2.ensures 0).0)).1

pub are_tight-requires-clause-room : goal.are_tight-requires-clause-room
are_tight-requires-clause-room c =
    let s : State = record { cuts = map stated c.args.cuts.now; used = []; list = starting 1 [] } in
    let given : s.cuts ≡ map stated c.args.cuts.now = refl in
    let room : 0 + steps (start_events c.args.problem.now c.args.lines.now s c.args.named.now c.args.point.now c.args.directions.now) < 9223372036854775808 = let few = steps-start c.args.problem.now c.args.lines.now s c.args.named.now c.args.point.now c.args.directions.now (fit-many (length c.args.named.now) (length c.args.lines.now) c.args.problem.now.objs (length c.args.point.now) (length c.args.directions.now) (sym c.lists_fit.ensures ∙ test-passed 1 rule.Length c.lists_fit.result (c.in_ok-pass.ensures 0).0)) (fit-point (length c.args.named.now) (length c.args.lines.now) c.args.problem.now.objs (length c.args.point.now) (length c.args.directions.now) (sym c.lists_fit.ensures ∙ test-passed 1 rule.Length c.lists_fit.result (c.in_ok-pass.ensures 0).0)) in omega (arith, few) in
    let came0 : Passed (test rule.Length (length c.args.named.now + length c.args.lines.now == c.args.problem.now.objs && nat_le 1 (length c.args.named.now) && length c.args.point.now == c.args.problem.now.objs && length c.args.directions.now == length c.args.named.now * c.args.problem.now.objs) ∷ []) 0 0 = record { none = (subst (λ (es : List Event). Runs {X = Unit {0}} is_held es 0 0 (λ _. ⊤) (Ok tt)) (ap (λ (b : Bool). test rule.Length b ∷ []) c.lists_fit.ensures) ((c.in_ok-pass.ensures 0).0, (c.in_ok-pass.ensures 0).1, tt)).0; count = (subst (λ (es : List Event). Runs {X = Unit {0}} is_held es 0 0 (λ _. ⊤) (Ok tt)) (ap (λ (b : Bool). test rule.Length b ∷ []) c.lists_fit.ensures) ((c.in_ok-pass.ensures 0).0, (c.in_ok-pass.ensures 0).1, tt)).1 } in
    let came1 : Passed (test rule.Index (rises c.args.named.now && all_within (length (map stated c.args.cuts.now)) c.args.named.now) ∷ []) 0 0 = record { none = (subst (λ (es : List Event). Runs {X = Unit {0}} is_held es 0 0 (λ _. ⊤) (Ok tt)) (ap (λ (b : Bool). test rule.Index b ∷ []) (c.are_picks.ensures ∙ ap (λ (n : ℕ). rises c.args.named.now && all_within n c.args.named.now) (sym (length-map c.args.cuts.now stated)))) ((c.in_ok-pass-2.ensures 0).0, (c.in_ok-pass-2.ensures 0).1, tt)).0; count = (subst (λ (es : List Event). Runs {X = Unit {0}} is_held es 0 0 (λ _. ⊤) (Ok tt)) (ap (λ (b : Bool). test rule.Index b ∷ []) (c.are_picks.ensures ∙ ap (λ (n : ℕ). rises c.args.named.now && all_within n c.args.named.now) (sym (length-map c.args.cuts.now stated)))) ((c.in_ok-pass-2.ensures 0).0, (c.in_ok-pass-2.ensures 0).1, tt)).1 } in
    let came2 : Passed (test rule.Corner (all_reduced c.args.lines.now (c.args.point.now ∷ pieces (length c.args.named.now) c.args.problem.now.objs c.args.directions.now)) ∷ []) 0 0 = record { none = (subst (λ (es : List Event). Runs {X = Unit {0}} is_held es 0 0 (λ _. ⊤) (Ok tt)) (ap (λ (b : Bool). test rule.Corner b ∷ []) c.are_reduced.ensures) ((c.in_ok-pass-3.ensures 0).0, (c.in_ok-pass-3.ensures 0).1, tt)).0; count = (subst (λ (es : List Event). Runs {X = Unit {0}} is_held es 0 0 (λ _. ⊤) (Ok tt)) (ap (λ (b : Bool). test rule.Corner b ∷ []) c.are_reduced.ensures) ((c.in_ok-pass-3.ensures 0).0, (c.in_ok-pass-3.ensures 0).1, tt)).1 } in
    let came3 : Passed (test rule.Corner (list_all (λ d. same_ℚ (magnitude (leading d)) one_ℚ) (pieces (length c.args.named.now) c.args.problem.now.objs c.args.directions.now)) ∷ []) 0 0 = record { none = (subst (λ (es : List Event). Runs {X = Unit {0}} is_held es 0 0 (λ _. ⊤) (Ok tt)) (ap (λ (b : Bool). test rule.Corner b ∷ []) c.are_normed.ensures) ((c.in_ok-pass-4.ensures 0).0, (c.in_ok-pass-4.ensures 0).1, tt)).0; count = (subst (λ (es : List Event). Runs {X = Unit {0}} is_held es 0 0 (λ _. ⊤) (Ok tt)) (ap (λ (b : Bool). test rule.Corner b ∷ []) c.are_normed.ensures) ((c.in_ok-pass-4.ensures 0).0, (c.in_ok-pass-4.ensures 0).1, tt)).1 } in
    room-in (tights_events c.args.point.now (named_from (map stated c.args.cuts.now) c.args.named.now)) (all_corners (pieces (length c.args.named.now) c.args.problem.now.objs c.args.directions.now) (named_from (map stated c.args.cuts.now) c.args.named.now)) 0 _ (room-after ((tights_events c.args.point.now (named_from (map stated c.args.cuts.now) c.args.named.now)) ++ (all_corners (pieces (length c.args.named.now) c.args.problem.now.objs c.args.directions.now) (named_from (map stated c.args.cuts.now) c.args.named.now))) _ came3 (room-after ((test rule.Corner (list_all (λ d. same_ℚ (magnitude (leading d)) one_ℚ) (pieces (length c.args.named.now) c.args.problem.now.objs c.args.directions.now)) ∷ []) ++ ((tights_events c.args.point.now (named_from (map stated c.args.cuts.now) c.args.named.now)) ++ (all_corners (pieces (length c.args.named.now) c.args.problem.now.objs c.args.directions.now) (named_from (map stated c.args.cuts.now) c.args.named.now)))) _ came2 (room-after ((test rule.Corner (all_reduced c.args.lines.now (c.args.point.now ∷ pieces (length c.args.named.now) c.args.problem.now.objs c.args.directions.now)) ∷ []) ++ ((test rule.Corner (list_all (λ d. same_ℚ (magnitude (leading d)) one_ℚ) (pieces (length c.args.named.now) c.args.problem.now.objs c.args.directions.now)) ∷ []) ++ ((tights_events c.args.point.now (named_from (map stated c.args.cuts.now) c.args.named.now)) ++ (all_corners (pieces (length c.args.named.now) c.args.problem.now.objs c.args.directions.now) (named_from (map stated c.args.cuts.now) c.args.named.now))))) _ came1 (room-after ((test rule.Index (rises c.args.named.now && all_within (length (map stated c.args.cuts.now)) c.args.named.now) ∷ []) ++ ((test rule.Corner (all_reduced c.args.lines.now (c.args.point.now ∷ pieces (length c.args.named.now) c.args.problem.now.objs c.args.directions.now)) ∷ []) ++ ((test rule.Corner (list_all (λ d. same_ℚ (magnitude (leading d)) one_ℚ) (pieces (length c.args.named.now) c.args.problem.now.objs c.args.directions.now)) ∷ []) ++ ((tights_events c.args.point.now (named_from (map stated c.args.cuts.now) c.args.named.now)) ++ (all_corners (pieces (length c.args.named.now) c.args.problem.now.objs c.args.directions.now) (named_from (map stated c.args.cuts.now) c.args.named.now)))))) _ came0 (subst (λ (es : List Event). 0 + steps es < 9223372036854775808) (start-as c.args.problem.now c.args.lines.now s (map stated c.args.cuts.now) c.args.named.now c.args.point.now c.args.directions.now given) room)))))

pub returns-in_err-are_tight : goal.returns-in_err-are_tight
returns-in_err-are_tight c = λ s given.
    let came0 : Passed (test rule.Length (length c.args.named.now + length c.args.lines.now == c.args.problem.now.objs && nat_le 1 (length c.args.named.now) && length c.args.point.now == c.args.problem.now.objs && length c.args.directions.now == length c.args.named.now * c.args.problem.now.objs) ∷ []) 0 0 = record { none = (subst (λ (es : List Event). Runs {X = Unit {0}} is_held es 0 0 (λ _. ⊤) (Ok tt)) (ap (λ (b : Bool). test rule.Length b ∷ []) c.lists_fit.ensures) ((c.in_ok-pass.ensures 0).0, (c.in_ok-pass.ensures 0).1, tt)).0; count = (subst (λ (es : List Event). Runs {X = Unit {0}} is_held es 0 0 (λ _. ⊤) (Ok tt)) (ap (λ (b : Bool). test rule.Length b ∷ []) c.lists_fit.ensures) ((c.in_ok-pass.ensures 0).0, (c.in_ok-pass.ensures 0).1, tt)).1 } in
    let came1 : Passed (test rule.Index (rises c.args.named.now && all_within (length (map stated c.args.cuts.now)) c.args.named.now) ∷ []) 0 0 = record { none = (subst (λ (es : List Event). Runs {X = Unit {0}} is_held es 0 0 (λ _. ⊤) (Ok tt)) (ap (λ (b : Bool). test rule.Index b ∷ []) (c.are_picks.ensures ∙ ap (λ (n : ℕ). rises c.args.named.now && all_within n c.args.named.now) (sym (length-map c.args.cuts.now stated)))) ((c.in_ok-pass-2.ensures 0).0, (c.in_ok-pass-2.ensures 0).1, tt)).0; count = (subst (λ (es : List Event). Runs {X = Unit {0}} is_held es 0 0 (λ _. ⊤) (Ok tt)) (ap (λ (b : Bool). test rule.Index b ∷ []) (c.are_picks.ensures ∙ ap (λ (n : ℕ). rises c.args.named.now && all_within n c.args.named.now) (sym (length-map c.args.cuts.now stated)))) ((c.in_ok-pass-2.ensures 0).0, (c.in_ok-pass-2.ensures 0).1, tt)).1 } in
    let came2 : Passed (test rule.Corner (all_reduced c.args.lines.now (c.args.point.now ∷ pieces (length c.args.named.now) c.args.problem.now.objs c.args.directions.now)) ∷ []) 0 0 = record { none = (subst (λ (es : List Event). Runs {X = Unit {0}} is_held es 0 0 (λ _. ⊤) (Ok tt)) (ap (λ (b : Bool). test rule.Corner b ∷ []) c.are_reduced.ensures) ((c.in_ok-pass-3.ensures 0).0, (c.in_ok-pass-3.ensures 0).1, tt)).0; count = (subst (λ (es : List Event). Runs {X = Unit {0}} is_held es 0 0 (λ _. ⊤) (Ok tt)) (ap (λ (b : Bool). test rule.Corner b ∷ []) c.are_reduced.ensures) ((c.in_ok-pass-3.ensures 0).0, (c.in_ok-pass-3.ensures 0).1, tt)).1 } in
    let came3 : Passed (test rule.Corner (list_all (λ d. same_ℚ (magnitude (leading d)) one_ℚ) (pieces (length c.args.named.now) c.args.problem.now.objs c.args.directions.now)) ∷ []) 0 0 = record { none = (subst (λ (es : List Event). Runs {X = Unit {0}} is_held es 0 0 (λ _. ⊤) (Ok tt)) (ap (λ (b : Bool). test rule.Corner b ∷ []) c.are_normed.ensures) ((c.in_ok-pass-4.ensures 0).0, (c.in_ok-pass-4.ensures 0).1, tt)).0; count = (subst (λ (es : List Event). Runs {X = Unit {0}} is_held es 0 0 (λ _. ⊤) (Ok tt)) (ap (λ (b : Bool). test rule.Corner b ∷ []) c.are_normed.ensures) ((c.in_ok-pass-4.ensures 0).0, (c.in_ok-pass-4.ensures 0).1, tt)).1 } in
    let here : Stopped (tights_events c.args.point.now (named_from (map stated c.args.cuts.now) c.args.named.now)) 0 c.in_err-are_tight.field-0.0 = record { at = c.in_err-are_tight.ensures } in
    let stopped = subst (λ (es : List Event). Stops is_held es 0 c.in_err-are_tight.field-0.0) (sym (start-as c.args.problem.now c.args.lines.now s (map stated c.args.cuts.now) c.args.named.now c.args.point.now c.args.directions.now given)) ((stopped-later came0 (stopped-later came1 (stopped-later came2 (stopped-later came3 (stopped-in (all_corners (pieces (length c.args.named.now) c.args.problem.now.objs c.args.directions.now) (named_from (map stated c.args.cuts.now) c.args.named.now)) here))))).at) in
    search (stopped, rules)

pub meet_directions-requires-clause-many : goal.meet_directions-requires-clause-many
meet_directions-requires-clause-many c = (let n = (fit-many (length c.args.named.now) (length c.args.lines.now) c.args.problem.now.objs (length c.args.point.now) (length c.args.directions.now) (sym c.lists_fit.ensures ∙ test-passed 1 rule.Length c.lists_fit.result (c.in_ok-pass.ensures 0).0)) in let o = c.args.problem.now.objs_bounded in omega (arith, n, o))

pub meet_directions-requires-clause-entries : goal.meet_directions-requires-clause-entries
meet_directions-requires-clause-entries c = (fit-directions (length c.args.named.now) (length c.args.lines.now) c.args.problem.now.objs (length c.args.point.now) (length c.args.directions.now) (sym c.lists_fit.ensures ∙ test-passed 1 rule.Length c.lists_fit.result (c.in_ok-pass.ensures 0).0))

pub meet_directions-requires-clause-named : goal.meet_directions-requires-clause-named
meet_directions-requires-clause-named c = (both_true (rises c.args.named.now) (all_within (length c.args.cuts.now) c.args.named.now) (sym c.are_picks.ensures ∙ test-passed 1 rule.Index c.are_picks.result (c.in_ok-pass-2.ensures 0).0)).1

pub meet_directions-requires-clause-room : goal.meet_directions-requires-clause-room
meet_directions-requires-clause-room c =
    let s : State = record { cuts = map stated c.args.cuts.now; used = []; list = starting 1 [] } in
    let given : s.cuts ≡ map stated c.args.cuts.now = refl in
    let room : 0 + steps (start_events c.args.problem.now c.args.lines.now s c.args.named.now c.args.point.now c.args.directions.now) < 9223372036854775808 = let few = steps-start c.args.problem.now c.args.lines.now s c.args.named.now c.args.point.now c.args.directions.now (fit-many (length c.args.named.now) (length c.args.lines.now) c.args.problem.now.objs (length c.args.point.now) (length c.args.directions.now) (sym c.lists_fit.ensures ∙ test-passed 1 rule.Length c.lists_fit.result (c.in_ok-pass.ensures 0).0)) (fit-point (length c.args.named.now) (length c.args.lines.now) c.args.problem.now.objs (length c.args.point.now) (length c.args.directions.now) (sym c.lists_fit.ensures ∙ test-passed 1 rule.Length c.lists_fit.result (c.in_ok-pass.ensures 0).0)) in omega (arith, few) in
    let came0 : Passed (test rule.Length (length c.args.named.now + length c.args.lines.now == c.args.problem.now.objs && nat_le 1 (length c.args.named.now) && length c.args.point.now == c.args.problem.now.objs && length c.args.directions.now == length c.args.named.now * c.args.problem.now.objs) ∷ []) 0 0 = record { none = (subst (λ (es : List Event). Runs {X = Unit {0}} is_held es 0 0 (λ _. ⊤) (Ok tt)) (ap (λ (b : Bool). test rule.Length b ∷ []) c.lists_fit.ensures) ((c.in_ok-pass.ensures 0).0, (c.in_ok-pass.ensures 0).1, tt)).0; count = (subst (λ (es : List Event). Runs {X = Unit {0}} is_held es 0 0 (λ _. ⊤) (Ok tt)) (ap (λ (b : Bool). test rule.Length b ∷ []) c.lists_fit.ensures) ((c.in_ok-pass.ensures 0).0, (c.in_ok-pass.ensures 0).1, tt)).1 } in
    let came1 : Passed (test rule.Index (rises c.args.named.now && all_within (length (map stated c.args.cuts.now)) c.args.named.now) ∷ []) 0 0 = record { none = (subst (λ (es : List Event). Runs {X = Unit {0}} is_held es 0 0 (λ _. ⊤) (Ok tt)) (ap (λ (b : Bool). test rule.Index b ∷ []) (c.are_picks.ensures ∙ ap (λ (n : ℕ). rises c.args.named.now && all_within n c.args.named.now) (sym (length-map c.args.cuts.now stated)))) ((c.in_ok-pass-2.ensures 0).0, (c.in_ok-pass-2.ensures 0).1, tt)).0; count = (subst (λ (es : List Event). Runs {X = Unit {0}} is_held es 0 0 (λ _. ⊤) (Ok tt)) (ap (λ (b : Bool). test rule.Index b ∷ []) (c.are_picks.ensures ∙ ap (λ (n : ℕ). rises c.args.named.now && all_within n c.args.named.now) (sym (length-map c.args.cuts.now stated)))) ((c.in_ok-pass-2.ensures 0).0, (c.in_ok-pass-2.ensures 0).1, tt)).1 } in
    let came2 : Passed (test rule.Corner (all_reduced c.args.lines.now (c.args.point.now ∷ pieces (length c.args.named.now) c.args.problem.now.objs c.args.directions.now)) ∷ []) 0 0 = record { none = (subst (λ (es : List Event). Runs {X = Unit {0}} is_held es 0 0 (λ _. ⊤) (Ok tt)) (ap (λ (b : Bool). test rule.Corner b ∷ []) c.are_reduced.ensures) ((c.in_ok-pass-3.ensures 0).0, (c.in_ok-pass-3.ensures 0).1, tt)).0; count = (subst (λ (es : List Event). Runs {X = Unit {0}} is_held es 0 0 (λ _. ⊤) (Ok tt)) (ap (λ (b : Bool). test rule.Corner b ∷ []) c.are_reduced.ensures) ((c.in_ok-pass-3.ensures 0).0, (c.in_ok-pass-3.ensures 0).1, tt)).1 } in
    let came3 : Passed (test rule.Corner (list_all (λ d. same_ℚ (magnitude (leading d)) one_ℚ) (pieces (length c.args.named.now) c.args.problem.now.objs c.args.directions.now)) ∷ []) 0 0 = record { none = (subst (λ (es : List Event). Runs {X = Unit {0}} is_held es 0 0 (λ _. ⊤) (Ok tt)) (ap (λ (b : Bool). test rule.Corner b ∷ []) c.are_normed.ensures) ((c.in_ok-pass-4.ensures 0).0, (c.in_ok-pass-4.ensures 0).1, tt)).0; count = (subst (λ (es : List Event). Runs {X = Unit {0}} is_held es 0 0 (λ _. ⊤) (Ok tt)) (ap (λ (b : Bool). test rule.Corner b ∷ []) c.are_normed.ensures) ((c.in_ok-pass-4.ensures 0).0, (c.in_ok-pass-4.ensures 0).1, tt)).1 } in
    let came4 : Passed (tights_events c.args.point.now (named_from (map stated c.args.cuts.now) c.args.named.now)) 0 c.are_tight.new.counter.taken = record { none = c.in_ok-are_tight.ensures.0; count = c.in_ok-are_tight.ensures.1 } in
    (room-after (all_corners (pieces (length c.args.named.now) c.args.problem.now.objs c.args.directions.now) (named_from (map stated c.args.cuts.now) c.args.named.now)) _ came4 (room-after ((tights_events c.args.point.now (named_from (map stated c.args.cuts.now) c.args.named.now)) ++ (all_corners (pieces (length c.args.named.now) c.args.problem.now.objs c.args.directions.now) (named_from (map stated c.args.cuts.now) c.args.named.now))) _ came3 (room-after ((test rule.Corner (list_all (λ d. same_ℚ (magnitude (leading d)) one_ℚ) (pieces (length c.args.named.now) c.args.problem.now.objs c.args.directions.now)) ∷ []) ++ ((tights_events c.args.point.now (named_from (map stated c.args.cuts.now) c.args.named.now)) ++ (all_corners (pieces (length c.args.named.now) c.args.problem.now.objs c.args.directions.now) (named_from (map stated c.args.cuts.now) c.args.named.now)))) _ came2 (room-after ((test rule.Corner (all_reduced c.args.lines.now (c.args.point.now ∷ pieces (length c.args.named.now) c.args.problem.now.objs c.args.directions.now)) ∷ []) ++ ((test rule.Corner (list_all (λ d. same_ℚ (magnitude (leading d)) one_ℚ) (pieces (length c.args.named.now) c.args.problem.now.objs c.args.directions.now)) ∷ []) ++ ((tights_events c.args.point.now (named_from (map stated c.args.cuts.now) c.args.named.now)) ++ (all_corners (pieces (length c.args.named.now) c.args.problem.now.objs c.args.directions.now) (named_from (map stated c.args.cuts.now) c.args.named.now))))) _ came1 (room-after ((test rule.Index (rises c.args.named.now && all_within (length (map stated c.args.cuts.now)) c.args.named.now) ∷ []) ++ ((test rule.Corner (all_reduced c.args.lines.now (c.args.point.now ∷ pieces (length c.args.named.now) c.args.problem.now.objs c.args.directions.now)) ∷ []) ++ ((test rule.Corner (list_all (λ d. same_ℚ (magnitude (leading d)) one_ℚ) (pieces (length c.args.named.now) c.args.problem.now.objs c.args.directions.now)) ∷ []) ++ ((tights_events c.args.point.now (named_from (map stated c.args.cuts.now) c.args.named.now)) ++ (all_corners (pieces (length c.args.named.now) c.args.problem.now.objs c.args.directions.now) (named_from (map stated c.args.cuts.now) c.args.named.now)))))) _ came0 (subst (λ (es : List Event). 0 + steps es < 9223372036854775808) (start-as c.args.problem.now c.args.lines.now s (map stated c.args.cuts.now) c.args.named.now c.args.point.now c.args.directions.now given) room))))))

pub returns : goal.returns
returns c = λ s given.
    let came0 : Passed (test rule.Length (length c.args.named.now + length c.args.lines.now == c.args.problem.now.objs && nat_le 1 (length c.args.named.now) && length c.args.point.now == c.args.problem.now.objs && length c.args.directions.now == length c.args.named.now * c.args.problem.now.objs) ∷ []) 0 0 = record { none = (subst (λ (es : List Event). Runs {X = Unit {0}} is_held es 0 0 (λ _. ⊤) (Ok tt)) (ap (λ (b : Bool). test rule.Length b ∷ []) c.lists_fit.ensures) ((c.in_ok-pass.ensures 0).0, (c.in_ok-pass.ensures 0).1, tt)).0; count = (subst (λ (es : List Event). Runs {X = Unit {0}} is_held es 0 0 (λ _. ⊤) (Ok tt)) (ap (λ (b : Bool). test rule.Length b ∷ []) c.lists_fit.ensures) ((c.in_ok-pass.ensures 0).0, (c.in_ok-pass.ensures 0).1, tt)).1 } in
    let came1 : Passed (test rule.Index (rises c.args.named.now && all_within (length (map stated c.args.cuts.now)) c.args.named.now) ∷ []) 0 0 = record { none = (subst (λ (es : List Event). Runs {X = Unit {0}} is_held es 0 0 (λ _. ⊤) (Ok tt)) (ap (λ (b : Bool). test rule.Index b ∷ []) (c.are_picks.ensures ∙ ap (λ (n : ℕ). rises c.args.named.now && all_within n c.args.named.now) (sym (length-map c.args.cuts.now stated)))) ((c.in_ok-pass-2.ensures 0).0, (c.in_ok-pass-2.ensures 0).1, tt)).0; count = (subst (λ (es : List Event). Runs {X = Unit {0}} is_held es 0 0 (λ _. ⊤) (Ok tt)) (ap (λ (b : Bool). test rule.Index b ∷ []) (c.are_picks.ensures ∙ ap (λ (n : ℕ). rises c.args.named.now && all_within n c.args.named.now) (sym (length-map c.args.cuts.now stated)))) ((c.in_ok-pass-2.ensures 0).0, (c.in_ok-pass-2.ensures 0).1, tt)).1 } in
    let came2 : Passed (test rule.Corner (all_reduced c.args.lines.now (c.args.point.now ∷ pieces (length c.args.named.now) c.args.problem.now.objs c.args.directions.now)) ∷ []) 0 0 = record { none = (subst (λ (es : List Event). Runs {X = Unit {0}} is_held es 0 0 (λ _. ⊤) (Ok tt)) (ap (λ (b : Bool). test rule.Corner b ∷ []) c.are_reduced.ensures) ((c.in_ok-pass-3.ensures 0).0, (c.in_ok-pass-3.ensures 0).1, tt)).0; count = (subst (λ (es : List Event). Runs {X = Unit {0}} is_held es 0 0 (λ _. ⊤) (Ok tt)) (ap (λ (b : Bool). test rule.Corner b ∷ []) c.are_reduced.ensures) ((c.in_ok-pass-3.ensures 0).0, (c.in_ok-pass-3.ensures 0).1, tt)).1 } in
    let came3 : Passed (test rule.Corner (list_all (λ d. same_ℚ (magnitude (leading d)) one_ℚ) (pieces (length c.args.named.now) c.args.problem.now.objs c.args.directions.now)) ∷ []) 0 0 = record { none = (subst (λ (es : List Event). Runs {X = Unit {0}} is_held es 0 0 (λ _. ⊤) (Ok tt)) (ap (λ (b : Bool). test rule.Corner b ∷ []) c.are_normed.ensures) ((c.in_ok-pass-4.ensures 0).0, (c.in_ok-pass-4.ensures 0).1, tt)).0; count = (subst (λ (es : List Event). Runs {X = Unit {0}} is_held es 0 0 (λ _. ⊤) (Ok tt)) (ap (λ (b : Bool). test rule.Corner b ∷ []) c.are_normed.ensures) ((c.in_ok-pass-4.ensures 0).0, (c.in_ok-pass-4.ensures 0).1, tt)).1 } in
    let came4 : Passed (tights_events c.args.point.now (named_from (map stated c.args.cuts.now) c.args.named.now)) 0 c.are_tight.new.counter.taken = record { none = c.in_ok-are_tight.ensures.0; count = c.in_ok-are_tight.ensures.1 } in
    let last : Ran {X = Unit {0}} (all_corners (pieces (length c.args.named.now) c.args.problem.now.objs c.args.directions.now) (named_from (map stated c.args.cuts.now) c.args.named.now)) c.are_tight.new.counter.taken c.meet_directions.new.counter.taken (λ _. ⊤) c.meet_directions.result = record { runs = c.meet_directions.ensures } in
    whole-run (start_events c.args.problem.now c.args.lines.now s c.args.named.now c.args.point.now c.args.directions.now) c.meet_directions.new.counter.taken (λ _. ⊤) c.meet_directions.result (subst (λ (es : List Event). Runs {X = Unit {0}} is_held es 0 c.meet_directions.new.counter.taken (λ _. ⊤) c.meet_directions.result) (sym (start-as c.args.problem.now c.args.lines.now s (map stated c.args.cuts.now) c.args.named.now c.args.point.now c.args.directions.now given)) ((ran-after came0 (ran-after came1 (ran-after came2 (ran-after came3 (ran-after came4 last))))).runs))
