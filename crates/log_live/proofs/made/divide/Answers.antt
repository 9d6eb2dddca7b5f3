use Rattle.std.proofs.Common.{rules, sym, subst, ap, ap₂, arith, ◌∙◌, ◌≡◌, ℕ, List, [], ◌∷◌, ◌++◌, length, map}
use Rattle.exact_field.specs.Rational.{ℚ, ◌/ℚ◌}
use Rattle.frac128.specs.Held.{is_held}
use Rattle.log_rules.specs.Events.{Event, first_failure}
use Rattle.log_rules.specs.Events.Event.{step}
use Rattle.log_rules.specs.Runs.{Stops, steps}
use Rattle.entry_checks.proofs.Going.{Passed, Stopped, at-room, at-stop, at-more, at-end}
use Rattle.std.proofs.Common.{take}
use Rattle.exact_field.specs.declared.op.Op.TheVariants as op
use Rattle.entry_checks.proofs.Going.{stopped-after}
use Rattle.vlp_matrices.proofs.Lists.{map-take_more}
use Rattle.std.proofs.lemmas.List.{take_all}
use Rattle.std.proofs.lemmas.List.Concat.{flat_map_single}
use Rattle.log_live.proofs.made.divide.Goals as goal

pub div-requires-clause-room : goal.div-requires-clause-room
div-requires-clause-room c =
    let most = at-room (λ x. step op.Div x c.args.divisor ∷ []) (c.args.y.now) c.args.counter.now.taken c.loop-entry.entry-index c.loop-entry.counter.taken (c.entry-item.result) (omega arith) (c.entry-item.is) c.loop-entry.invariant.here in
    let room = c.requires.room in
    let all = ap steps (flat_map_single (λ x. step op.Div x c.args.divisor) c.args.y.now) in
    omega (arith, most, room, all)

pub returns-in_err-quotient : goal.returns-in_err-quotient
returns-in_err-quotient c =
    let stopped = subst (λ (es : List Event). Stops is_held es c.args.counter.now.taken c.in_err-quotient.field-0.0) (flat_map_single (λ x. step op.Div x c.args.divisor) c.args.y.now) (at-stop (λ x. step op.Div x c.args.divisor ∷ []) (c.args.y.now) c.args.counter.now.taken c.loop-entry.entry-index c.loop-entry.counter.taken (c.entry-item.result) c.in_err-quotient.field-0.0 (omega arith) (c.entry-item.is) c.loop-entry.invariant.here c.in_err-quotient.ensures) in
    search (stopped, rules)

pub returns-in_err-append : goal.returns-in_err-append
returns-in_err-append c =
    let came : Passed (step op.Div c.entry-item.result c.args.divisor ∷ []) c.loop-entry.counter.taken c.div.new.self.taken = record { none = c.in_ok-quotient.ensures.0; count = c.in_ok-quotient.ensures.1 } in
    let here : Stopped [] c.div.new.self.taken c.in_err-append.field-0.0 = record { at = c.in_err-append.ensures c.div.new.self.taken } in
    let stopped = subst (λ (es : List Event). Stops is_held es c.args.counter.now.taken c.in_err-append.field-0.0) (flat_map_single (λ x. step op.Div x c.args.divisor) c.args.y.now) (at-stop (λ x. step op.Div x c.args.divisor ∷ []) (c.args.y.now) c.args.counter.now.taken c.loop-entry.entry-index c.loop-entry.counter.taken (c.entry-item.result) c.in_err-append.field-0.0 (omega arith) (c.entry-item.is) c.loop-entry.invariant.here (stopped-after came here).at) in
    search (stopped, rules)

pub loop-entry-preserved : goal.loop-entry-preserved
loop-entry-preserved c =
    record {
      here = at-more (λ x. step op.Div x c.args.divisor ∷ []) (c.args.y.now) c.args.counter.now.taken c.loop-entry.entry-index c.loop-entry.counter.taken c.div.new.self.taken (c.entry-item.result) (omega arith) (c.entry-item.is) c.loop-entry.invariant.here record { none = c.in_ok-quotient.ensures.0; count = c.in_ok-quotient.ensures.1 };
      made = (c.in_ok-append.ensures 0).2 ∙ ap₂ (λ (vs : List ℚ) (z : ℚ). vs ++ z ∷ []) c.loop-entry.invariant.made c.in_ok-quotient.ensures.2
          ∙ sym (map-take_more (λ x. x /ℚ c.args.divisor) (c.args.y.now) c.loop-entry.entry-index (c.entry-item.result) (omega arith) (c.entry-item.is));
    }

pub returns : goal.returns
returns c =
    let over : c.loop-entry.entry-index ≡ length (c.args.y.now) = omega arith in
    let done = at-end (λ x. step op.Div x c.args.divisor ∷ []) (c.args.y.now) c.args.counter.now.taken c.loop-entry.entry-index c.loop-entry.counter.taken over c.loop-entry.invariant.here in
    let all = ap steps (flat_map_single (λ x. step op.Div x c.args.divisor) c.args.y.now) in
    let count = done.count in
    (sym (ap (first_failure is_held _) (flat_map_single (λ x. step op.Div x c.args.divisor) c.args.y.now)) ∙ done.none, omega (arith, count, all), c.loop-entry.invariant.made ∙ ap (λ (k : ℕ). map (λ x. x /ℚ c.args.divisor) (take k (c.args.y.now))) over ∙ ap (map (λ x. x /ℚ c.args.divisor)) (take_all (length (c.args.y.now)) (c.args.y.now) (omega arith)))
