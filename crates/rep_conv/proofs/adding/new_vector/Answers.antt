use Rattle.std.proofs.Common.{rules, ◌≡◌, ◌+◌, ◌<◌, List, [], ◌∷◌, ◌++◌, sym, ap, ◌∙◌, subst, arith}
use Rattle.exact_field.specs.Rational.{ℚ, neg_ℚ, ◌/ℚ◌}
use Rattle.exact_field.specs.declared.op.Op.TheVariants as op
use Rattle.frac128.specs.Held.{is_held}
use Rattle.log_rules.specs.Events.{Event}
use Rattle.log_rules.specs.Events.Event.{step}
use Rattle.log_rules.specs.LiveEvents.{meeting_point, meeting_steps}
use Rattle.log_rules.specs.Runs.{Runs, steps}
use Rattle.entry_checks.proofs.Going.{Passed, Stopped, stopped-in, stopped-later, Ran, ran-after, room-in, room-after}
use Rattle.polyhedra.specs.DoubleDescription.{magnitude, norming}
use Rattle.polyhedra.proofs.Norming.{magnitude-positive}
use Rattle.polyhedra.proofs.Order.{not_zero_of_positive}
use Rattle.rep_conv.specs.Adding.{quotients}
use Rattle.rep_conv.specs.Events.{quotient_steps}
use Rattle.log_live.specs.Adding.{quotients_events}
use Rattle.rep_conv.proofs.Pieces.{came_as, stopped_as, quotients_as, quotients_made}
use Rattle.rep_conv.proofs.adding.new_vector.Goals as goal

pub div-requires-clause-divisor : goal.div-requires-clause-divisor
div-requires-clause-divisor c e = c.requires.below (sym c.neg.ensures ∙ e)

pub div-requires-clause-room : goal.div-requires-clause-room
div-requires-clause-room c = let room = c.requires.room in omega (arith, room)

pub returns-in_err-k : goal.returns-in_err-k
returns-in_err-k c =
    let k = c.args.at_plus /ℚ neg_ℚ c.args.at_minus in
    let z = meeting_point k c.args.plus.now c.args.minus.now in
    let here : Stopped (step op.Div c.args.at_plus (neg_ℚ c.args.at_minus) ∷ []) c.args.counter.now.taken c.in_err-k.field-0.0 =
    stopped_as _ _ _ _ (ap (λ (d : ℚ). step op.Div c.args.at_plus d ∷ []) c.neg.ensures) c.in_err-k.ensures in
    let stopped = (stopped-in (meeting_steps k c.args.plus.now c.args.minus.now ++ quotient_steps z) here).at in
    search (stopped, rules)

pub point_between-requires-clause-room : goal.point_between-requires-clause-room
point_between-requires-clause-room c =
    let k = c.args.at_plus /ℚ neg_ℚ c.args.at_minus in
    let z = meeting_point k c.args.plus.now c.args.minus.now in
    let k_is = c.in_ok-k.ensures.2 ∙ ap (λ (d : ℚ). c.args.at_plus /ℚ d) c.neg.ensures in
    let came : Passed (step op.Div c.args.at_plus (neg_ℚ c.args.at_minus) ∷ []) c.args.counter.now.taken c.div.new.self.taken =
    came_as _ _ _ _ (ap (λ (d : ℚ). step op.Div c.args.at_plus d ∷ []) c.neg.ensures) c.in_ok-k.ensures.0 c.in_ok-k.ensures.1 in
    subst (λ (q : ℚ). c.div.new.self.taken + steps (meeting_steps q c.args.plus.now c.args.minus.now) < 9223372036854775808) (sym k_is)
    (room-in (meeting_steps k c.args.plus.now c.args.minus.now) (quotient_steps z) c.div.new.self.taken _
    (room-after (meeting_steps k c.args.plus.now c.args.minus.now ++ quotient_steps z) _ came c.requires.room))

pub returns-in_err-sum : goal.returns-in_err-sum
returns-in_err-sum c =
    let k = c.args.at_plus /ℚ neg_ℚ c.args.at_minus in
    let z = meeting_point k c.args.plus.now c.args.minus.now in
    let k_is = c.in_ok-k.ensures.2 ∙ ap (λ (d : ℚ). c.args.at_plus /ℚ d) c.neg.ensures in
    let came : Passed (step op.Div c.args.at_plus (neg_ℚ c.args.at_minus) ∷ []) c.args.counter.now.taken c.div.new.self.taken =
    came_as _ _ _ _ (ap (λ (d : ℚ). step op.Div c.args.at_plus d ∷ []) c.neg.ensures) c.in_ok-k.ensures.0 c.in_ok-k.ensures.1 in
    let here : Stopped (meeting_steps k c.args.plus.now c.args.minus.now) c.div.new.self.taken c.in_err-sum.field-0.0 =
    stopped_as _ _ _ _ (ap (λ (q : ℚ). meeting_steps q c.args.plus.now c.args.minus.now) k_is) c.in_err-sum.ensures in
    let stopped = (stopped-later came (stopped-in (quotient_steps z) here)).at in
    search (stopped, rules)

pub divide-requires-clause-divisor : goal.divide-requires-clause-divisor
divide-requires-clause-divisor c e =
    let k_is = c.in_ok-k.ensures.2 ∙ ap (λ (d : ℚ). c.args.at_plus /ℚ d) c.neg.ensures in
    let z_is = c.as_slice-z.ensures.items ∙ c.in_ok-sum.ensures.2 ∙ ap (λ (q : ℚ). meeting_point q c.args.plus.now c.args.minus.now) k_is in
    not_zero_of_positive (magnitude (norming c.as_slice-z.result.now))
    (magnitude-positive (norming c.as_slice-z.result.now) (λ none. c.requires.not_zero (sym (ap norming z_is) ∙ none)))
    (ap magnitude (sym c.norming_entry.ensures) ∙ sym c.magnitude-by.ensures ∙ e)

pub divide-requires-clause-room : goal.divide-requires-clause-room
divide-requires-clause-room c =
    let k = c.args.at_plus /ℚ neg_ℚ c.args.at_minus in
    let z = meeting_point k c.args.plus.now c.args.minus.now in
    let k_is = c.in_ok-k.ensures.2 ∙ ap (λ (d : ℚ). c.args.at_plus /ℚ d) c.neg.ensures in
    let z_is = c.as_slice-z.ensures.items ∙ c.in_ok-sum.ensures.2 ∙ ap (λ (q : ℚ). meeting_point q c.args.plus.now c.args.minus.now) k_is in
    let by_is = c.magnitude-by.ensures ∙ ap magnitude c.norming_entry.ensures in
    let came : Passed (step op.Div c.args.at_plus (neg_ℚ c.args.at_minus) ∷ []) c.args.counter.now.taken c.div.new.self.taken =
    came_as _ _ _ _ (ap (λ (d : ℚ). step op.Div c.args.at_plus d ∷ []) c.neg.ensures) c.in_ok-k.ensures.0 c.in_ok-k.ensures.1 in
    let met : Passed (meeting_steps k c.args.plus.now c.args.minus.now) c.div.new.self.taken c.point_between.new.counter.taken =
    came_as _ _ _ _ (ap (λ (q : ℚ). meeting_steps q c.args.plus.now c.args.minus.now) k_is) c.in_ok-sum.ensures.0 c.in_ok-sum.ensures.1 in
    subst (λ (es : List Event). c.point_between.new.counter.taken + steps es < 9223372036854775808)
    (sym (quotients_as _ _ _ z_is by_is))
    (room-after (quotient_steps z) _ met (room-after (meeting_steps k c.args.plus.now c.args.minus.now ++ quotient_steps z) _ came c.requires.room))

pub returns : goal.returns
returns c =
    let k = c.args.at_plus /ℚ neg_ℚ c.args.at_minus in
    let z = meeting_point k c.args.plus.now c.args.minus.now in
    let k_is = c.in_ok-k.ensures.2 ∙ ap (λ (d : ℚ). c.args.at_plus /ℚ d) c.neg.ensures in
    let z_is = c.as_slice-z.ensures.items ∙ c.in_ok-sum.ensures.2 ∙ ap (λ (q : ℚ). meeting_point q c.args.plus.now c.args.minus.now) k_is in
    let by_is = c.magnitude-by.ensures ∙ ap magnitude c.norming_entry.ensures in
    let came : Passed (step op.Div c.args.at_plus (neg_ℚ c.args.at_minus) ∷ []) c.args.counter.now.taken c.div.new.self.taken =
    came_as _ _ _ _ (ap (λ (d : ℚ). step op.Div c.args.at_plus d ∷ []) c.neg.ensures) c.in_ok-k.ensures.0 c.in_ok-k.ensures.1 in
    let met : Passed (meeting_steps k c.args.plus.now c.args.minus.now) c.div.new.self.taken c.point_between.new.counter.taken =
    came_as _ _ _ _ (ap (λ (q : ℚ). meeting_steps q c.args.plus.now c.args.minus.now) k_is) c.in_ok-sum.ensures.0 c.in_ok-sum.ensures.1 in
    let last : Ran {X = List ℚ} (quotient_steps z) c.point_between.new.counter.taken c.divide.new.counter.taken (λ v. v ≡ quotients z) c.divide.result =
    record {
      runs = subst (λ (es : List Event). Runs {X = List ℚ} is_held es c.point_between.new.counter.taken c.divide.new.counter.taken (λ v. v ≡ quotients z) c.divide.result)
          (quotients_as _ _ _ z_is by_is)
          (subst (λ (w : List ℚ). Runs {X = List ℚ} is_held (quotients_events c.magnitude-by.result c.as_slice-z.result.now) c.point_between.new.counter.taken c.divide.new.counter.taken (λ v. v ≡ w) c.divide.result)
          (quotients_made _ _ _ z_is by_is) c.divide.ensures);
    } in
    (ran-after came (ran-after met last)).runs
