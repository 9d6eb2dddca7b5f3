use Rattle.std.proofs.Common.{rules, ap, ◌∙◌, [], ◌∷◌}
use Rattle.exact_field.specs.Order.{same_ℚ}
use Rattle.exact_field.specs.Rational.{ℚ}
use Rattle.exact_field.specs.Vector.{dot}
use Rattle.log_rules.specs.Events.{dot_steps}
use Rattle.log_rules.specs.Events.Event.{test}
use Rattle.log_rules.specs.declared.rule.Rule.TheVariants as rule
use Rattle.entry_checks.proofs.Going.{Stopped, stopped-in, then-test, room-in}
use Rattle.entry_checks.proofs.corner.is_tight.Goals as goal

pub dot-requires-clause-room : goal.dot-requires-clause-room
dot-requires-clause-room c =
    room-in (dot_steps c.args.w.now c.args.point.now) (test rule.Corner (same_ℚ (dot c.args.w.now c.args.point.now) c.args.gamma) ∷ []) c.args.counter.now.taken _ c.requires.room

pub returns-in_err-product : goal.returns-in_err-product
returns-in_err-product c =
    let here : Stopped (dot_steps c.args.w.now c.args.point.now) c.args.counter.now.taken c.in_err-product.field-0.0 = record { at = c.in_err-product.ensures } in
    let stopped = (stopped-in (test rule.Corner (same_ℚ (dot c.args.w.now c.args.point.now) c.args.gamma) ∷ []) here).at in
    search (stopped, rules)

pub returns : goal.returns
returns c =
    then-test (dot_steps c.args.w.now c.args.point.now) c.args.counter.now.taken c.dot.new.self.taken rule.Corner c.eq.result (same_ℚ (dot c.args.w.now c.args.point.now) c.args.gamma) c.pass.result
    record { none = c.in_ok-product.ensures.0; count = c.in_ok-product.ensures.1 } (c.eq.ensures ∙ ap (λ (z : ℚ). same_ℚ z c.args.gamma) c.in_ok-product.ensures.2) (c.pass.ensures c.dot.new.self.taken)
