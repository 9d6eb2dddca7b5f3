use Rattle.std.proofs.Common.{rules, ap, ◌∙◌, ◌+◌, [], ◌∷◌}
use Rattle.exact_field.specs.Order.{same_ℚ}
use Rattle.exact_field.specs.Rational.{ℚ}
use Rattle.frac128.specs.Held.{is_held}
use Rattle.log_rules.specs.Events.{product_steps}
use Rattle.log_rules.specs.Events.Event.{test}
use Rattle.log_rules.specs.declared.rule.Rule.TheVariants as rule
use Rattle.log_rules.proofs.Failures.{stops-then}
use Rattle.upper_image.specs.Spots.{column, product}
use Rattle.entry_checks.proofs.Going.{then-test, room-in}
use Rattle.entry_checks.proofs.cone.combines_at.Goals as goal

pub column_dot-requires-clause-room : goal.column_dot-requires-clause-room
column_dot-requires-clause-room c = room-in (product_steps (column c.args.vectors.now (c.args.place + 1)) c.args.m.now) (test rule.Cone (same_ℚ (product (column c.args.vectors.now (c.args.place + 1)) c.args.m.now) c.args.entry) ∷ []) c.args.counter.now.taken _ c.requires.room

pub returns-in_err-sum : goal.returns-in_err-sum
returns-in_err-sum c =
    let stopped = stops-then is_held (product_steps (column c.args.vectors.now (c.args.place + 1)) c.args.m.now) (test rule.Cone (same_ℚ (product (column c.args.vectors.now (c.args.place + 1)) c.args.m.now) c.args.entry) ∷ []) c.args.counter.now.taken c.in_err-sum.field-0.0 c.in_err-sum.ensures in
    search (stopped, rules)

pub returns : goal.returns
returns c =
    then-test (product_steps (column c.args.vectors.now (c.args.place + 1)) c.args.m.now) c.args.counter.now.taken c.column_dot.new.counter.taken rule.Cone c.eq.result (same_ℚ (product (column c.args.vectors.now (c.args.place + 1)) c.args.m.now) c.args.entry) c.pass.result
    record { none = c.in_ok-sum.ensures.0; count = c.in_ok-sum.ensures.1 } (c.eq.ensures ∙ ap (λ (z : ℚ). same_ℚ z c.args.entry) c.in_ok-sum.ensures.2) (c.pass.ensures c.column_dot.new.counter.taken)
