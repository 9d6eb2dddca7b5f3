use Rattle.std.proofs.Common.{rules, ap, ◌∙◌, ◌+◌, [], ◌∷◌}
use Rattle.exact_field.specs.Order.{same_ℚ}
use Rattle.exact_field.specs.Rational.{ℚ}
use Rattle.exact_field.specs.Vector.{dot}
use Rattle.log_rules.specs.Events.{dot_steps}
use Rattle.log_rules.specs.Events.Event.{test}
use Rattle.log_rules.specs.declared.rule.Rule.TheVariants as rule
use Rattle.upper_image.specs.Spots.{column}
use Rattle.entry_checks.proofs.Going.{Stopped, stopped-in, then-test, room-in}
use Rattle.entry_checks.proofs.duality.weighs_at.Goals as goal

pub column_product-requires-clause-room : goal.column_product-requires-clause-room
column_product-requires-clause-room c =
    room-in (dot_steps (column c.args.vectors.now (c.args.place + 1)) c.args.weights.now) (test rule.Interior (same_ℚ (dot (column c.args.vectors.now (c.args.place + 1)) c.args.weights.now) c.args.expected) ∷ []) c.args.counter.now.taken _ c.requires.room

pub returns-in_err-sum : goal.returns-in_err-sum
returns-in_err-sum c =
    let here : Stopped (dot_steps (column c.args.vectors.now (c.args.place + 1)) c.args.weights.now) c.args.counter.now.taken c.in_err-sum.field-0.0 = record { at = c.in_err-sum.ensures } in
    let stopped = (stopped-in (test rule.Interior (same_ℚ (dot (column c.args.vectors.now (c.args.place + 1)) c.args.weights.now) c.args.expected) ∷ []) here).at in
    search (stopped, rules)

pub returns : goal.returns
returns c =
    then-test (dot_steps (column c.args.vectors.now (c.args.place + 1)) c.args.weights.now) c.args.counter.now.taken c.column_product.new.counter.taken rule.Interior c.eq.result (same_ℚ (dot (column c.args.vectors.now (c.args.place + 1)) c.args.weights.now) c.args.expected) c.pass.result
    record { none = c.in_ok-sum.ensures.0; count = c.in_ok-sum.ensures.1 } (c.eq.ensures ∙ ap (λ (z : ℚ). same_ℚ z c.args.expected) c.in_ok-sum.ensures.2) (c.pass.ensures c.column_product.new.counter.taken)
