use Rattle.std.proofs.Common.{rules, ap, ◌∙◌, [], ◌∷◌}
use Rattle.exact_field.specs.Rational.{zero_ℚ, le_ℚ}
use Rattle.exact_field.specs.Vector.{dot}
use Rattle.frac128.specs.Held.{is_held}
use Rattle.log_rules.specs.Events.{dot_steps}
use Rattle.log_rules.specs.Events.Event.{test}
use Rattle.log_rules.specs.declared.rule.Rule.TheVariants as rule
use Rattle.log_rules.proofs.Failures.{stops-then}
use Rattle.entry_checks.proofs.Going.{then-test, room-in}
use Rattle.entry_checks.proofs.cone.has_product.Goals as goal

pub dot-requires-clause-room : goal.dot-requires-clause-room
dot-requires-clause-room c = room-in (dot_steps c.args.v.now c.args.e.now) (test rule.Cone (le_ℚ zero_ℚ (dot c.args.v.now c.args.e.now)) ∷ []) c.args.counter.now.taken _ c.requires.room

pub returns-in_err-product : goal.returns-in_err-product
returns-in_err-product c =
    let stopped = stops-then is_held (dot_steps c.args.v.now c.args.e.now) (test rule.Cone (le_ℚ zero_ℚ (dot c.args.v.now c.args.e.now)) ∷ []) c.args.counter.now.taken c.in_err-product.field-0.0 c.in_err-product.ensures in
    search (stopped, rules)

pub returns : goal.returns
returns c =
    then-test (dot_steps c.args.v.now c.args.e.now) c.args.counter.now.taken c.dot.new.self.taken rule.Cone c.is_nonnegative.result (le_ℚ zero_ℚ (dot c.args.v.now c.args.e.now)) c.pass.result
    record { none = c.in_ok-product.ensures.0; count = c.in_ok-product.ensures.1 } (c.is_nonnegative.ensures ∙ ap (le_ℚ zero_ℚ) c.in_ok-product.ensures.2) (c.pass.ensures c.dot.new.self.taken)
