use Rattle.std.proofs.Common.{rules, ap, ◌∙◌, [], ◌∷◌}
use Rattle.exact_field.specs.Rational.{zero_ℚ, lt_ℚ}
use Rattle.log_rules.specs.Events.{product_steps}
use Rattle.log_rules.specs.Events.Event.{test}
use Rattle.log_rules.specs.declared.rule.Rule.TheVariants as rule
use Rattle.upper_image.specs.Spots.{product}
use Rattle.entry_checks.proofs.Going.{Stopped, stopped-in, then-test, room-in}
use Rattle.entry_checks.proofs.cut.has_positive_bound.Goals as goal

pub dot_sparse-requires-clause-room : goal.dot_sparse-requires-clause-room
dot_sparse-requires-clause-room c =
    room-in (product_steps c.args.bounds.now c.args.u.now) (test rule.Bound (lt_ℚ zero_ℚ (product c.args.bounds.now c.args.u.now)) ∷ []) c.args.counter.now.taken _ c.requires.room

pub returns-in_err-sum : goal.returns-in_err-sum
returns-in_err-sum c =
    let here : Stopped (product_steps c.args.bounds.now c.args.u.now) c.args.counter.now.taken c.in_err-sum.field-0.0 = record { at = c.in_err-sum.ensures } in
    let stopped = (stopped-in (test rule.Bound (lt_ℚ zero_ℚ (product c.args.bounds.now c.args.u.now)) ∷ []) here).at in
    search (stopped, rules)

pub returns : goal.returns
returns c =
    then-test (product_steps c.args.bounds.now c.args.u.now) c.args.counter.now.taken c.dot_sparse.new.self.taken rule.Bound c.is_positive.result (lt_ℚ zero_ℚ (product c.args.bounds.now c.args.u.now)) c.pass.result
    record { none = c.in_ok-sum.ensures.0; count = c.in_ok-sum.ensures.1 } (c.is_positive.ensures.test ∙ ap (lt_ℚ zero_ℚ) c.in_ok-sum.ensures.2) (c.pass.ensures c.dot_sparse.new.self.taken)
