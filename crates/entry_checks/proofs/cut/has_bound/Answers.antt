use Rattle.std.proofs.Common.{rules, ap, ◌∙◌, [], ◌∷◌}
use Rattle.exact_field.specs.Order.{same_ℚ}
use Rattle.exact_field.specs.Rational.{ℚ}
use Rattle.log_rules.specs.Events.{product_steps}
use Rattle.log_rules.specs.Events.Event.{test}
use Rattle.log_rules.specs.declared.rule.Rule.TheVariants as rule
use Rattle.upper_image.specs.Spots.{product}
use Rattle.entry_checks.proofs.Going.{Stopped, stopped-in, then-test, room-in}
use Rattle.entry_checks.proofs.cut.has_bound.Goals as goal

pub dot_sparse-requires-clause-room : goal.dot_sparse-requires-clause-room
dot_sparse-requires-clause-room c =
    room-in (product_steps c.args.bounds.now c.args.u.now) (test rule.Bound (same_ℚ (product c.args.bounds.now c.args.u.now) c.args.gamma) ∷ []) c.args.counter.now.taken _ c.requires.room

pub returns-in_err-sum : goal.returns-in_err-sum
returns-in_err-sum c =
    let here : Stopped (product_steps c.args.bounds.now c.args.u.now) c.args.counter.now.taken c.in_err-sum.field-0.0 = record { at = c.in_err-sum.ensures } in
    let stopped = (stopped-in (test rule.Bound (same_ℚ (product c.args.bounds.now c.args.u.now) c.args.gamma) ∷ []) here).at in
    search (stopped, rules)

pub returns : goal.returns
returns c =
    then-test (product_steps c.args.bounds.now c.args.u.now) c.args.counter.now.taken c.dot_sparse.new.self.taken rule.Bound c.eq.result (same_ℚ (product c.args.bounds.now c.args.u.now) c.args.gamma) c.pass.result
    record { none = c.in_ok-sum.ensures.0; count = c.in_ok-sum.ensures.1 } (c.eq.ensures ∙ ap (λ (z : ℚ). same_ℚ z c.args.gamma) c.in_ok-sum.ensures.2) (c.pass.ensures c.dot_sparse.new.self.taken)
