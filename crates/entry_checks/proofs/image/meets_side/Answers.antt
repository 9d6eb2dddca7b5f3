use Rattle.std.proofs.Common.{rules, ap, ◌∙◌, [], ◌∷◌, length}
use Rattle.exact_field.specs.Rational.{ℚ, le_ℚ}
use Rattle.exact_field.specs.Vector.{dot}
use Rattle.log_rules.specs.Events.{dot_steps}
use Rattle.log_rules.specs.Events.Event.{test}
use Rattle.log_rules.specs.declared.rule.Rule.TheVariants as rule
use Rattle.upper_image.specs.Spots.{dense}
use Rattle.entry_checks.proofs.Going.{Stopped, stopped-in, then-test, room-in}
use Rattle.entry_checks.proofs.MatrixEvents.{le-tells}
use Rattle.entry_checks.proofs.image.meets_side.Goals as goal

pub sparse_dot-requires-clause-room : goal.sparse_dot-requires-clause-room
sparse_dot-requires-clause-room c =
    room-in (dot_steps (dense (length c.args.x.now) c.args.row.now) c.args.x.now) (test rule.Side (le_ℚ c.args.bound (dot (dense (length c.args.x.now) c.args.row.now) c.args.x.now)) ∷ []) c.args.counter.now.taken _ c.requires.room

pub returns-in_err-product : goal.returns-in_err-product
returns-in_err-product c =
    let here : Stopped (dot_steps (dense (length c.args.x.now) c.args.row.now) c.args.x.now) c.args.counter.now.taken c.in_err-product.field-0.0 = record { at = c.in_err-product.ensures } in
    let stopped = (stopped-in (test rule.Side (le_ℚ c.args.bound (dot (dense (length c.args.x.now) c.args.row.now) c.args.x.now)) ∷ []) here).at in
    search (stopped, rules)

pub returns : goal.returns
returns c =
    then-test (dot_steps (dense (length c.args.x.now) c.args.row.now) c.args.x.now) c.args.counter.now.taken c.sparse_dot.new.self.taken rule.Side c.le.result (le_ℚ c.args.bound (dot (dense (length c.args.x.now) c.args.row.now) c.args.x.now)) c.pass.result
    record { none = c.in_ok-product.ensures.0; count = c.in_ok-product.ensures.1 } (c.le.ensures ∙ le-tells c.args.bound c.in_ok-product.product ∙ ap (λ (z : ℚ). le_ℚ c.args.bound z) c.in_ok-product.ensures.2) (c.pass.ensures c.sparse_dot.new.self.taken)
