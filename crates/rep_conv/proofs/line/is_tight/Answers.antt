use Rattle.std.proofs.Common.{rules, [], ◌∷◌, ap, ◌∙◌}
use Rattle.exact_field.specs.Vector.{dot}
use Rattle.frac128.specs.Held.{is_held}
use Rattle.frac128.specs.Sparse.{is_zero}
use Rattle.log_rules.specs.Events.{dot_steps}
use Rattle.log_rules.specs.Events.Event.{test}
use Rattle.log_rules.specs.declared.rule.Rule.TheVariants as rule
use Rattle.log_rules.proofs.Failures.{stops-then}
use Rattle.entry_checks.proofs.Going.{room-in, then-test}
use Rattle.rep_conv.proofs.line.is_tight.Goals as goal

pub dot-requires-clause-room : goal.dot-requires-clause-room
dot-requires-clause-room c = room-in (dot_steps c.args.row.now c.args.d.now) (test rule.Corner (is_zero (dot c.args.row.now c.args.d.now)) ∷ []) c.args.counter.now.taken _ c.requires.room

pub returns-in_err-product : goal.returns-in_err-product
returns-in_err-product c =
    let stopped = stops-then is_held (dot_steps c.args.row.now c.args.d.now) (test rule.Corner (is_zero (dot c.args.row.now c.args.d.now)) ∷ []) c.args.counter.now.taken c.in_err-product.field-0.0 c.in_err-product.ensures in
    search (stopped, rules)

pub returns : goal.returns
returns c = then-test (dot_steps c.args.row.now c.args.d.now) c.args.counter.now.taken c.dot.new.self.taken rule.Corner c.is_zero.result (is_zero (dot c.args.row.now c.args.d.now)) c.pass.result
    record { none = c.in_ok-product.ensures.0; count = c.in_ok-product.ensures.1 } (c.is_zero.ensures ∙ ap is_zero c.in_ok-product.ensures.2) (c.pass.ensures c.dot.new.self.taken)
