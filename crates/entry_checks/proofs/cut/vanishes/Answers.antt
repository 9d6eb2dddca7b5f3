use Rattle.std.proofs.Common.{rules, ap, ◌∙◌, [], ◌∷◌, length}
use Rattle.exact_field.specs.Vector.{dot}
use Rattle.frac128.specs.Sparse.{is_zero}
use Rattle.log_rules.specs.Events.{dot_steps}
use Rattle.log_rules.specs.Events.Event.{test}
use Rattle.log_rules.specs.declared.rule.Rule.TheVariants as rule
use Rattle.upper_image.specs.Spots.{dense}
use Rattle.entry_checks.proofs.Going.{Stopped, stopped-in, then-test, room-in}
use Rattle.entry_checks.proofs.cut.vanishes.Goals as goal

pub sparse_dot-requires-clause-room : goal.sparse_dot-requires-clause-room
sparse_dot-requires-clause-room c =
    room-in (dot_steps (dense (length c.args.u.now) c.args.sides.now) c.args.u.now) (test rule.Balance (is_zero (dot (dense (length c.args.u.now) c.args.sides.now) c.args.u.now)) ∷ []) c.args.counter.now.taken _ c.requires.room

pub returns-in_err-sum : goal.returns-in_err-sum
returns-in_err-sum c =
    let here : Stopped (dot_steps (dense (length c.args.u.now) c.args.sides.now) c.args.u.now) c.args.counter.now.taken c.in_err-sum.field-0.0 = record { at = c.in_err-sum.ensures } in
    let stopped = (stopped-in (test rule.Balance (is_zero (dot (dense (length c.args.u.now) c.args.sides.now) c.args.u.now)) ∷ []) here).at in
    search (stopped, rules)

pub returns : goal.returns
returns c =
    then-test (dot_steps (dense (length c.args.u.now) c.args.sides.now) c.args.u.now) c.args.counter.now.taken c.sparse_dot.new.self.taken rule.Balance c.is_zero.result (is_zero (dot (dense (length c.args.u.now) c.args.sides.now) c.args.u.now)) c.pass.result
    record { none = c.in_ok-sum.ensures.0; count = c.in_ok-sum.ensures.1 } (c.is_zero.ensures ∙ ap is_zero c.in_ok-sum.ensures.2) (c.pass.ensures c.sparse_dot.new.self.taken)
