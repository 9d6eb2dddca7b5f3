use Rattle.std.proofs.Common.{rules, ap₂, ◌∙◌, [], ◌∷◌}
use Rattle.exact_field.specs.Order.{same_ℚ}
use Rattle.exact_field.specs.Rational.{zero_ℚ, one_ℚ}
use Rattle.exact_field.specs.Vector.{dot}
use Rattle.log_rules.specs.Events.{dot_steps}
use Rattle.log_rules.specs.Events.Event.{test}
use Rattle.log_rules.specs.declared.rule.Rule.TheVariants as rule
use Rattle.entry_checks.proofs.Going.{Stopped, stopped-in, then-test, room-in}
use Rattle.std.specs.Prelude.{if◌then◌else◌}
use Rattle.entry_checks.proofs.duality.has_unit.Goals as goal

pub dot-requires-clause-room : goal.dot-requires-clause-room
dot-requires-clause-room c =
    room-in (dot_steps c.args.v.now c.args.row.now) (test rule.Interior (same_ℚ (dot c.args.v.now c.args.row.now) (if c.args.own then one_ℚ else zero_ℚ)) ∷ []) c.args.counter.now.taken _ c.requires.room

pub returns-in_err-product : goal.returns-in_err-product
returns-in_err-product c =
    let here : Stopped (dot_steps c.args.v.now c.args.row.now) c.args.counter.now.taken c.in_err-product.field-0.0 = record { at = c.in_err-product.ensures } in
    let stopped = (stopped-in (test rule.Interior (same_ℚ (dot c.args.v.now c.args.row.now) (if c.args.own then one_ℚ else zero_ℚ)) ∷ []) here).at in
    search (stopped, rules)

pub returns : goal.returns
returns c =
    then-test (dot_steps c.args.v.now c.args.row.now) c.args.counter.now.taken c.dot.new.self.taken rule.Interior c.eq.result (same_ℚ (dot c.args.v.now c.args.row.now) (if c.args.own then one_ℚ else zero_ℚ)) c.pass.result
    record { none = c.in_ok-product.ensures.0; count = c.in_ok-product.ensures.1 } (c.eq.ensures ∙ ap₂ same_ℚ c.in_ok-product.ensures.2 c.unit.ensures) (c.pass.ensures c.dot.new.self.taken)
