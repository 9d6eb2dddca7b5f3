use Rattle.std.proofs.Common.{rules, ap, ◌∙◌, [], ◌∷◌}
use Rattle.exact_field.specs.Rational.{ℚ, zero_ℚ, lt_ℚ}
use Rattle.exact_field.specs.Vector.{dot}
use Rattle.frac128.specs.Sparse.{is_zero}
use Rattle.log_rules.specs.Events.{dot_steps}
use Rattle.log_rules.specs.Events.Event.{test}
use Rattle.log_rules.specs.declared.rule.Rule.TheVariants as rule
use Rattle.entry_checks.proofs.Going.{Stopped, stopped-in, then-test, room-in}
use Rattle.std.specs.Prelude.{if◌then◌else◌}
use Rattle.entry_checks.proofs.corner.meets_direction.Goals as goal

pub dot-requires-clause-room : goal.dot-requires-clause-room
dot-requires-clause-room c =
    room-in (dot_steps c.args.w.now c.args.direction.now) (test rule.Corner (if c.args.own then lt_ℚ zero_ℚ (dot c.args.w.now c.args.direction.now) else is_zero (dot c.args.w.now c.args.direction.now)) ∷ []) c.args.counter.now.taken _ c.requires.room

pub returns-in_err-product : goal.returns-in_err-product
returns-in_err-product c =
    let here : Stopped (dot_steps c.args.w.now c.args.direction.now) c.args.counter.now.taken c.in_err-product.field-0.0 = record { at = c.in_err-product.ensures } in
    let stopped = (stopped-in (test rule.Corner (if c.args.own then lt_ℚ zero_ℚ (dot c.args.w.now c.args.direction.now) else is_zero (dot c.args.w.now c.args.direction.now)) ∷ []) here).at in
    search (stopped, rules)

pub returns : goal.returns
returns c =
    then-test (dot_steps c.args.w.now c.args.direction.now) c.args.counter.now.taken c.dot.new.self.taken rule.Corner c.fits_corner.result (if c.args.own then lt_ℚ zero_ℚ (dot c.args.w.now c.args.direction.now) else is_zero (dot c.args.w.now c.args.direction.now)) c.pass.result
    record { none = c.in_ok-product.ensures.0; count = c.in_ok-product.ensures.1 } (c.fits_corner.ensures ∙ ap (λ (z : ℚ). if c.args.own then lt_ℚ zero_ℚ z else is_zero z) c.in_ok-product.ensures.2) (c.pass.ensures c.dot.new.self.taken)
