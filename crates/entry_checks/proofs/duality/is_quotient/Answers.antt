use Rattle.std.proofs.Common.{ap, ◌∙◌, [], ◌∷◌}
use Rattle.exact_field.specs.Order.{same_ℚ}
use Rattle.exact_field.specs.Rational.{◌/ℚ◌}
use Rattle.log_rules.specs.Events.Event.{step}
use Rattle.log_rules.specs.declared.rule.Rule.TheVariants as rule
use Rattle.entry_checks.proofs.Going.{then-test}
use Rattle.exact_field.specs.declared.op.Op.TheVariants as op
use Rattle.entry_checks.proofs.duality.is_quotient.Goals as goal

pub returns : goal.returns
returns c =
    then-test (step op.Div c.args.x c.args.divisor ∷ []) c.args.counter.now.taken c.div.new.self.taken rule.Scaled c.eq.result (same_ℚ c.args.expected (c.args.x /ℚ c.args.divisor)) c.pass.result
    record { none = c.in_ok-quotient.ensures.0; count = c.in_ok-quotient.ensures.1 } (c.eq.ensures ∙ ap (same_ℚ c.args.expected) c.in_ok-quotient.ensures.2) (c.pass.ensures c.div.new.self.taken)
