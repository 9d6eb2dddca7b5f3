use Rattle.std.specs.List.{list_all}
use Rattle.exact_field.specs.Rational.{zero_ℚ, lt_ℚ}
use Rattle.log_rules.specs.declared.rule.Rule.TheVariants as rule
use Rattle.entry_checks.proofs.Going.{test-as}
use Rattle.entry_checks.proofs.cone.values_positive.Goals as goal

pub returns : goal.returns
returns c = λ taken. test-as rule.Sign c.are_positive.result (list_all (λ s. lt_ℚ zero_ℚ s.value) c.args.spots.now) taken c.pass.result c.are_positive.ensures (c.pass.ensures taken)
