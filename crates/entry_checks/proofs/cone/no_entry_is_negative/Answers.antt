use Rattle.std.specs.List.{list_all}
use Rattle.exact_field.specs.Rational.{zero_ℚ, le_ℚ}
use Rattle.log_rules.specs.declared.rule.Rule.TheVariants as rule
use Rattle.entry_checks.proofs.Going.{test-as}
use Rattle.entry_checks.proofs.cone.no_entry_is_negative.Goals as goal

pub returns : goal.returns
returns c = λ taken. test-as rule.Cone c.are_nonnegative.result (list_all (le_ℚ zero_ℚ) c.args.e.now) taken c.pass.result c.are_nonnegative.ensures (c.pass.ensures taken)
