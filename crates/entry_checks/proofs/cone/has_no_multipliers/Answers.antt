use Rattle.std.proofs.Common.{length, ◌==◌}
use Rattle.log_rules.specs.declared.rule.Rule.TheVariants as rule
use Rattle.entry_checks.proofs.Going.{test-as}
use Rattle.entry_checks.proofs.cone.has_no_multipliers.Goals as goal

pub returns : goal.returns
returns c = λ taken. test-as rule.Length c.is_empty.result (length c.args.m.now == 0) taken c.pass.result c.is_empty.ensures (c.pass.ensures taken)
