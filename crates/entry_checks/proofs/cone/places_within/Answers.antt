use Rattle.std.proofs.Common.{nat_le}
use Rattle.std.specs.List.{list_all}
use Rattle.log_rules.specs.declared.rule.Rule.TheVariants as rule
use Rattle.entry_checks.proofs.Going.{test-as}
use Rattle.entry_checks.proofs.cone.places_within.Goals as goal

pub returns : goal.returns
returns c = λ taken. test-as rule.Index c.are_within.result (list_all (λ s. nat_le s.at c.args.most) c.args.spots.now) taken c.pass.result c.are_within.ensures (c.pass.ensures taken)
