use Rattle.rep_conv.proofs.EventRules.{events_are_rules}
use Rattle.rep_conv.proofs.laws.events_are_rules.Goals as goal

pub returns : goal.returns
returns c = events_are_rules
