use Rattle.rep_conv.proofs.Standing.{rules_keep_description}
use Rattle.rep_conv.proofs.laws.rules_keep_description.Goals as goal

pub returns : goal.returns
returns c = rules_keep_description
