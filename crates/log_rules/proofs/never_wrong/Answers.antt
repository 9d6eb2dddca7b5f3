use Rattle.log_rules.proofs.NeverWrong.{never_wrong}
use Rattle.log_rules.proofs.never_wrong.Goals as goal

pub returns : goal.returns
returns c = never_wrong
