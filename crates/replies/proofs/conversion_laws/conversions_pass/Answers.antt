use Rattle.replies.proofs.Passing.{conversions_pass}
use Rattle.replies.proofs.conversion_laws.conversions_pass.Goals as goal

pub returns : goal.returns
returns c = conversions_pass
