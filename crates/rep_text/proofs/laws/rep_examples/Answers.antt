use Rattle.rep_text.proofs.Worked.{rep_examples}
use Rattle.rep_text.proofs.laws.rep_examples.Goals as goal

pub returns : goal.returns
returns c = rep_examples
