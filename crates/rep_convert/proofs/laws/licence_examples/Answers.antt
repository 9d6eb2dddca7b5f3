use Rattle.rep_convert.proofs.Worked.{licence_examples}
use Rattle.rep_convert.proofs.laws.licence_examples.Goals as goal

pub returns : goal.returns
returns c = licence_examples
