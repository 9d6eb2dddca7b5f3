use Rattle.rep_conv.proofs.Examples.{conversion_examples}
use Rattle.rep_conv.proofs.laws.conversion_examples.Goals as goal

pub returns : goal.returns
returns c = conversion_examples
