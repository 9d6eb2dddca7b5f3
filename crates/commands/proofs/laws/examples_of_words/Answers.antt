use Rattle.commands.proofs.Worked.{examples}
use Rattle.commands.proofs.laws.examples_of_words.Goals as goal

pub returns : goal.returns
returns c = examples
