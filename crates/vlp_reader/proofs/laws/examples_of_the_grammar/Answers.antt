use Rattle.vlp_reader.proofs.Worked.{examples}
use Rattle.vlp_reader.proofs.laws.examples_of_the_grammar.Goals as goal

pub returns : goal.returns
returns c = examples
