use Rattle.commands.proofs.WorkedLines.{examples}
use Rattle.commands.proofs.line_laws.examples_of_lines.Goals as goal

pub returns : goal.returns
returns c = examples
