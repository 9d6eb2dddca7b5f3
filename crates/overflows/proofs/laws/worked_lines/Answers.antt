use Rattle.overflows.proofs.WorkedLines.{line_examples}
use Rattle.overflows.proofs.laws.worked_lines.Goals as goal

pub returns : goal.returns
returns c = line_examples
