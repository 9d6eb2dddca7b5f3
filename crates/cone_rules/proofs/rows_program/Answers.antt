use Rattle.cone_rules.proofs.FoundRows.{rows_program}
use Rattle.cone_rules.proofs.rows_program.Goals as goal

pub returns : goal.returns
returns c = rows_program
