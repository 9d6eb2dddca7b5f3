use Rattle.overflows.proofs.RowTurns.{row_turns_end}
use Rattle.overflows.proofs.laws.row_turns_end.Goals as goal

pub returns : goal.returns
returns c = row_turns_end
