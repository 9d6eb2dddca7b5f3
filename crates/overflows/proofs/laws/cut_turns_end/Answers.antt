use Rattle.overflows.proofs.CutTurns.{cut_turns_end}
use Rattle.overflows.proofs.laws.cut_turns_end.Goals as goal

pub returns : goal.returns
returns c = cut_turns_end
