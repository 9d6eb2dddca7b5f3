use Rattle.overflows.proofs.CutTurns.{cuts_are_base}
use Rattle.overflows.proofs.laws.cuts_are_base.Goals as goal

pub returns : goal.returns
returns c = cuts_are_base
