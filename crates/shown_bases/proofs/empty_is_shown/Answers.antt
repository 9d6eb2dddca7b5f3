use Rattle.shown_bases.proofs.Ends.{empty_is_shown}
use Rattle.shown_bases.proofs.empty_is_shown.Goals as goal

pub returns : goal.returns
returns c = empty_is_shown
