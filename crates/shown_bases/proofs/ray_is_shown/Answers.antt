use Rattle.shown_bases.proofs.Ends.{ray_is_shown}
use Rattle.shown_bases.proofs.ray_is_shown.Goals as goal

pub returns : goal.returns
returns c = ray_is_shown
