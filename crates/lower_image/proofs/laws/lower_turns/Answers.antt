use Rattle.lower_image.proofs.Turns.{lower_turns}
use Rattle.lower_image.proofs.laws.lower_turns.Goals as goal

pub returns : goal.returns
returns c = lower_turns
