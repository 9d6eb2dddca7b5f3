use Rattle.projection.proofs.Level.{level_directions}
use Rattle.projection.proofs.laws.level_directions.Goals as goal

pub returns : goal.returns
returns c = level_directions
