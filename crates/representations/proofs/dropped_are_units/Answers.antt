use Rattle.representations.proofs.Dropped.{dropped_are_units}
use Rattle.representations.proofs.dropped_are_units.Goals as goal

pub returns : goal.returns
returns c = dropped_are_units
