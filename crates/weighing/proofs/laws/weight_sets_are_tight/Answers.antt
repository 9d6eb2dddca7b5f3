use Rattle.weighing.proofs.TightPlaces.{weight_sets_are_tight}
use Rattle.weighing.proofs.laws.weight_sets_are_tight.Goals as goal

pub returns : goal.returns
returns c = weight_sets_are_tight
