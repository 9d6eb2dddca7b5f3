use Rattle.weighing.proofs.ProvedSets.{proved_are_weight_sets}
use Rattle.weighing.proofs.laws.proved_are_weight_sets.Goals as goal

pub returns : goal.returns
returns c = proved_are_weight_sets
