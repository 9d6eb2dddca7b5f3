use Rattle.polyhedra.proofs.NewPairs.{new_pairs_are_exact}
use Rattle.polyhedra.proofs.new_pairs_are_exact.Goals as goal

pub returns : goal.returns
returns c = new_pairs_are_exact
