use Rattle.polyhedra.proofs.AllButOne.{all_but_one_are_uncovered}
use Rattle.polyhedra.proofs.all_but_one_are_uncovered.Goals as goal

pub returns : goal.returns
returns c = all_but_one_are_uncovered
