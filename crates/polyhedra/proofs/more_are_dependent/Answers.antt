use Rattle.polyhedra.proofs.Dependence.{more_are_dependent}
use Rattle.polyhedra.proofs.more_are_dependent.Goals as goal

pub returns : goal.returns
returns c = more_are_dependent
