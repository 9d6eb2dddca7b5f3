use Rattle.polyhedra.proofs.SolvedAreExact.{rising_lists_are_equal}
use Rattle.polyhedra.proofs.rising_lists_are_equal.Goals as goal

pub returns : goal.returns
returns g c = rising_lists_are_equal _
