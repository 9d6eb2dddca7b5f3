use Rattle.benson_program.proofs.Feasible.{feasible_ends}
use Rattle.benson_program.proofs.laws.feasible_ends.Goals as goal

pub returns : goal.returns
returns c = feasible_ends
