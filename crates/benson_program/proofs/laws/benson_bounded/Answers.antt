use Rattle.benson_program.proofs.Bounded.{benson_bounded}
use Rattle.benson_program.proofs.laws.benson_bounded.Goals as goal

pub returns : goal.returns
returns c = benson_bounded
