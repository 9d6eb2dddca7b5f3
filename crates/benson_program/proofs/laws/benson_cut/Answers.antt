use Rattle.benson_program.proofs.AsCut.{benson_cut}
use Rattle.benson_program.proofs.laws.benson_cut.Goals as goal

pub returns : goal.returns
returns c = benson_cut
