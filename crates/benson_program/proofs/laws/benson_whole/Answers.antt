use Rattle.benson_program.proofs.AsWhole.{benson_whole}
use Rattle.benson_program.proofs.laws.benson_whole.Goals as goal

pub returns : goal.returns
returns c = benson_whole
