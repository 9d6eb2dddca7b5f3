use Rattle.benson_program.proofs.AsPreimage.{benson_preimage}
use Rattle.benson_program.proofs.laws.benson_preimage.Goals as goal

pub returns : goal.returns
returns c = benson_preimage
