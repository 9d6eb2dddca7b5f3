use Rattle.benson_dual.proofs.Agreeing.{image_parts_agree}
use Rattle.benson_dual.proofs.laws.image_parts_agree.Goals as goal

pub returns : goal.returns
returns c = image_parts_agree
