use Rattle.solver.proofs.Agree.{one_image}
use Rattle.solver.proofs.laws.replies_agree.Goals as goal

pub returns : goal.returns
returns c = one_image c.image_parts_agree.ensures
