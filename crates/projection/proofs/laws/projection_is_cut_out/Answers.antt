use Rattle.projection.proofs.Hulls.{projection_is_cut_out}
use Rattle.projection.proofs.laws.projection_is_cut_out.Goals as goal

pub returns : goal.returns
returns c = projection_is_cut_out
