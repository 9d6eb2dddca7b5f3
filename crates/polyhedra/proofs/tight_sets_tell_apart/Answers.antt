use Rattle.polyhedra.proofs.FirstNamed.{tight_sets_tell_apart}
use Rattle.polyhedra.proofs.tight_sets_tell_apart.Goals as goal

pub returns : goal.returns
returns c = tight_sets_tell_apart
