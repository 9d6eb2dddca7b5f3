use Rattle.polyhedra.proofs.FirstNamed.{first_account}
use Rattle.polyhedra.proofs.first_account.Goals as goal

pub returns : goal.returns
returns c = first_account
