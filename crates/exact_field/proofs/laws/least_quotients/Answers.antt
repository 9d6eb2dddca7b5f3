use Rattle.exact_field.proofs.LawProofs.{least_laws}
use Rattle.exact_field.proofs.laws.least_quotients.Goals as goal

pub returns : goal.returns
returns g c = least_laws _
