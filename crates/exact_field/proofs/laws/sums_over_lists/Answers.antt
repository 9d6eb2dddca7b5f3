use Rattle.exact_field.proofs.LawProofs.{sum_laws}
use Rattle.exact_field.proofs.laws.sums_over_lists.Goals as goal

pub returns : goal.returns
returns g c = sum_laws _ _
