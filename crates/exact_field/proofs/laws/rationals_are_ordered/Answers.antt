use Rattle.exact_field.proofs.LawProofs.{order_laws}
use Rattle.exact_field.proofs.laws.rationals_are_ordered.Goals as goal

pub returns : goal.returns
returns c = order_laws
