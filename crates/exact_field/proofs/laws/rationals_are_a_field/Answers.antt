use Rattle.exact_field.proofs.LawProofs.{field_laws}
use Rattle.exact_field.proofs.laws.rationals_are_a_field.Goals as goal

pub returns : goal.returns
returns c = field_laws
