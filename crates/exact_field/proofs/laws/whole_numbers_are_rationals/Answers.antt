use Rattle.exact_field.proofs.LawProofs.{whole_laws}
use Rattle.exact_field.proofs.laws.whole_numbers_are_rationals.Goals as goal

pub returns : goal.returns
returns c = whole_laws
