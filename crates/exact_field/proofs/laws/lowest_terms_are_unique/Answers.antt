use Rattle.exact_field.proofs.LawProofs.{fraction_laws}
use Rattle.exact_field.proofs.laws.lowest_terms_are_unique.Goals as goal

pub returns : goal.returns
returns c = fraction_laws
