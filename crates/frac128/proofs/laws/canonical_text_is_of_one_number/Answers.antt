use Rattle.frac128.proofs.TextLaw.{one_number_per_text}
use Rattle.frac128.proofs.laws.canonical_text_is_of_one_number.Goals as goal

pub returns : goal.returns
returns c = one_number_per_text
