use Rattle.exact_field.proofs.LawProofs.{one_normal_form}
use Rattle.exact_field.proofs.laws.one_normal_form_has_one_value.Goals as goal

pub returns : goal.returns
returns g c = one_normal_form g.ring
