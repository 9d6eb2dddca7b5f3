use Rattle.exact_field.proofs.Identities.{identities}
use Rattle.exact_field.proofs.laws.identities_by_normal_forms.Goals as goal

pub returns : goal.returns
returns c = identities
