use Rattle.lp_form.proofs.Worked.{examples}
use Rattle.lp_form.proofs.laws.worked_programs.Goals as goal

pub returns : goal.returns
returns c = examples
