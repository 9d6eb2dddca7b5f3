use Rattle.poly_calc.proofs.FeasibleJoin.{join_projects}
use Rattle.poly_calc.proofs.laws.join_projects.Goals as goal

pub returns : goal.returns
returns c = join_projects
