use Rattle.poly_calc.proofs.FeasibleSum.{sum_projects}
use Rattle.poly_calc.proofs.laws.sum_projects.Goals as goal

pub returns : goal.returns
returns c = sum_projects
