use Rattle.poly_calc.proofs.FeasibleMap.{map_projects}
use Rattle.poly_calc.proofs.laws.map_projects.Goals as goal

pub returns : goal.returns
returns c = map_projects
