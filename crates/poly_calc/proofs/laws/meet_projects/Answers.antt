use Rattle.poly_calc.proofs.FeasibleMeet.{meet_projects}
use Rattle.poly_calc.proofs.laws.meet_projects.Goals as goal

pub returns : goal.returns
returns c = meet_projects
