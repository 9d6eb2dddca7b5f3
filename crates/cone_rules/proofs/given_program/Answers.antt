use Rattle.cone_rules.proofs.Given.{given_program}
use Rattle.cone_rules.proofs.given_program.Goals as goal

pub returns : goal.returns
returns c = given_program
