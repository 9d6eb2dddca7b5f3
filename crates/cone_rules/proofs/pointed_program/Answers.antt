use Rattle.cone_rules.proofs.Pointed.{pointed_program}
use Rattle.cone_rules.proofs.pointed_program.Goals as goal

pub returns : goal.returns
returns c = pointed_program
