use Rattle.cone_rules.proofs.FoundGenerators.{found_program}
use Rattle.cone_rules.proofs.found_program.Goals as goal

pub returns : goal.returns
returns c = found_program
