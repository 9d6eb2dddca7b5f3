use Rattle.std.proofs.Common.{subst}
use Rattle.vlp_reader.specs.Drafts.{HasRead}
use Rattle.vlp_reader.proofs.LineTests.{no_problem}
use Rattle.vlp_reader.proofs.read.close.Goals as goal

pub returns-in-None : goal.returns-in-None
returns-in-None c = λ statements has. no_problem statements (subst (λ d. HasRead d statements) c.in-None.is has)
