use Rattle.cone_rules.proofs.Ranks.{rank_laws}
use Rattle.cone_rules.proofs.full_rank.Goals as goal

pub returns : goal.returns
returns c = rank_laws
