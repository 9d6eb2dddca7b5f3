use Rattle.std.proofs.Common.{sym}
use Rattle.recession.proofs.Opposites.{wide_cuts}
use Rattle.benson_primal.proofs.chain.are_independent.Goals as goal

pub level_vectors-requires : goal.level_vectors-requires
level_vectors-requires g c = wide_cuts g.F.Field.value g.task 2 c.args.cuts.now (sym c.requires.1.0) c.requires.1.1
