use Rattle.std.proofs.Common.{arith}
use Rattle.overflows.proofs.NamedPairs.{pairs_written}
use Rattle.rep_convert.proofs.turn.log_pairs.Goals as goal

pub returns-clause-written : goal.returns-clause-written
returns-clause-written c =
    pairs_written c.loop-pair.list (omega (arith, c.len-count.ensures.value, c.len-count.ensures.bound)) c.loop-pair.invariant.written
