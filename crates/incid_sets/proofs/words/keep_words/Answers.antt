use Rattle.std.proofs.Common.{◌/◌, arith}
use Rattle.incid_sets.proofs.words.keep_words.Goals as goal
use Rattle.incid_sets.proofs.Bits.{marked_both}

pub returns-clause-common : goal.returns-clause-common
returns-clause-common c = λ k h. marked_both c.loop-i.words.items c.args.words.now.items c.args.other.now k
    (c.loop-i.invariant.done (k / 64) (omega arith))
