use Rattle.std.proofs.Common.{◌/◌, arith}
use Rattle.incid_sets.proofs.words.add_words.Goals as goal
use Rattle.incid_sets.proofs.Bits.{marked_either}

pub returns-clause-either : goal.returns-clause-either
returns-clause-either c = λ k h. marked_either c.loop-i.words.items c.args.words.now.items c.args.other.now k
    (c.loop-i.invariant.done (k / 64) (omega arith))
