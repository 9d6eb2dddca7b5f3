use Rattle.std.proofs.Common.{ap₂, arith, below_more, ◌≢◌, ◌/◌, get_or-set_other, ◌<◌, length, get_or-set_same, bit_and}
use Rattle.incid_sets.proofs.words.write_meet.Goals as goal
use Rattle.incid_sets.proofs.Bits.{marked_both}

pub loop-i-preserved : goal.loop-i-preserved
loop-i-preserved c = record {
  room = c.loop-i.invariant.room;
  done = below_more _ _
      (λ j h. let ne : j ≢ c.loop-i.i = omega arith in rw get_or-set_other (c.loop-i.invariant.done j h))
      (let lt : c.loop-i.i < length c.loop-i.words.items = omega (arith, c.loop-i.words.ok, c.loop-i.invariant.room) in
      rw get_or-set_same (ap₂ bit_and c.word_at.ensures c.word_at-in-loop-i.ensures));
}

pub returns-clause-common : goal.returns-clause-common
returns-clause-common c = λ k h. marked_both c.loop-i.words.items c.args.a.now c.args.b.now k
    (c.loop-i.invariant.done (k / 64) (omega arith))
