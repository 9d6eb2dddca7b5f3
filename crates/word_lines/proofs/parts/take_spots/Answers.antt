use Rattle.std.proofs.Common.{◌+◌, sym, arith, subst}
use Rattle.word_lines.specs.Taking.{TakesSpots}
use Rattle.word_lines.proofs.Taken.{AreTaken, one_spot, spots_fail, all_spots, handed_on}
use Rattle.word_lines.proofs.parts.take_spots.Goals as goal

pub returns-in_err-spot : goal.returns-in_err-spot
returns-in_err-spot c =
    let failed = spots_fail c.args.count c.args.words.now c.loop.words c.take_spot.new.words c.loop.counter c.loop.last c.loop.spots c.in_err-spot.field-0.0 c.loop-test.true c.loop.invariant c.in_err-spot.ensures in
    subst (λ r. TakesSpots c.args.count c.args.words.now c.take_spot.new.words r) (sym (handed_on c.from_residual-in_err-spot.result c.in_err-spot.field-0.0 c.from_residual-in_err-spot.ensures)) failed

pub loop-preserved : goal.loop-preserved
loop-preserved c =
    let more = one_spot c.args.count c.args.words.now c.loop.words c.take_spot.new.words c.loop.counter c.loop.last c.loop.spots c.in_ok-spot.spot c.loop-test.true c.loop.invariant c.in_ok-spot.ensures in
    subst (λ u. AreTaken c.args.count c.args.words.now c.take_spot.new.words (c.loop.counter + 1) c.in_ok-spot.spot.at u) (sym c.in_ok-push.ensures.ok) more

pub returns : goal.returns
returns c = all_spots c.args.count c.args.words.now c.loop.words c.loop.counter c.loop.last c.loop.spots (omega arith) c.loop.invariant
