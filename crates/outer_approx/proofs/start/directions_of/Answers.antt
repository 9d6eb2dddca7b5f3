use Rattle.outer_approx.proofs.Fronts.{longer, pieces_longer}
use Rattle.outer_approx.proofs.start.directions_of.Goals as goal

pub loop-k-preserved : goal.loop-k-preserved
loop-k-preserved g c =
    let i = c.loop-k.invariant in
    record {
      long = longer c.args.places.now c.args.count c.requires.count c.args.dd.now.list c.requires.first c.loop-k.k c.loop-k-test.true c.loop-k.directions
          c.append.new.self c.in_ok-front.front c.as_slice.result.now c.in_ok-append.ensures.ok c.as_slice.ensures.items c.in_ok-front.ensures i.long;
      pieces = pieces_longer c.args.places.now c.args.count c.requires.count c.args.dd.now.list c.requires.first c.loop-k.k c.loop-k-test.true c.loop-k.directions
          c.append.new.self c.in_ok-front.front c.as_slice.result.now c.in_ok-append.ensures.ok c.as_slice.ensures.items c.in_ok-front.ensures i.long i.pieces;
    }
