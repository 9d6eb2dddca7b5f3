use Rattle.overflows.proofs.Formed.{sparse_written}
use Rattle.outer_approx.proofs.log.written_spots.Goals as goal

pub returns-clause-same : goal.returns-clause-same
returns-clause-same g c = record { vector = c.in_ok-spots.ensures.vector; same = c.in_ok-spots.ensures.numbers }

pub returns-clause-written : goal.returns-clause-written
returns-clause-written g c =
    sparse_written c.in_ok-spots.spots c.as_slice.result.now c.as_slice.ensures.items c.as_slice.ensures.bound c.spots_are_written.ensures
    c.in_ok-spots.ensures.vector.sparse
