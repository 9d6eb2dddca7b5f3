use Rattle.overflows.proofs.Formed.{vector_written}
use Rattle.outer_approx.proofs.log.written_vector.Goals as goal

pub returns-clause-same : goal.returns-clause-same
returns-clause-same g c = c.in_ok-vector.ensures.same

pub returns-clause-written : goal.returns-clause-written
returns-clause-written g c =
    vector_written c.in_ok-vector.vector c.as_slice.result.now c.as_slice.ensures.items c.as_slice.ensures.bound c.fractions_are_written.ensures
