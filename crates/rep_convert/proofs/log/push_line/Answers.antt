use Rattle.rep_convert.proofs.Written.{line_written}
use Rattle.rep_convert.proofs.log.push_line.Goals as goal

pub returns-in_err-append-clause-written : goal.returns-in_err-append-clause-written
returns-in_err-append-clause-written c = line_written c.args.d.now c.as_slice.result.now c.as_slice.ensures.items c.as_slice.ensures.bound c.fractions_are_written.ensures

pub returns-clause-written : goal.returns-clause-written
returns-clause-written c = line_written c.args.d.now c.as_slice.result.now c.as_slice.ensures.items c.as_slice.ensures.bound c.fractions_are_written.ensures
