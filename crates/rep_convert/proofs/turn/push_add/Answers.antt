use Rattle.std.proofs.Common.{rules, map}
use Rattle.overflows.specs.Pairs.{named}
use Rattle.rep_convert.proofs.Named.{add_written}
use Rattle.rep_convert.proofs.turn.push_add.Goals as goal

pub returns-clause-written : goal.returns-clause-written
returns-clause-written c =
    add_written c.push.result c.args.row c.in_ok-pairs.pairs (map named c.args.pairs.now) (search rules) c.in_ok-pairs.ensures.written c.in_ok-pairs.ensures.same
