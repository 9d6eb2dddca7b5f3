use Rattle.std.proofs.Common.{rules, map}
use Rattle.overflows.specs.Pairs.{named}
use Rattle.outer_approx.proofs.Added.{add_written}
use Rattle.outer_approx.proofs.turn.push_add.Goals as goal

pub returns-clause-written : goal.returns-clause-written
returns-clause-written c =
    add_written c.push.result c.args.cut c.in_ok-pairs.pairs (map named c.args.pairs.now) (search rules) c.in_ok-pairs.ensures.written c.in_ok-pairs.ensures.same
