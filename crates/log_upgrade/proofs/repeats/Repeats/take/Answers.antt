use Rattle.std.proofs.Common.{sym, ap, ◌∙◌, rules}
use Rattle.log_upgrade.proofs.Standings.{one_shared}
use Rattle.log_upgrade.proofs.repeats.Repeats.take.Goals as goal

pub returns-in_ok-insert-in-Some-Several-clause-standings : goal.returns-in_ok-insert-in-Some-Several-clause-standings
returns-in_ok-insert-in-Some-Several-clause-standings c all vectors a =
    one_shared all vectors c.args.self.now c.insert.new.self (record { spots = c.args.vector }) (cc) c.in_ok-insert-in-Some-Several.ensures.updates a
