use Rattle.log_upgrade.proofs.Steps.{formed_next, few_after}
use Rattle.log_upgrade.proofs.walk.Upgrader.take.Goals as goal

pub take-requires-clause-formed : goal.take-requires-clause-formed
take-requires-clause-formed c =
    let r = c.requires in
    formed_next c.args.problem.now r.0 r.1 r.2 c.args.entry.now r.3 c.args.self.now.checker c.args.self.now.repeats r.4

pub returns-clause-is : goal.returns-clause-is
returns-clause-is c all before vectors after n = c.in_ok-upgraded.ensures.is c.args.problem.now all before vectors after n

pub returns-clause-stands : goal.returns-clause-stands
returns-clause-stands c all before vectors after n = record {
  checked = c.in_ok-take.ensures.ok before n.checked;
  standings = c.in_ok-upgraded.ensures.standings c.args.problem.now all before vectors after n;
  few = few_after all before vectors c.args.entry.now n.few;
}
