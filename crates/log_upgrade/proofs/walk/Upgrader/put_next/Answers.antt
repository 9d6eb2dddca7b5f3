use Rattle.log_upgrade.proofs.Walking.{on_ok}
use Rattle.log_upgrade.proofs.walk.Upgrader.put_next.Goals as goal

pub returns : goal.returns
returns c all before vectors after n =
    on_ok c.put.result
    (λ appended. record {
      upgraded = c.in_ok-upgraded.upgraded;
      is = c.in_ok-upgraded.ensures.is all before vectors after n;
      appended = appended;
      stands = c.in_ok-upgraded.ensures.stands all before vectors after n;
    })
    c.put.ensures
