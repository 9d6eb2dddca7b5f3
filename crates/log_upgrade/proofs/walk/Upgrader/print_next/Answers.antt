use Rattle.std.proofs.Common.{refl}
use Rattle.log_upgrade.specs.Walk.{in_place}
use Rattle.log_upgrade.proofs.Walking.{on_ok}
use Rattle.log_upgrade.proofs.walk.Upgrader.print_next.Goals as goal

pub returns : goal.returns
returns c all before vectors after n =
    on_ok c.print.result
    (λ printed. (
      in_place c.args.entry.now c.in_ok-upgraded.upgraded,
      record {
        upgraded = c.in_ok-upgraded.upgraded;
        is = c.in_ok-upgraded.ensures.is all before vectors after n;
        appended = refl;
        stands = c.in_ok-upgraded.ensures.stands all before vectors after n;
      },
      printed,
    ))
    c.print.ensures
