use Rattle.std.proofs.Common.{◌≡◌, take}
use Rattle.log_upgrade.proofs.logs.copy_log.Given as goal

abbrev pub invariant-loop-entry : goal.invariant-loop-entry
invariant-loop-entry l = l.copy ≡ take l.entry-index l.list
