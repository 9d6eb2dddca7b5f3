use Rattle.log_upgrade.specs.Walk.{IsWritten}
use Rattle.log_upgrade.proofs.walk.Upgrader.put_all.Given as goal

abbrev pub invariant-loop-entry : goal.invariant-loop-entry
invariant-loop-entry l = IsWritten l.problem l.entries l.entry-index l.upgrade l.self
