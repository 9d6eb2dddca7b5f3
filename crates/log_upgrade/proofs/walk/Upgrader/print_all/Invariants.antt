use Rattle.std.proofs.Common.{◌≡◌, List}
use Rattle.deriv_log.specs.LogText.{log_text}
use Rattle.deriv_log.specs.declared.entry.Entry.{Entry}
use Rattle.log_upgrade.specs.Walk.{IsWritten}
use Rattle.log_upgrade.proofs.walk.Upgrader.print_all.Given as goal

abbrev pub invariant-loop-entry : goal.invariant-loop-entry
invariant-loop-entry l =
    (written : List Entry) × (IsWritten l.problem l.entries l.entry-index written l.self) × (l.text ≡ log_text written)
