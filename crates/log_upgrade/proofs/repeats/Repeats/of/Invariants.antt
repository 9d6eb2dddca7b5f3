use Rattle.std.proofs.Common.{[], take}
use Rattle.log_upgrade.specs.Repeats.{AreStandings}
use Rattle.log_upgrade.proofs.repeats.Repeats.of.Given as goal

abbrev pub invariant-loop-entry : goal.invariant-loop-entry
invariant-loop-entry l = AreStandings (take l.entry-index l.entries) [] l.repeats
