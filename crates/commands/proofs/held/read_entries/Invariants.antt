use Rattle.std.proofs.Common.{take, All}
use Rattle.commands.specs.Told.{IsHeldEntry}
use Rattle.commands.proofs.held.read_entries.Given as goal

abbrev pub invariant-loop-entry : goal.invariant-loop-entry
invariant-loop-entry l = All IsHeldEntry (take l.entry-index l.entries)
