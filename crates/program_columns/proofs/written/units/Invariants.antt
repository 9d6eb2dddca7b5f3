use Rattle.std.proofs.Common.{◌≡◌, map, take}
use Rattle.lin_rows.specs.Lines.{entries}
use Rattle.program_columns.specs.Entries.{unit_entries}
use Rattle.program_columns.proofs.written.units.Given as goal

abbrev pub invariant-loop-i : goal.invariant-loop-i
invariant-loop-i g l =
    let value = g.F.Field.value in
    entries value l.units ≡ unit_entries 0 (map value (take l.i l.right))
