use Rattle.std.proofs.Common.{◌≡◌, take}
use Rattle.lin_rows.specs.Lines.{entries}
use Rattle.program_columns.specs.Entries.{negatives}
use Rattle.program_columns.proofs.written.negative_of.Given as goal

abbrev pub invariant-loop-spot : goal.invariant-loop-spot
invariant-loop-spot g l =
    let value = g.F.Field.value in
    entries value l.list ≡ negatives (entries value (take l.spot-index l.spots))
