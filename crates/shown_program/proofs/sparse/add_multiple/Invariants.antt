use Rattle.std.proofs.Common.{drop, map}
use Rattle.lin_rows.specs.Lines.{entries}
use Rattle.program_columns.proofs.Multiples.{AreAdded}
use Rattle.shown_program.proofs.sparse.add_multiple.Given as goal

abbrev pub invariant-loop-spot : goal.invariant-loop-spot
invariant-loop-spot g l =
    let value = g.F.Field.value in
    AreAdded value (value l.x) (entries value l.spots) (entries value (drop l.spot-index l.spots))
    (map value l.initial.total) (map value l.total)
