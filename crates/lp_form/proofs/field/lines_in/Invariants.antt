use Rattle.std.proofs.Common.{◌≡◌, map, take}
use Rattle.lin_rows.specs.Lines.{entries}
use Rattle.upper_image.specs.Spots.{entry_of}
use Rattle.lp_form.proofs.field.lines_in.Given as goal

abbrev pub invariant-loop-row : goal.invariant-loop-row
invariant-loop-row g l =
    let value = g.F.Field.value in
    map (entries value) l.lines ≡ map (map entry_of) (take l.row-index l.rows)
