use Rattle.std.proofs.Common.{◌≡◌, map, take}
use Rattle.lin_rows.specs.Lines.{entries}
use Rattle.upper_image.specs.Spots.{entry_of}
use Rattle.lp_form.proofs.field.line_in.Given as goal

abbrev pub invariant-loop-spot : goal.invariant-loop-spot
invariant-loop-spot g l =
    let value = g.F.Field.value in
    entries value l.line ≡ map entry_of (take l.spot-index l.spots)
