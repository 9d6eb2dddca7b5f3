use Rattle.std.proofs.Common.{◌≡◌, map, take}
use Rattle.lp_form.proofs.field.vector_in.Given as goal

abbrev pub invariant-loop-number : goal.invariant-loop-number
invariant-loop-number g l =
    let value = g.F.Field.value in
    map value l.list ≡ take l.number-index l.vector
