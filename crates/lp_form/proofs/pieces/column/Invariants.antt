use Rattle.std.proofs.Common.{◌≡◌, map, take}
use Rattle.exact_field.specs.Vector.{entry}
use Rattle.lp_form.proofs.pieces.column.Given as goal

abbrev pub invariant-loop-vector : goal.invariant-loop-vector
invariant-loop-vector g l =
    let value = g.F.Field.value in
    map value l.column ≡ map (λ v. entry (map value v) l.i) (take l.vector-index l.vectors)
