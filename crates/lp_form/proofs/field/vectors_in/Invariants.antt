use Rattle.std.proofs.Common.{◌≡◌, take}
use Rattle.lin_rows.specs.Read.{numbers}
use Rattle.lp_form.proofs.field.vectors_in.Given as goal

abbrev pub invariant-loop-vector : goal.invariant-loop-vector
invariant-loop-vector g l =
    let value = g.F.Field.value in
    numbers value l.lists ≡ take l.vector-index l.vectors
