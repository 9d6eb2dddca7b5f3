use Rattle.std.proofs.Common.{◌≡◌, take, not}
use Rattle.std.specs.Prelude.{filter}
use Rattle.std.specs.List.{list_all}
use Rattle.lin_rows.specs.Read.{numbers}
use Rattle.frac128.specs.Sparse.{is_zero}
use Rattle.lp_form.proofs.cone.copy_nonzero.Given as goal

abbrev pub invariant-loop-vector : goal.invariant-loop-vector
invariant-loop-vector g l =
    let value = g.F.Field.value in
    numbers value l.kept ≡ filter (λ v. not (list_all is_zero v)) (numbers value (take l.vector-index l.vectors))
