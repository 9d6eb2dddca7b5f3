use Rattle.std.proofs.Common.{◌≡◌, ◌++◌, map}
use Rattle.polyhedra.specs.Vectors.{zeros}
use Rattle.tableaux.specs.Table.{listed, column_of}
use Rattle.lin_rows.specs.Read.{numbers}
use Rattle.lp_form.specs.Building.{joined}
use Rattle.lp_form.proofs.cone.push_columns.Given as goal

abbrev pub invariant-loop-i : goal.invariant-loop-i
invariant-loop-i g l =
    let value = g.F.Field.value in
    let vectors = numbers value l.vectors in
    map value l.list ≡ map value l.initial.list ++ joined (listed l.i (λ i. column_of vectors i ++ zeros l.more))
