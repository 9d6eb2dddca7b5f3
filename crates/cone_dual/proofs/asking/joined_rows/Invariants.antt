use Rattle.std.proofs.Common.{◌≡◌, map, take}
use Rattle.lin_rows.specs.Read.{numbers}
use Rattle.lp_form.specs.Building.{joined}
use Rattle.cone_dual.proofs.asking.joined_rows.Given as goal

abbrev pub invariant-loop-k : goal.invariant-loop-k
invariant-loop-k g l =
    let value = g.F.Field.value in
    map value l.list ≡ joined (numbers value (take l.k l.rows.list))
