use Rattle.std.proofs.Common.{◌≡◌, map, take, true}
use Rattle.std.specs.List.{list_all}
use Rattle.frac128.specs.Sparse.{is_zero}
use Rattle.lp_form.proofs.cone.is_zero_vector.Given as goal

abbrev pub invariant-loop-x : goal.invariant-loop-x
invariant-loop-x g l =
    let value = g.F.Field.value in
    list_all is_zero (map value (take l.x-index l.vector)) ≡ true
