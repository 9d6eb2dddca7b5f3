use Rattle.std.proofs.Common.{◌≡◌, ◌++◌, map}
use Rattle.polyhedra.specs.Vectors.{zeros}
use Rattle.lp_form.proofs.pieces.push_zeros.Given as goal

abbrev pub invariant-loop-k : goal.invariant-loop-k
invariant-loop-k g l =
    let value = g.F.Field.value in
    map value l.list ≡ map value l.initial.list ++ zeros l._k
