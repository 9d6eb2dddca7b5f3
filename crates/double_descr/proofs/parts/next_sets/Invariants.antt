use Rattle.std.proofs.Common.{◌≡◌, [], ◌∷◌, ◌++◌, drop}
use Rattle.double_descr.specs.State.{tight_sets}
use Rattle.double_descr.proofs.parts.next_sets.Given as goal

abbrev pub invariant-loop-i : goal.invariant-loop-i
invariant-loop-i g l =
    let all = tight_sets g.F.Field.value (g.addition.rows ++ g.addition.row ∷ []) l.generators in
    l.sets ++ drop l.i all ≡ all
