use Rattle.std.proofs.Common.{◌≡◌, map, take}
use Rattle.program_columns.proofs.written.side_costs.Given as goal

abbrev pub invariant-loop-side : goal.invariant-loop-side
invariant-loop-side g l =
    let value = g.F.Field.value in
    map value l.cost ≡ map (λ s. value s.beta) (take l.side-index l.side-items)
