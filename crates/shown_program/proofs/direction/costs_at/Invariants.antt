use Rattle.std.proofs.Common.{◌≡◌, map, take}
use Rattle.exact_field.specs.Vector.{entry}
use Rattle.shown_program.proofs.direction.costs_at.Given as goal

abbrev pub invariant-loop-column : goal.invariant-loop-column
invariant-loop-column g l =
    let value = g.F.Field.value in
    map value l.costs ≡ map (entry (map value l.program.cost)) (take l.column-index l.columns)
