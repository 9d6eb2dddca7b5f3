use Rattle.std.proofs.Common.{◌≡◌, drop, map}
use Rattle.exact_field.specs.Rational.{◌+ℚ◌}
use Rattle.lin_rows.specs.Lines.{entries}
use Rattle.program_columns.proofs.Multiples.{weighed}
use Rattle.shown_program.proofs.sparse.product.Given as goal

abbrev pub invariant-loop-spot : goal.invariant-loop-spot
invariant-loop-spot g l =
    let value = g.F.Field.value in
    value l.total +ℚ weighed (entries value (drop l.spot-index l.spots)) (map value l.y)
    ≡ weighed (entries value l.spots) (map value l.y)
