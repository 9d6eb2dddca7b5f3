use Rattle.std.proofs.Common.{◌≡◌, map, unwrap_or}
use Rattle.exact_field.specs.Rational.{zero_ℚ}
use Rattle.vlp_reader.specs.Places.{given}
use Rattle.vlp_problem.specs.Sides.{numbers_from}
use Rattle.vlp_reader.proofs.table.Table.column.Given as goal

abbrev pub invariant-loop-before : goal.invariant-loop-before
invariant-loop-before l = l.entries ≡ map (λ i. unwrap_or (given l.self.cells i l.col) zero_ℚ) (numbers_from 1 l.before)
