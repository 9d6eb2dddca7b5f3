use Rattle.std.proofs.Common.{◌≡◌, ◌++◌}
use Rattle.std.specs.List.{flat_map}
use Rattle.exact_field.specs.Vector.{entry}
use Rattle.vlp_problem.specs.Sides.{numbers_from}
use Rattle.vlp_printer.specs.Printing.{vector_entry}
use Rattle.vlp_printer.proofs.print.put_vector.Given as goal

abbrev pub invariant-loop-before : goal.invariant-loop-before
invariant-loop-before l = l.into ≡ l.fn.into ++ flat_map (λ i. vector_entry i l.fn.col (entry l.fn.vector i)) (numbers_from 1 l.before)
