use Rattle.std.proofs.Common.{◌≡◌, ◌++◌}
use Rattle.std.specs.List.{flat_map}
use Rattle.exact_field.specs.Vector.{entry}
use Rattle.vlp_problem.specs.Sides.{numbers_from}
use Rattle.std.proofs.Common.{codes}
use Rattle.vlp_printer.specs.Printing.{entry_line}
use Rattle.vlp_printer.proofs.print.put_duality.Given as goal

abbrev pub invariant-loop-before : goal.invariant-loop-before
invariant-loop-before l = l.into ≡ l.fn.into ++ flat_map (λ i. entry_line (codes "k") i 0 (entry l.fn.duality i)) (numbers_from 1 l.before)
