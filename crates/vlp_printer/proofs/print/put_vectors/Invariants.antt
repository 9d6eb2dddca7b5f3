use Rattle.std.proofs.Common.{◌≡◌, ◌++◌, [], ◌-◌, slice_index_or}
use Rattle.std.specs.List.{flat_map}
use Rattle.vlp_problem.specs.Sides.{numbers_from}
use Rattle.vlp_printer.specs.Printing.{vector_text}
use Rattle.vlp_printer.proofs.print.put_vectors.Given as goal

abbrev pub invariant-loop-before : goal.invariant-loop-before
invariant-loop-before l = l.into ≡ l.fn.into ++ flat_map (λ j. vector_text j (slice_index_or l.fn.vectors (j - 1) [])) (numbers_from 1 l.before)
