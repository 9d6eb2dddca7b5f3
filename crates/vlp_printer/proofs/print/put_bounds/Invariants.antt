use Rattle.std.proofs.Common.{◌≡◌, ◌++◌, ◌∷◌, [], ◌-◌, slice_index_or}
use Rattle.std.specs.List.{flat_map}
use Rattle.vlp_problem.specs.Sides.{numbers_from}
use Rattle.vlp_problem.specs.declared.problem.Bound.TheVariants.{Unsaid}
use Rattle.vlp_printer.specs.Printing.{bound_line}
use Rattle.vlp_printer.proofs.print.put_bounds.Given as goal

abbrev pub invariant-loop-before : goal.invariant-loop-before
invariant-loop-before l = l.into ≡ l.fn.into ++ flat_map (λ k. bound_line (l.fn.letter ∷ []) k (slice_index_or l.fn.bounds (k - 1) Unsaid)) (numbers_from 1 l.before)
