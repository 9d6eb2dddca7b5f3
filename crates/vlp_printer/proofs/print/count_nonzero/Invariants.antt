use Rattle.std.proofs.Common.{◌≡◌, ◌≤◌, take, count_by, not}
use Rattle.frac128.specs.Sparse.{is_zero}
use Rattle.vlp_printer.proofs.print.count_nonzero.Given as goal

abbrev pub invariant-loop-entry : goal.invariant-loop-entry
invariant-loop-entry l = record { value : l.count ≡ count_by (λ q. not (is_zero q)) (take l.entry-index l.vector); bound : l.count ≤ l.entry-index }
