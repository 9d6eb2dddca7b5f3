use Rattle.std.proofs.Common.{◌≡◌, ◌≤◌, ◌*◌, ◌^◌, take, not, sum_by, count_by}
use Rattle.frac128.specs.Sparse.{is_zero}
use Rattle.vlp_printer.proofs.print.entry_total.Given as goal

abbrev pub invariant-loop-vector : goal.invariant-loop-vector
invariant-loop-vector l = record { value : l.total ≡ sum_by (λ v. count_by (λ q. not (is_zero q)) v) (take l.vector-index l.vectors); bound : l.total ≤ l.vector-index * 2 ^ 64 }
