use Rattle.std.proofs.Common.{All, length, take}
use Rattle.frac128.specs.Held.{is_held}
use Rattle.lin_rows.specs.Sums.{AreHeld}
use Rattle.rep_convert.proofs.products.try_row.Given as goal

abbrev pub invariant-loop-vector : goal.invariant-loop-vector
invariant-loop-vector l = All (λ v. AreHeld is_held l.row v (length l.row)) (take l.vector-index l.vectors)
