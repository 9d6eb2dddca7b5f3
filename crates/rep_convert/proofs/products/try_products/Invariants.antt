use Rattle.std.proofs.Common.{All, length, take}
use Rattle.frac128.specs.Held.{is_held}
use Rattle.lin_rows.specs.Sums.{AreHeld}
use Rattle.rep_convert.proofs.products.try_products.Given as goal

abbrev pub invariant-loop-row : goal.invariant-loop-row
invariant-loop-row l = All (λ r. All (λ v. AreHeld is_held r v (length r)) l.vectors) (take l.row-index l.rows)
