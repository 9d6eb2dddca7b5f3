use Rattle.std.proofs.Common.{◌≡◌, map}
use Rattle.lin_rows.specs.Sums.{partial, AreHeld}
use Rattle.overflows.proofs.sums.sum_of_products.Given as goal

abbrev pub invariant-loop-i : goal.invariant-loop-i
invariant-loop-i g l =
    let value = g.F.Field.value in
    record {
      sum : value l.total ≡ partial (map value l.xs) (map value l.ys) l.i;
      held : AreHeld g.F.Field.holds (map value l.xs) (map value l.ys) l.i;
    }
