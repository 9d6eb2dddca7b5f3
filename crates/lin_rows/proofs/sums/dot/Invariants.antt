use Rattle.std.proofs.Common.{◌≡◌, map}
use Rattle.lin_rows.specs.Sums.{partial, AreHeld}
use Rattle.lin_rows.proofs.sums.dot.Given as goal

abbrev pub invariant-loop-i : goal.invariant-loop-i
invariant-loop-i g l =
    let value = g.F.Field.value in
    record {
      sum : value l.total ≡ partial (map value l.a) (map value l.b) l.i;
      held : AreHeld g.F.Field.holds (map value l.a) (map value l.b) l.i;
    }
