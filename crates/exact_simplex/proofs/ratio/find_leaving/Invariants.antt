use Rattle.std.proofs.Common.{◌<◌, length}
use Rattle.std.specs.Prelude.{⊤, MatchOption}
use Rattle.lin_rows.specs.Lines.{lines}
use Rattle.exact_simplex.specs.Ratios.{IsLeaving}
use Rattle.exact_simplex.proofs.ratio.find_leaving.Given as goal

abbrev pub invariant-loop-i : goal.invariant-loop-i
invariant-loop-i g l =
    record {
      found : MatchOption l.best ⊤ (λ r. r < length l.rows);
      least : IsLeaving (lines g.F.Field.value l.rows) l.col l.columns l.i l.best;
    }
