use Rattle.std.proofs.Common.{length, take, map, ◌≤◌}
use Rattle.lin_rows.specs.Lines.{last_place}
use Rattle.lin_rows.specs.Read.{IsLineOf}
use Rattle.upper_image.specs.Spots.{entry_of}
use Rattle.overflows.proofs.Sparse.{AreKept}
use Rattle.overflows.proofs.spots.spots_of.Given as goal

abbrev pub invariant-loop-i : goal.invariant-loop-i
invariant-loop-i g l =
    let value = g.F.Field.value in
    record {
      line : IsLineOf (length l.list) (take l.i (map value l.list)) (map entry_of l.spots);
      last : last_place 0 (map entry_of l.spots) ≤ l.i;
      kept : AreKept l.spots;
    }
