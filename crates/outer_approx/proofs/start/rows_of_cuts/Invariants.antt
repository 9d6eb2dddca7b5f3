use Rattle.std.proofs.Common.{◌≡◌, length, suc, map, take}
use Rattle.lin_rows.specs.Read.{numbers}
use Rattle.lineality.specs.Without.{open_count, without}
use Rattle.polyhedra.specs.Exactness.{rows_of}
use Rattle.outer_approx.specs.Cuts.{said_by}
use Rattle.outer_approx.proofs.start.rows_of_cuts.Given as goal

abbrev pub invariant-loop-cut : goal.invariant-loop-cut
invariant-loop-cut g l =
    let value = g.F.Field.value in
    record {
      width : l.rows.width ≡ suc (open_count l.places);
      rows : numbers value l.rows.list ≡ map (without l.places) (rows_of (length l.places) (map (said_by value) (take l.cut-index l.cuts)));
    }
