use Rattle.std.proofs.Common.{◌≡◌, suc, map, take}
use Rattle.lineality.specs.Without.{open_count, without}
use Rattle.rep_convert.proofs.start.short_rows.Given as goal

abbrev pub invariant-loop-whole : goal.invariant-loop-whole
invariant-loop-whole l = record {
  width : l.short.width ≡ suc (open_count l.places);
  rows : l.short.list ≡ map (without l.places) (take l.whole-index l.rows);
}
