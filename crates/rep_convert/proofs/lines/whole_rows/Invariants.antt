use Rattle.std.proofs.Common.{◌≡◌, take}
use Rattle.rep_convert.proofs.lines.whole_rows.Given as goal

abbrev pub invariant-loop-row : goal.invariant-loop-row
invariant-loop-row l = record {
  width : l.list.width ≡ l.fn.width;
  rows : l.list.list ≡ take l.row-index l.rows;
}
