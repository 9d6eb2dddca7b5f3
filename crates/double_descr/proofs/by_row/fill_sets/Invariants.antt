use Rattle.std.proofs.Common.{◌≡◌, length}
use Rattle.double_descr.specs.ByRow.{AreByRow}
use Rattle.double_descr.proofs.by_row.fill_sets.Given as goal

abbrev pub invariant-loop-i : goal.invariant-loop-i
invariant-loop-i g l = record {
  bound : length l.shared ≡ length l.rows;
  filled : AreByRow l.generators l.rows l.i l.sets.items;
}
