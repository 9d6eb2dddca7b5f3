use Rattle.std.proofs.Common.{◌≡◌, [], map, slice_index_or, take}
use Rattle.rep_convert.proofs.start.picked_rows.Given as goal

abbrev pub invariant-loop-number : goal.invariant-loop-number
invariant-loop-number l = record {
  width : l.out.width ≡ l.rows.width;
  rows : l.out.list ≡ map (λ k. slice_index_or l.rows.list k []) (take l.number-index l.picks);
}
