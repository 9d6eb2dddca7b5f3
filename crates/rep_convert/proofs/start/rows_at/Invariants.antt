use Rattle.std.proofs.Common.{◌≡◌, [], map, slice_index_or, take}
use Rattle.rep_convert.proofs.start.rows_at.Given as goal

abbrev pub invariant-loop-number : goal.invariant-loop-number
invariant-loop-number l = l.out ≡ map (λ k. slice_index_or l.rows k []) (take l.number-index l.picks)
