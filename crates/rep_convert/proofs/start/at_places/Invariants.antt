use Rattle.std.proofs.Common.{◌≡◌, ◌-◌, map, slice_index_or, take}
use Rattle.rep_convert.proofs.start.at_places.Given as goal

abbrev pub invariant-loop-place : goal.invariant-loop-place
invariant-loop-place l = l.out ≡ map (λ i. slice_index_or l.list (i - 1) 0) (take l.place-index l.places)
