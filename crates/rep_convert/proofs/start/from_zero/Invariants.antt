use Rattle.std.proofs.Common.{◌≡◌, ◌-◌, map, take}
use Rattle.rep_convert.proofs.start.from_zero.Given as goal

abbrev pub invariant-loop-number : goal.invariant-loop-number
invariant-loop-number l = l.list ≡ map (λ k. k - 1) (take l.number-index l.numbers)
