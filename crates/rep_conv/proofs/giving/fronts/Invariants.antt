use Rattle.std.proofs.Common.{◌≡◌, ◌-◌, length, map, take}
use Rattle.rep_conv.proofs.giving.fronts.Given as goal

abbrev pub invariant-loop-v : goal.invariant-loop-v
invariant-loop-v l = l.list ≡ map (λ v. take (length v - 1) v) (take l.v-index l.vectors)
