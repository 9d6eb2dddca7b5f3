use Rattle.std.proofs.Common.{◌≡◌, ◌++◌, take}
use Rattle.benson_dual.specs.Order.{unmarked_from}
use Rattle.benson_dual.proofs.order.Walk.into_order.Given as goal

abbrev pub invariant-loop-place : goal.invariant-loop-place
invariant-loop-place l = l.order ≡ l.fn.self.order ++ unmarked_from 0 (take l.place l.listed.items)
