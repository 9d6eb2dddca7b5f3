use Rattle.std.proofs.Common.{ℕ}
use Rattle.benson_dual.specs.Order.{AreListed}
use Rattle.benson_dual.proofs.order.Walk.go_on.Given as goal

abbrev pub invariant-loop-turn : goal.invariant-loop-turn
invariant-loop-turn l = (count : ℕ) → AreListed count l.initial.self.listed.items l.initial.self.order → AreListed count l.self.listed.items l.self.order
