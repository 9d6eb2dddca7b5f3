use Rattle.std.proofs.Common.{take, All, IsTrue}
use Rattle.frac128.specs.Held.{is_held}
use Rattle.overflows.proofs.written.fractions_are_written.Given as goal

abbrev pub invariant-loop-q : goal.invariant-loop-q
invariant-loop-q l = All (λ q. IsTrue (is_held q)) (take l.q-index l.list)
