use Rattle.std.proofs.Common.{take, All, IsTrue}
use Rattle.frac128.specs.Held.{is_held}
use Rattle.commands.proofs.held.read_list_of_numbers.Given as goal

abbrev pub invariant-loop-number : goal.invariant-loop-number
invariant-loop-number l = All (λ q. IsTrue (is_held q)) (take l.number-index l.list)
