use Rattle.std.proofs.Common.{take, All, IsTrue}
use Rattle.word_lines.specs.Parts.{is_short}
use Rattle.commands.proofs.held.read_list_of_naturals.Given as goal

abbrev pub invariant-loop-number : goal.invariant-loop-number
invariant-loop-number l = All (λ n. IsTrue (is_short n)) (take l.number-index l.list)
