use Rattle.std.proofs.Common.{take, All, IsTrue}
use Rattle.word_lines.specs.Parts.{is_formed_pair}
use Rattle.commands.proofs.held.read_list_of_pairs.Given as goal

abbrev pub invariant-loop-pair : goal.invariant-loop-pair
invariant-loop-pair l = All (λ p. IsTrue (is_formed_pair p)) (take l.pair-index l.list)
