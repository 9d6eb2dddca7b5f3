use Rattle.std.proofs.Common.{take, All, IsTrue}
use Rattle.word_lines.specs.Parts.{is_formed_spot}
use Rattle.commands.proofs.held.read_list_of_spots.Given as goal

abbrev pub invariant-loop-spot : goal.invariant-loop-spot
invariant-loop-spot l = All (λ s. IsTrue (is_formed_spot s)) (take l.spot-index l.list)
