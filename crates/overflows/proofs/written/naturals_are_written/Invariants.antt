use Rattle.std.proofs.Common.{take, All, IsTrue}
use Rattle.word_lines.specs.Parts.{is_short}
use Rattle.overflows.proofs.written.naturals_are_written.Given as goal

abbrev pub invariant-loop-n : goal.invariant-loop-n
invariant-loop-n l = All (λ n. IsTrue (is_short n)) (take l.n-index l.list)
