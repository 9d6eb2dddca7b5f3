use Rattle.std.proofs.Common.{◌≡◌, ◌++◌, drop}
use Rattle.sol_writer.specs.Lines.{lines_text}
use Rattle.weighing.specs.Text.{sets_lines}
use Rattle.weighing.proofs.text.put_sets.Given as goal

-- what is appended so far and what is left make the whole
abbrev pub invariant-loop-index : goal.invariant-loop-index
invariant-loop-index l =
    l.into ++ lines_text (sets_lines (drop l.index l.points) (drop l.index l.sets))
    ≡ l.initial.into ++ lines_text (sets_lines l.points l.sets)
