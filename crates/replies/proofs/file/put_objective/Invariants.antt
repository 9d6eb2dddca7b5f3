use Rattle.std.proofs.Common.{◌≡◌, ◌++◌}
use Rattle.replies.specs.Draws.{state_after}
use Rattle.replies.specs.Drawn.{drawn_row}
use Rattle.replies.proofs.file.put_objective.Given as goal

-- the columns before this one are drawn
abbrev pub invariant-loop-before : goal.invariant-loop-before
invariant-loop-before l = (l.last ≡ state_after l.state l.before) × (l.into ≡ l.initial.into ++ drawn_row l.state l.row l.before)
