use denote.Text.{Utf8}
use denote.Shadow.{shadow}
use Rattle.cases.proofs.judging.fits.Given as goal

-- what is left of the text is text
abbrev pub invariant-loop-piece : goal.invariant-loop-piece
invariant-loop-piece l =
    (goal.iterator-loop-piece).can_next l.piece-iterator ×
    (goal.iterator-loop-piece).is_finite l.piece-iterator ×
    shadow (Utf8 l.rest)
