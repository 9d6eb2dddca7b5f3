use Rattle.std.proofs.Common.{map}
use Rattle.entry_checks.specs.Cuts.{stated, named_from}
use Rattle.entry_checks.specs.Parts.{tight_events}
use Rattle.entry_checks.proofs.Going.{IsAt}
use Rattle.entry_checks.proofs.corner.are_tight.Given as goal

abbrev pub invariant-loop-number : goal.invariant-loop-number
invariant-loop-number l = IsAt (λ cut. tight_events l.fn.point cut.w cut.gamma) (named_from (map stated l.fn.cuts) l.fn.named) l.fn.counter.taken l.number-index l.counter.taken
