use Rattle.std.proofs.Common.{suc, length}
use Rattle.std.specs.List.{enumerate_from}
use Rattle.upper_image.specs.Spots.{pieces}
use Rattle.entry_checks.proofs.Going.{IsAt}
use Rattle.rep_conv.specs.Events.{generator_events}
use Rattle.rep_conv.proofs.start.check_generators.Given as goal

abbrev pub invariant-loop-j : goal.invariant-loop-j
invariant-loop-j l = IsAt (generator_events l.fn.rep l.fn.lines l.fn.named) (enumerate_from 1 (pieces (length l.fn.named) (suc l.fn.rep.width) l.fn.gens)) l.fn.counter.taken l.j l.counter.taken
