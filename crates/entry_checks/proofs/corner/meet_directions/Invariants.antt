use Rattle.std.proofs.Common.{map}
use Rattle.std.specs.List.{enumerate_from}
use Rattle.upper_image.specs.Spots.{pieces}
use Rattle.entry_checks.specs.Cuts.{stated, named_from}
use Rattle.entry_checks.specs.Parts.{corners_events}
use Rattle.entry_checks.proofs.Going.{IsAt}
use Rattle.entry_checks.proofs.corner.meet_directions.Given as goal

abbrev pub invariant-loop-k : goal.invariant-loop-k
invariant-loop-k l =
    IsAt (λ c. corners_events (pieces l.fn.count l.fn.objs l.fn.directions) c.1.w c.0) (enumerate_from 1 (named_from (map stated l.fn.cuts) l.fn.named))
    l.fn.counter.taken l.k l.counter.taken
