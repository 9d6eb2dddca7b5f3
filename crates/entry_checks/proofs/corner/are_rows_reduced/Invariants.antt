use Rattle.std.proofs.Common.{◌≡◌, drop}
use Rattle.log_rules.specs.LiveEvents.{all_reduced}
use Rattle.upper_image.specs.Spots.{pieces}
use Rattle.entry_checks.proofs.corner.are_rows_reduced.Given as goal

abbrev pub invariant-loop-a : goal.invariant-loop-a
invariant-loop-a l = all_reduced l.lines (pieces l.count l.objs l.directions) ≡ all_reduced l.lines (drop l.a (pieces l.count l.objs l.directions))
