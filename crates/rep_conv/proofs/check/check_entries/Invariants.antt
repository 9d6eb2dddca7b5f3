use Rattle.rep_conv.specs.Checked.{IsTaken}
use Rattle.rep_conv.proofs.check.check_entries.Given as goal

abbrev pub invariant-loop-i : goal.invariant-loop-i
invariant-loop-i l = IsTaken l.fn.rep l.fn.log l.i l.standing
