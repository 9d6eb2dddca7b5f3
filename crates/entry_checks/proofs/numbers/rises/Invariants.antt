use Rattle.std.proofs.Common.{◌≡◌, ◌-◌, drop}
use Rattle.log_rules.specs.CutEvents.{rises}
use Rattle.entry_checks.proofs.numbers.rises.Given as goal

abbrev pub invariant-loop-i : goal.invariant-loop-i
invariant-loop-i l = rises l.numbers ≡ rises (drop (l.i - 1) l.numbers)
