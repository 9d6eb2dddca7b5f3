use Rattle.std.proofs.Common.{◌≡◌, drop}
use Rattle.log_rules.specs.Live.{contains}
use Rattle.weighing.proofs.sets.has.Given as goal

-- the first numbers are others
abbrev pub invariant-loop-other : goal.invariant-loop-other
invariant-loop-other l = contains l.numbers l.number ≡ contains (drop l.other-index l.numbers) l.number
