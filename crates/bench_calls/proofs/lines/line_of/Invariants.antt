use Rattle.std.proofs.Common.{◌≡◌, map, take}
use Rattle.exact_field.specs.Rational.{whole}
use Rattle.bench_calls.proofs.lines.line_of.Given as goal

abbrev pub invariant-loop-entry : goal.invariant-loop-entry
invariant-loop-entry l = l.row ≡ map whole (take l.entry-index l.line)
