use Rattle.std.proofs.Common.{◌≤◌, All, take}
use Rattle.shown_program.proofs.range.are_numbers.Given as goal

abbrev pub invariant-loop-column : goal.invariant-loop-column
invariant-loop-column l = record {
  low : All (λ c. 1 ≤ c) (take l.column-index l.columns);
  high : All (λ c. c ≤ l.most) (take l.column-index l.columns);
}
