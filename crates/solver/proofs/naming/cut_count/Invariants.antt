use Rattle.std.proofs.Common.{◌≡◌, ◌≤◌, ℕ, length, take}
use Rattle.log_rules.specs.Live.{state}
use Rattle.solver.proofs.naming.cut_count.Given as goal

abbrev pub invariant-loop-entry : goal.invariant-loop-entry
invariant-loop-entry l = record {
  same : (q : ℕ) → length (state q (take l.entry-index l.entries)).cuts ≡ l.count;
  low : l.count ≤ l.entry-index;
}
