use Rattle.std.proofs.Common.{◌≤◌, ℕ, Contains, take}
use Rattle.log_rules.specs.Live.{named}
use Rattle.solver.proofs.naming.named_count.Given as goal

abbrev pub invariant-loop-entry : goal.invariant-loop-entry
invariant-loop-entry l = record {
  named : (k : ℕ) → 1 ≤ k → k ≤ l.count → Contains (named (take l.entry-index l.entries)) k;
  low : l.count ≤ l.entry-index;
}
