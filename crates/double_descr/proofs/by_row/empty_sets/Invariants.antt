use Rattle.std.proofs.Common.{◌≡◌, ◌<◌, ℕ, cond, length}
use Rattle.incid_sets.specs.Marks.{has}
use Rattle.double_descr.specs.ByRow.{set_of}
use Rattle.double_descr.proofs.by_row.empty_sets.Given as goal

abbrev pub invariant-loop-r : goal.invariant-loop-r
invariant-loop-r l = record {
  many : length l.sets.items ≡ l.r;
  each : (k : ℕ) → k < l.r → length (set_of l.sets.items k) ≡ cond {A = ℕ} (has l.rows k) l.count 0;
}
