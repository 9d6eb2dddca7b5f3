use Rattle.std.proofs.Common.{◌≡◌, ◌<◌, ◌-◌, ℕ, IsTrue, length}
use Rattle.incid_sets.specs.Marks.{has}
use Rattle.double_descr.specs.ByRow.{set_of}
use Rattle.double_descr.proofs.by_row.insert_place.Given as goal

abbrev pub invariant-loop-r : goal.invariant-loop-r
invariant-loop-r l = record {
  many : length l.sets.items ≡ length l.initial.sets.items;
  same : (r : ℕ) → length (set_of l.sets.items r) ≡ length (set_of l.initial.sets.items r);
  keeps : (r k : ℕ) → IsTrue (has (set_of l.initial.sets.items r) k) → IsTrue (has (set_of l.sets.items r) k);
  gives : (r : ℕ) → r < l.from → IsTrue (has l.rows r) → IsTrue (has (set_of l.sets.items r) l.place);
}

abbrev pub decreases-loop-r : goal.decreases-loop-r
decreases-loop-r l = length l.rows - l.from
