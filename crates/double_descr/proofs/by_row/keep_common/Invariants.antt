use Rattle.std.proofs.Common.{◌≡◌, ◌-◌, ℕ, IsTrue, List, Bool, length}
use Rattle.incid_sets.specs.Marks.{has, ContainsAll}
use Rattle.double_descr.specs.ByRow.{HasPlace}
use Rattle.double_descr.proofs.by_row.keep_common.Given as goal

abbrev pub invariant-loop-r : goal.invariant-loop-r
invariant-loop-r l = record {
  bound : length l.thirds ≡ length l.initial.thirds;
  kept : (place : ℕ) (tight : List Bool) → HasPlace l.sets l.common tight place → ContainsAll tight l.common →
      IsTrue (has l.initial.thirds place) → IsTrue (has l.thirds place);
}

abbrev pub decreases-loop-r : goal.decreases-loop-r
decreases-loop-r l = length l.common - l.from
