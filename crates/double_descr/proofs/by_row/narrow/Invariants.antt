use Rattle.std.proofs.Common.{◌≡◌, ◌<◌, ◌≤◌, ◌-◌, ℕ, IsTrue, List, Bool, length}
use Rattle.std.specs.Prelude.{IsFalse}
use Rattle.incid_sets.specs.Marks.{has, size, IsMeet}
use Rattle.double_descr.specs.ByRow.{HasPlace}
use Rattle.double_descr.proofs.ByRow.{missed}
use Rattle.double_descr.proofs.by_row.narrow.Given as goal

abbrev pub invariant-loop-r : goal.invariant-loop-r
invariant-loop-r l = record {
  any_bound : length l.any ≡ length l.initial.any;
  bound : length l.possible ≡ length l.initial.possible;
  few : l.taken < l.group;
  begun : (place : ℕ) (tight : List Bool) → HasPlace l.sets l.rows tight place → IsFalse (has l.any place) → l.taken ≤ missed l.rows tight l.from;
  kept : (place : ℕ) (tight common : List Bool) → HasPlace l.sets l.rows tight place → IsMeet common l.rows tight → l.least ≤ size common →
      IsTrue (has l.initial.possible place) → IsTrue (has l.possible place);
}

abbrev pub decreases-loop-r : goal.decreases-loop-r
decreases-loop-r l = length l.rows - l.from
