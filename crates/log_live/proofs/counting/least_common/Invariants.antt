use Rattle.std.proofs.Common.{ℕ, ◌≤◌, List, take}
use Rattle.exact_field.specs.Rational.{ℚ}
use Rattle.lineality.specs.Without.{open_count}
use Rattle.polyhedra.specs.LiveList.{vectors}
use Rattle.log_live.specs.Adding.{AreDescribed}
use Rattle.log_live.specs.Live.{live_of}
use Rattle.log_live.proofs.counting.least_common.Given as goal

abbrev pub invariant-loop-place : goal.invariant-loop-place
invariant-loop-place l = record {
  few : l.open ≤ l.place;
  least : (q : ℕ) (rows : List (List ℚ))
      (d : AreDescribed q rows (vectors (live_of l.generators))) →
      l.open ≤ open_count (take l.place d.marks);
}
