use Rattle.std.proofs.Common.{◌≡◌, ℕ, ◌+◌, ◌*◌, ◌≤◌, List}
use Rattle.exact_field.specs.Rational.{ℚ}
use Rattle.polyhedra.specs.LiveList.{live_pairs}
use Rattle.rep_conv.specs.Events.{pair_of}
use Rattle.log_rules.specs.Live.{required_pairs}
use Rattle.entry_checks.proofs.Going.{IsAt}
use Rattle.rep_conv.specs.Adding.{AreAtRow, values_at}
use Rattle.log_live.specs.Live.{live_of}
use Rattle.log_live.proofs.LivePairs.{AreMadeTo}
use Rattle.rep_conv.proofs.adding.new_generators.Given as goal

abbrev pub invariant-loop-i : goal.invariant-loop-i
invariant-loop-i l = record {
  room : l.counter.taken ≤ l.fn.counter.taken + l.i * 400000;
  here : (width : ℕ) (rows : List (List ℚ)) (row : List ℚ) → AreAtRow width rows row l.fn.generators → l.fn.values ≡ values_at row l.fn.generators → l.fn.pairs ≡ required_pairs rows (live_of l.fn.generators) row →
      IsAt (pair_of row (live_of l.fn.generators)) l.fn.pairs l.fn.counter.taken l.i l.counter.taken;
  made : (width : ℕ) (rows : List (List ℚ)) (row : List ℚ) → AreAtRow width rows row l.fn.generators → l.fn.values ≡ values_at row l.fn.generators → l.fn.pairs ≡ required_pairs rows (live_of l.fn.generators) row →
      AreMadeTo rows row (live_pairs rows (live_of l.fn.generators) row) l.fn.next l.i l.made;
}
