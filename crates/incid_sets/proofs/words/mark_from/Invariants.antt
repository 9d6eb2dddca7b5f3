use Rattle.std.proofs.Common.{◌≡◌, ℕ, ◌*◌, ◌<◌, ◌≤◌, false}
use Rattle.incid_sets.proofs.words.mark_from.Given as goal
use Rattle.incid_sets.specs.Words.{is_marked}

abbrev pub invariant-loop-i : goal.invariant-loop-i
invariant-loop-i l = record {
  after : l.k ≤ 64 * l.i;
  none : (j : ℕ) → l.k ≤ j → j < 64 * l.i → is_marked l.words j ≡ false;
}
