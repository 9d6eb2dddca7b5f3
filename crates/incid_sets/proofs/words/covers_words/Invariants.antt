use Rattle.std.proofs.Common.{◌≡◌, ℕ, ◌<◌, get_or, bit_and}
use Rattle.incid_sets.proofs.words.covers_words.Given as goal

abbrev pub invariant-loop-i : goal.invariant-loop-i
invariant-loop-i l = (j : ℕ) → j < l.i →
    bit_and (bit_and (get_or l.a j 0) (get_or l.b j 0)) (get_or l.words j 0) ≡ bit_and (get_or l.a j 0) (get_or l.b j 0)
