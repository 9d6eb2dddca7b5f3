use Rattle.std.proofs.Common.{◌≡◌, ℕ, ◌<◌, ◌≤◌, get_or, bit_and, vec_len}
use Rattle.incid_sets.proofs.words.keep_words.Given as goal

abbrev pub invariant-loop-i : goal.invariant-loop-i
invariant-loop-i l = record {
  room : vec_len l.words ≡ vec_len l.fn.words;
  done : (j : ℕ) → j < l.i → get_or l.words.items j 0 ≡ bit_and (get_or l.fn.words.items j 0) (get_or l.other j 0);
  left : (j : ℕ) → l.i ≤ j → get_or l.words.items j 0 ≡ get_or l.fn.words.items j 0;
}
