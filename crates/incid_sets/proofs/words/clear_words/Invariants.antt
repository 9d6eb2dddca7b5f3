use Rattle.std.proofs.Common.{◌≡◌, ◌++◌, drop, replicate, vec_len}
use Rattle.incid_sets.proofs.words.clear_words.Given as goal

abbrev pub invariant-loop-i : goal.invariant-loop-i
invariant-loop-i l = record {
  room : vec_len l.words ≡ vec_len l.fn.words;
  done : l.words.items ≡ replicate l.i 0 ++ drop l.i l.fn.words.items;
}
