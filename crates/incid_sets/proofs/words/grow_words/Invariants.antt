use Rattle.std.proofs.Common.{◌≡◌, ℕ, ◌≤◌, ◌-◌, vec_len}
use Rattle.incid_sets.proofs.words.grow_words.Given as goal
use Rattle.incid_sets.specs.Words.{is_marked}

abbrev pub invariant-loop-words : goal.invariant-loop-words
invariant-loop-words l = record {
  more : vec_len l.initial.words ≤ vec_len l.words;
  same : (k : ℕ) → is_marked l.words.items k ≡ is_marked l.initial.words.items k;
}

abbrev pub decreases-loop-words : goal.decreases-loop-words
decreases-loop-words l = l.count - vec_len l.words
