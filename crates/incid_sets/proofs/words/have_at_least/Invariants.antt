use Rattle.std.proofs.Common.{◌≡◌, ◌+◌, take, sum_by, count_ones}
use Rattle.incid_sets.proofs.words.have_at_least.Given as goal

abbrev pub invariant-loop-word : goal.invariant-loop-word
invariant-loop-word l = l.missing + sum_by count_ones (take l.word-index l.words) ≡ l.fn.count
