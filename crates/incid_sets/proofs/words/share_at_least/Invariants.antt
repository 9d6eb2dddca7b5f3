use Rattle.std.proofs.Common.{◌≡◌, ◌+◌, length, take, sum_by, count_ones}
use Rattle.incid_sets.proofs.words.share_at_least.Given as goal
use Rattle.incid_sets.specs.Words.{common_words}

abbrev pub invariant-loop-x : goal.invariant-loop-x
invariant-loop-x l = l.missing + sum_by count_ones (take (length l.yielded) (common_words l.a l.b)) ≡ l.fn.count
