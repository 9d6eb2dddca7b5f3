use Rattle.std.proofs.Common.{◌≡◌, ◌<◌, ◌^◌, take, sum_by, count_ones}
use Rattle.incid_sets.proofs.words.count_marks.Given as goal

abbrev pub invariant-loop-word : goal.invariant-loop-word
invariant-loop-word l = sum_by count_ones (take l.word-index l.words) < 2 ^ 32 → l.total ≡ sum_by count_ones (take l.word-index l.words)
