use Rattle.std.proofs.Common.{◌≡◌, ◌==◌, length}
use Rattle.std.specs.List.{list_any, slice_split}
use Rattle.word_lines.proofs.words.has_empty_word.Given as goal

abbrev pub invariant-loop-word : goal.invariant-loop-word
invariant-loop-word l = list_any (λ word. length word == 0) l.words ≡ list_any (λ word. length word == 0) (slice_split (λ b. b == 32) l.line)

abbrev pub decreases-loop-word : goal.decreases-loop-word
decreases-loop-word l = length l.words
