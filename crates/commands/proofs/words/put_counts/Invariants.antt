use Rattle.std.proofs.Common.{◌≡◌, ◌++◌, drop, ◌∷◌, [], decimal}
use Rattle.std.specs.List.{flat_map}
use Rattle.word_lines.specs.Printing.{spaced}
use Rattle.commands.proofs.words.put_counts.Given as goal

-- what is appended so far and what is left make the whole
abbrev pub invariant-loop-number : goal.invariant-loop-number
invariant-loop-number l = l.into ++ flat_map (λ n. spaced (decimal n ∷ [])) (drop l.number-index l.numbers) ≡ l.initial.into ++ flat_map (λ n. spaced (decimal n ∷ [])) l.numbers
