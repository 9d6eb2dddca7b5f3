-- Words that are written one after the other. For the clauses of the code alone.
use Rattle.std.specs.Prelude.{ℕ, List, ◌∷◌}
use Rattle.std.specs.List.{flat_map}

-- words, a blank before each
abbrev pub spaced : List (List ℕ) → List ℕ
spaced words = flat_map (λ w. 32 ∷ w) words
