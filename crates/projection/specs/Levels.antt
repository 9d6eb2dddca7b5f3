-- Which directions are level, told without a sum.
use Rattle.std.specs.Prelude.{◌≡◌, ◌↔◌, ℕ, ◌≤◌, map, length, take}
use Rattle.polyhedra.specs.Sparse.{value_at, values_from}
use Rattle.polyhedra.specs.Vectors.{zeros}
use Rattle.log_rules.specs.declared.answer.Gen.{Gen}
use Rattle.upper_image.specs.Spots.{entry_of}
use Rattle.projection.specs.Laws.{IsLevel}

-- the entries of a direction sum to 0 exactly where its first k entries are those of its choices, and
-- not all of them 0
pub record TellsLevel (k : ℕ) (g : Gen) : Type 0 where
  pub wide : k ≤ length g.y
  pub tells : IsLevel g.y
      ↔ ((take k g.y ≡ values_from k 1 (value_at (map entry_of g.pre))) × (take k g.y ≡ zeros k → ⊥))
