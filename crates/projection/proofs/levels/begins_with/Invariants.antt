use Rattle.std.proofs.Common.{◌≡◌, ℕ, ◌+◌, ◌<◌, map, slice_index_or}
use Rattle.exact_field.specs.Rational.{zero_ℚ}
use Rattle.polyhedra.specs.Sparse.{value_at}
use Rattle.upper_image.specs.Spots.{entry_of}
use Rattle.projection.proofs.levels.begins_with.Given as goal

-- the first entries are the same
abbrev pub invariant-loop-before : goal.invariant-loop-before
invariant-loop-before l = (i : ℕ) → i < l.before → slice_index_or l.vector i zero_ℚ ≡ value_at (map entry_of l.spots) (i + 1)
