-- Sparse vectors: lists of places and values, the places rising from 1 and no value 0.
use Rattle.std.specs.Prelude.{ℕ, ◌==◌, Bool, true, not, ◌&&◌, nat_lt, unsigned_abs, List, [], ◌∷◌, IsTrue}
use Rattle.exact_field.specs.Rational.{ℚ, zero_ℚ, ◌+ℚ◌, ◌*ℚ◌}
use Rattle.exact_field.specs.Vector.{entry}
use Rattle.frac128.specs.declared.vectors.Spot.{Spot}

-- whether q is 0
abbrev pub is_zero : ℚ → Bool
is_zero q = unsigned_abs q.num == 0

-- whether the places rise from above `last`, and no value is 0
abbrev pub rises_above : ℕ → List Spot → Bool
rises_above last [] = true
rises_above last (s ∷ spots) = nat_lt last s.at && (not (is_zero s.value) && rises_above s.at spots)

-- a list of spots is a sparse vector
abbrev pub IsSparse : List Spot → Type 0
IsSparse spots = IsTrue (rises_above 0 spots)

-- the product with a vector: the sum over the named places, the vector's entry first
abbrev pub sparse_dot : List ℚ → List Spot → ℚ
sparse_dot v [] = zero_ℚ
sparse_dot v (s ∷ spots) = entry v s.at *ℚ s.value +ℚ sparse_dot v spots
