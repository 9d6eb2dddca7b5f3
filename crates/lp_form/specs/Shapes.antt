-- The shapes of data in a field: places that rise, and vectors of one length.
use Rattle.std.specs.Prelude.{ℕ, Bool, true, ◌&&◌, nat_lt, nat_le, List, [], ◌∷◌}
use Rattle.lin_rows.specs.declared.spots.Spot.{Spot}
use Rattle.vlp_problem.specs.Cones.{are_vectors}
use Rattle.lp_form.specs.declared.data.ConeOf.{ConeOf}
use Rattle.lp_form.specs.declared.data.ConeOf.TheVariants.{Orthant, Gens, Dual}

-- whether places rise from above `low` to n at most
abbrev pub are_places : {F : Type 0} → (n low : ℕ) → List (Spot F) → Bool
are_places n low [] = true
are_places n low (c ∷ spots) = nat_lt low c.at && (nat_le c.at n && are_places n c.at spots)

-- whether the vectors of a cone are such
abbrev pub vectors_fit : {F : Type 0} → ℕ → ConeOf F → Bool
vectors_fit q Orthant = true
vectors_fit q (Gens vectors) = are_vectors q vectors
vectors_fit q (Dual vectors) = are_vectors q vectors
