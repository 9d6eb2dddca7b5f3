-- The sizes of a cone's vectors and of the duality vector.
use Rattle.std.specs.Prelude.{ℕ, ◌==◌, Bool, true, ◌&&◌, nat_lt, nat_le, List, length, Option, None, Some}
use Rattle.exact_field.specs.Vector.{are_wide}
use Rattle.vlp_problem.specs.declared.problem.Cone.{Cone}
use Rattle.vlp_problem.specs.declared.problem.Cone.TheVariants.{Orthant, Gens, Dual}

-- whether these are one vector or more, at most 100,000, of this many entries each
abbrev pub are_vectors : {T : Type 0} → ℕ → List (List T) → Bool
are_vectors objs vectors = nat_lt 0 (length vectors) && (nat_le (length vectors) 100000 && are_wide objs vectors)

-- whether a cone lies in the space of this many objectives
abbrev pub cone_fits : ℕ → Cone → Bool
cone_fits objs Orthant = true
cone_fits objs (Gens vectors) = are_vectors objs vectors
cone_fits objs (Dual vectors) = are_vectors objs vectors

-- whether a duality vector that is given has this many entries
abbrev pub duality_fits : {T : Type 0} → ℕ → Option (List T) → Bool
duality_fits objs None = true
duality_fits objs (Some f) = length f == objs
