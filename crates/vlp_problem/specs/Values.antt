-- The numbers of a problem, in the order of printing; of the cone vectors with the zeros, which have no line.
use Rattle.std.specs.Prelude.{List, [], ◌∷◌, ◌++◌, map, Option, None, Some}
use Rattle.std.specs.List.{flat_map}
use Rattle.exact_field.specs.Rational.{ℚ}
use Rattle.vlp_problem.specs.declared.problem.Bound.{Bound}
use Rattle.vlp_problem.specs.declared.problem.Bound.TheVariants.{Unsaid, Free, Lower, Upper, Double, Fixed}
use Rattle.vlp_problem.specs.declared.problem.Cone.{Cone}
use Rattle.vlp_problem.specs.declared.problem.Cone.TheVariants.{Orthant, Gens, Dual}
use Rattle.vlp_problem.specs.declared.problem.Problem.{Problem}

-- the numbers of the bounds of a row or column, the lower one first
abbrev pub bound_numbers : Bound → List ℚ
bound_numbers Unsaid = []
bound_numbers Free = []
bound_numbers (Lower low) = low ∷ []
bound_numbers (Upper high) = high ∷ []
bound_numbers (Double low high) = low ∷ high ∷ []
bound_numbers (Fixed value) = value ∷ []

-- the vectors of a cone, none for the orthant
abbrev pub cone_vectors : Cone → List (List ℚ)
cone_vectors Orthant = []
cone_vectors (Gens vectors) = vectors
cone_vectors (Dual vectors) = vectors

-- the entries of the duality vector, none where the file gives no such vector
abbrev pub duality_entries : Option (List ℚ) → List ℚ
duality_entries None = []
duality_entries (Some f) = f

-- all numbers of a problem
abbrev pub printed_numbers : Problem → List ℚ
printed_numbers problem =
    map (λ c. c.value) problem.a ++ (map (λ c. c.value) problem.o
    ++ (duality_entries problem.duality ++ (flat_map (λ v. v) (cone_vectors problem.cone)
    ++ (flat_map bound_numbers problem.row_bounds ++ flat_map bound_numbers problem.col_bounds))))
