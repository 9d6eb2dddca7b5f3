-- What is proved of the faults of an ordering cone, and how ranks and the ends of its linear
-- programs tell them.
use Rattle.std.specs.Prelude.{◌≡◌, ◌≢◌, ◌⊎◌, ℕ, suc, ◌+◌, ◌≤◌, List, [], ◌∷◌, map, length, replicate, take, drop, All, None, Some, if◌then◌else◌}
use Rattle.std.specs.List.{list_all}
use Rattle.exact_field.specs.Rational.{ℚ, zero_ℚ, one_ℚ, inverse_ℚ, ◌≤ℚ◌, ◌<ℚ◌}
use Rattle.exact_field.specs.Vector.{entry, dot}
use Rattle.frac128.specs.Sparse.{is_zero}
use Rattle.frac128.specs.declared.vectors.Spot.{Spot}
use Rattle.polyhedra.specs.Cone.{IsInterior, HasFullRank}
use Rattle.polyhedra.specs.Negatives.{negated}
use Rattle.polyhedra.specs.Vectors.{AreWide, zeros, scaled, combination}
use Rattle.tableaux.specs.Table.{Table, System, IsSystem, row_of, column_of, unit, minus, unknown_count}
use Rattle.tableaux.specs.Dictionary.{IsFullDictionaryOf, solution}
use Rattle.tableaux.specs.Elimination.{AreIndependent, AreInverse, columns_of}
use Rattle.tableaux.specs.Simplex.{IsOptimal, IsInfeasible, IsUnbounded}
use Rattle.vlp_problem.specs.declared.problem.Problem.{Problem}
use Rattle.vlp_problem.specs.declared.problem.Cone.TheVariants.{Orthant, Gens, Dual}
use Rattle.upper_image.specs.OrderingCone.{IsIn, IsInteriorToCone, Fits}
use Rattle.upper_image.specs.Shows.{ShowsFitting}
use Rattle.upper_image.specs.Spots.{dense, IsVector}
use Rattle.lp_form.specs.Building.{joined}
use Rattle.lp_form.specs.Programs.{nonzero_vectors, zero_combination, interior_of_generators, interior_of_dual}
use Rattle.cone_rules.specs.Faults.{HasInterior, HasNoLine, IsSolid, IsPointed, IsSound, IsZeroCombination, ShowsFlat, ShowsLine, ShowsOutside, CombinesToMinusLast, ShowsLast, HasFault, place_of}
use Rattle.cone_rules.specs.declared.fault.ConeFault.{ConeFault}

-- ---- faults
-- what shows a fault excludes what a file without it has; so no sound file has a fault, and two
-- faults of a file are of one kind: each comes exactly where it is said
pub record FaultsExclude : Type 0 where
  pub flat : (file : Problem) (w : List ℚ) (m : List Spot) → ShowsFlat file.objs file.cone w m → IsSolid file → ⊥
  pub line : (file : Problem) (d : List ℚ) (m : List Spot) → ShowsLine file.objs file.cone d m → IsPointed file → ⊥
  pub outside : (file : Problem) (f w : List ℚ) (v : List Spot) → ShowsOutside file.objs file.cone f w v → IsInteriorToCone file f → ⊥
  pub last : (file : Problem) (c : List ℚ) (m : List Spot) → ShowsLast file.objs file.cone file.duality m → Fits file c → ⊥
  pub sound : (file : Problem) (fault : ConeFault) → HasFault file fault → IsSound file → ⊥
  pub one_kind : (file : Problem) (a b : ConeFault) → HasFault file a → HasFault file b → place_of a ≡ place_of b

-- ---- the orthant
-- the orthant is solid and pointed; a vector is interior where all its entries are positive, and
-- the unit vector of another entry shows that it is not
pub record OrthantLaws : Type 0 where
  pub solid : (q : ℕ) → HasInterior q Orthant
  pub pointed : (q : ℕ) → HasNoLine q Orthant
  pub inside : (q : ℕ) (f : List ℚ) → length f ≡ q → All (λ x. zero_ℚ <ℚ x) f → IsInterior q (IsIn q Orthant) f
  pub outside : (q : ℕ) (f : List ℚ) (k : ℕ) → 1 ≤ k → k ≤ q → entry f k ≤ℚ zero_ℚ → ShowsOutside q Orthant f (unit q k) []

-- ---- ranks
-- f is the combination of all vectors with the multipliers mu, which are positive
pub record IsPositiveCombination (q : ℕ) (vectors : List (List ℚ)) (mu f : List ℚ) : Type 0 where
  pub one_each : length mu ≡ length vectors
  pub sign : All (λ x. zero_ℚ <ℚ x) mu
  pub combined : combination q mu vectors ≡ f

-- generators of full rank have a solid cone, and their combinations with positive multipliers are
-- interior; rows of full rank have a pointed one
pub record RankLaws : Type 0 where
  pub solid : (q : ℕ) (vectors : List (List ℚ)) → AreWide q vectors → HasFullRank q vectors → HasInterior q (Gens vectors)
  pub inside : (q : ℕ) (vectors : List (List ℚ)) (mu f : List ℚ) → AreWide q vectors → HasFullRank q vectors → IsPositiveCombination q vectors mu f →
      IsInterior q (IsIn q (Gens vectors)) f
  pub pointed : (q : ℕ) (vectors : List (List ℚ)) → HasFullRank q vectors → HasNoLine q (Dual vectors)

-- ---- the program of vectors that combine to 0
-- the vector of a number for each of the vectors: those of the list at the vectors that are not 0,
-- in their order, and 0 at the others
abbrev pub spread : List (List ℚ) → List ℚ → List ℚ
spread [] xs = []
spread (v ∷ vectors) [] = zero_ℚ ∷ spread vectors []
spread (v ∷ vectors) (x ∷ xs) = if list_all is_zero v then zero_ℚ ∷ spread vectors (x ∷ xs) else x ∷ spread vectors xs

-- m is the sparse vector of these numbers
pub record IsSpread (vectors : List (List ℚ)) (xs : List ℚ) (m : List Spot) : Type 0 where
  pub vector : IsVector (length vectors) m
  pub numbers : dense (length vectors) m ≡ spread vectors xs

-- multipliers that combine the vectors that are not 0 to 0 and sum to 1, or those that show that
-- there are none
pub record PointedProgram : Type 0 where
  -- without a solution the cone that the vectors generate contains no line ..
  pub generated : (q : ℕ) (vectors : List (List ℚ)) (y : List ℚ) → AreWide q vectors → IsInfeasible (zero_combination q (nonzero_vectors (Gens vectors))) y →
      HasNoLine q (Gens vectors)
  -- .. and the cone of the vectors as rows has an interior vector
  pub rows : (q : ℕ) (vectors : List (List ℚ)) (y : List ℚ) → AreWide q vectors → IsInfeasible (zero_combination q (nonzero_vectors (Dual vectors))) y →
      IsInterior q (IsIn q (Dual vectors)) (take q y)
  -- a solution, spread over all vectors, is a combination to 0 of some of them, beginning with the
  -- first that is named
  pub optimal : (q : ℕ) (vectors : List (List ℚ)) (x dual : List ℚ) (m : List Spot) → AreWide q vectors →
      IsOptimal (zero_combination q (nonzero_vectors (Gens vectors))) x dual → IsSpread vectors x m →
      (m ≢ []) × ((s : Spot) (more : List Spot) → m ≡ s ∷ more → IsZeroCombination q vectors m (row_of vectors s.at))
  pub bounded : (q : ℕ) (vectors : List (List ℚ)) (x ray : List ℚ) → IsUnbounded (zero_combination q vectors) x ray → ⊥

-- the tests of a vector by the rows that are not 0: it is interior where each is positive at it,
-- and a row that is not shows that it is not
pub record RowTests : Type 0 where
  pub inside : (q : ℕ) (vectors : List (List ℚ)) (f : List ℚ) → AreWide q vectors → length f ≡ q → All (λ v. zero_ℚ <ℚ dot v f) (nonzero_vectors (Dual vectors)) →
      IsInterior q (IsIn q (Dual vectors)) f
  pub outside : (q : ℕ) (vectors : List (List ℚ)) (f : List ℚ) (k : ℕ) → AreWide q vectors → 1 ≤ k → k ≤ length vectors → row_of vectors k ≢ zeros q →
      dot (row_of vectors k) f ≤ℚ zero_ℚ → ShowsOutside q (Dual vectors) f (row_of vectors k) (record { at = k; value = one_ℚ } ∷ [])

-- ---- the program of an interior vector of generators
-- where the vector f is given
pub record GivenProgram : Type 0 where
  -- a positive optimum shows f as a combination of all generators with positive multipliers
  pub inside : (q : ℕ) (vectors : List (List ℚ)) (f x dual : List ℚ) → AreWide q vectors → length f ≡ q →
      IsOptimal (interior_of_generators q vectors (Some f)) x dual → zero_ℚ <ℚ entry x (suc (length vectors + length vectors)) →
      IsPositiveCombination q vectors (take (length vectors) x) f
  -- another optimum, or multipliers that show that there is no solution, show that f is not
  -- interior
  pub optimal : (q : ℕ) (vectors : List (List ℚ)) (f x dual : List ℚ) → AreWide q vectors → length f ≡ q →
      IsOptimal (interior_of_generators q vectors (Some f)) x dual → entry x (suc (length vectors + length vectors)) ≤ℚ zero_ℚ →
      ShowsOutside q (Gens vectors) f (drop (length vectors) dual) []
  pub infeasible : (q : ℕ) (vectors : List (List ℚ)) (f y : List ℚ) → AreWide q vectors → length f ≡ q →
      IsInfeasible (interior_of_generators q vectors (Some f)) y → ShowsOutside q (Gens vectors) f (drop (length vectors) y) []
  pub bounded : (q : ℕ) (vectors : List (List ℚ)) (f x ray : List ℚ) → AreWide q vectors → length f ≡ q → 1 ≤ q → HasInterior q (Gens vectors) →
      HasNoLine q (Gens vectors) → IsUnbounded (interior_of_generators q vectors (Some f)) x ray → ⊥

-- where none is given
pub record FoundProgram : Type 0 where
  -- an optimum gives the multipliers of a vector with the last entry 1
  pub optimal : (q : ℕ) (vectors : List (List ℚ)) (x dual : List ℚ) → AreWide q vectors → IsOptimal (interior_of_generators q vectors None) x dual →
      IsPositiveCombination q vectors (take (length vectors) x) (combination q (take (length vectors) x) vectors)
      × (entry (combination q (take (length vectors) x) vectors) q ≡ one_ℚ)
  -- without a solution no generator has a positive last entry
  pub infeasible : (q : ℕ) (vectors : List (List ℚ)) (y : List ℚ) → AreWide q vectors → IsInfeasible (interior_of_generators q vectors None) y →
      All (λ v. entry v q ≤ℚ zero_ℚ) vectors
  pub bounded : (q : ℕ) (vectors : List (List ℚ)) (x ray : List ℚ) → AreWide q vectors → IsUnbounded (interior_of_generators q vectors None) x ray → ⊥

-- ---- the program of an interior vector of rows
-- the interior vector that a solution says: the difference of its two lists of q unknowns
abbrev pub interior_said : ℕ → List ℚ → List ℚ
interior_said q x = minus (take q x) (take q (drop q x))

-- what the ends of the program of an interior vector show of a cone in dual form
pub record RowsProgram : Type 0 where
  -- where the cone is solid an optimum gives a vector with the last entry 1 at which each row that
  -- is not 0 is positive
  pub optimal : (q : ℕ) (vectors : List (List ℚ)) (x dual : List ℚ) → AreWide q vectors → 1 ≤ q → HasInterior q (Dual vectors) →
      IsOptimal (interior_of_dual q (nonzero_vectors (Dual vectors))) x dual →
      (length (interior_said q x) ≡ q) × (entry (interior_said q x) q ≡ one_ℚ) × All (λ v. zero_ℚ <ℚ dot v (interior_said q x)) (nonzero_vectors (Dual vectors))
  -- without a solution the multiplier of the equation on the last entry is negative ..
  pub divisor : (q : ℕ) (vectors : List (List ℚ)) (y : List ℚ) → AreWide q vectors → 1 ≤ q → IsInfeasible (interior_of_dual q vectors) y →
      entry y (suc (length vectors)) <ℚ zero_ℚ
  -- .. and those of the vectors' equations, divided by it, combine the vectors to minus the last
  -- unit vector
  pub infeasible : (q : ℕ) (vectors : List (List ℚ)) (y : List ℚ) (m : List Spot) → AreWide q vectors → 1 ≤ q →
      IsInfeasible (interior_of_dual q (nonzero_vectors (Dual vectors))) y →
      IsSpread vectors
      (scaled (inverse_ℚ (entry y (suc (length (nonzero_vectors (Dual vectors)))))) (take (length (nonzero_vectors (Dual vectors))) y)) m →
      CombinesToMinusLast q vectors m
  pub bounded : (q : ℕ) (vectors : List (List ℚ)) (x ray : List ℚ) → AreWide q vectors → 1 ≤ q → IsUnbounded (interior_of_dual q vectors) x ray → ⊥

-- ---- what shows that a duality vector fits
-- f, of q entries, divided by its last one
abbrev pub at_last_one : ℕ → List ℚ → List ℚ
at_last_one q f = scaled (inverse_ℚ (entry f q)) f

-- f divided by its last entry fits, or what was found; with weights and an inverse where the cone
-- is given by generators
pub record FittingLaws : Type 0 where
  -- the orthant, with f and without
  pub orthant_given : (file : Problem) (f : List ℚ) → file.cone ≡ Orthant → file.duality ≡ Some f → All (λ x. zero_ℚ <ℚ x) f →
      ShowsFitting file (at_last_one file.objs f) [] [] []
  pub orthant : (file : Problem) → file.cone ≡ Orthant → file.duality ≡ None → ShowsFitting file (replicate file.objs one_ℚ) [] [] []
  -- generators, among which there are independent ones with an inverse, whose columns are read
  pub generators_given : (file : Problem) (vectors : List (List ℚ)) (f mu : List ℚ) (picks : List ℕ) (inverse : Table) → file.cone ≡ Gens vectors →
      file.duality ≡ Some f → zero_ℚ <ℚ entry f file.objs → IsPositiveCombination file.objs vectors mu f → AreIndependent file.objs vectors picks →
      AreInverse file.objs (map (row_of vectors) picks) inverse →
      ShowsFitting file (at_last_one file.objs f) (scaled (inverse_ℚ (entry f file.objs)) mu) picks (joined (columns_of file.objs inverse))
  pub generators_found : (file : Problem) (vectors : List (List ℚ)) (c mu : List ℚ) (picks : List ℕ) (inverse : Table) → file.cone ≡ Gens vectors →
      file.duality ≡ None → entry c file.objs ≡ one_ℚ → IsPositiveCombination file.objs vectors mu c → AreIndependent file.objs vectors picks →
      AreInverse file.objs (map (row_of vectors) picks) inverse → ShowsFitting file c mu picks (joined (columns_of file.objs inverse))
  -- the dual form
  pub rows_given : (file : Problem) (vectors : List (List ℚ)) (f : List ℚ) → file.cone ≡ Dual vectors → file.duality ≡ Some f → zero_ℚ <ℚ entry f file.objs →
      All (λ v. zero_ℚ <ℚ dot v f) (nonzero_vectors (Dual vectors)) → ShowsFitting file (at_last_one file.objs f) [] [] []
  pub rows_found : (file : Problem) (vectors : List (List ℚ)) (c : List ℚ) → file.cone ≡ Dual vectors → file.duality ≡ None → length c ≡ file.objs →
      entry c file.objs ≡ one_ℚ → All (λ v. zero_ℚ <ℚ dot v c) (nonzero_vectors (Dual vectors)) → ShowsFitting file c [] [] []

-- ---- opposite unknowns
-- of two unknowns whose columns are negatives of each other at most one is not 0 in a solution that
-- is read off
abbrev pub OppositeColumns : Type 0
OppositeColumns = (s : System) (basis : List ℕ) (d : Table) (j k : ℕ) → IsSystem s → IsFullDictionaryOf s basis d → 1 ≤ j → j ≤ unknown_count s →
    1 ≤ k → k ≤ unknown_count s → j ≢ k → column_of s.equations j ≡ negated (column_of s.equations k) →
    (entry (solution s basis d) j ≡ zero_ℚ) ⊎ (entry (solution s basis d) k ≡ zero_ℚ)
