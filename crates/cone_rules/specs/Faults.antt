-- The faults of an ordering cone and its duality vector, by what shows them: tests on given
-- numbers, over exact arithmetic.
use Rattle.std.specs.Prelude.{◌≡◌, ◌≢◌, ℕ, List, [], ◌∷◌, map, length, All, Option, None, Some}
use Rattle.exact_field.specs.Rational.{ℚ, zero_ℚ, one_ℚ, ◌≤ℚ◌, ◌<ℚ◌}
use Rattle.exact_field.specs.Vector.{entry, dot, sum_ℚ}
use Rattle.frac128.specs.declared.vectors.Spot.{Spot}
use Rattle.polyhedra.specs.Cone.{IsInterior}
use Rattle.polyhedra.specs.Negatives.{negated}
use Rattle.polyhedra.specs.Vectors.{zeros, combination}
use Rattle.tableaux.specs.Elimination.{IsOrthogonal}
use Rattle.tableaux.specs.Table.{row_of, unit}
use Rattle.vlp_problem.specs.declared.problem.Problem.{Problem}
use Rattle.vlp_problem.specs.declared.problem.Cone.{Cone}
use Rattle.vlp_problem.specs.declared.problem.Cone.TheVariants.{Orthant, Gens, Dual}
use Rattle.upper_image.specs.OrderingCone.{IsIn, dual_of, Fits}
use Rattle.upper_image.specs.Shows.{ShowsIn}
use Rattle.upper_image.specs.Spots.{dense, IsVector}
use Rattle.lp_form.specs.Programs.{generators}
use Rattle.cone_rules.specs.declared.fault.ConeFault.{ConeFault}
use Rattle.cone_rules.specs.declared.fault.ConeFault.TheVariants.{NotSolid, HasLine, NotInterior, LastNotPositive}

-- ---- what a cone has to be
-- some vector is interior to the cone in q dimensions
abbrev pub HasInterior : ℕ → Cone → Type 0
HasInterior q cone = (y : List ℚ) × IsInterior q (IsIn q cone) y

-- no vector but 0 is in the cone with its negative: it contains no line
abbrev pub HasNoLine : ℕ → Cone → Type 0
HasNoLine q cone = (d : List ℚ) → IsIn q cone d → IsIn q cone (negated d) → d ≡ zeros q

-- the ordering cone is solid: it has an interior
abbrev pub IsSolid : Problem → Type 0
IsSolid file = HasInterior file.objs file.cone

-- the ordering cone is pointed: it contains no line
abbrev pub IsPointed : Problem → Type 0
IsPointed file = HasNoLine file.objs file.cone

-- the ordering cone is solid and pointed, and some duality vector fits
pub record IsSound (file : Problem) : Type 0 where
  pub solid : IsSolid file
  pub pointed : IsPointed file
  pub duality : (c : List ℚ) × Fits file c

-- ---- what shows a fault
-- m names a vector, and it is the first of those that m names
abbrev pub IsFirstOf : List (List ℚ) → List Spot → List ℚ → Type 0
IsFirstOf vectors [] first = ⊥
IsFirstOf vectors (s ∷ m) first = first ≡ row_of vectors s.at

-- m combines the vectors to 0 with positive multipliers that sum to 1; it names no vector that is
-- 0, and `first` is the first that it names
pub record IsZeroCombination (q : ℕ) (vectors : List (List ℚ)) (m : List Spot) (first : List ℚ) : Type 0 where
  pub vector : IsVector (length vectors) m
  pub sign : All (λ s. zero_ℚ <ℚ s.value) m
  pub total : sum_ℚ (map (λ s. s.value) m) ≡ one_ℚ
  pub named : All (λ s. row_of vectors s.at ≢ zeros q) m
  pub combined : combination q (dense (length vectors) m) vectors ≡ zeros q
  pub leads : IsFirstOf vectors m first

-- w is orthogonal to each of the vectors, and its first entry that is not 0 is 1; there are no
-- multipliers
pub record IsAcross (q : ℕ) (vectors : List (List ℚ)) (w : List ℚ) (m : List Spot) : Type 0 where
  pub lengths : m ≡ []
  pub orthogonal : IsOrthogonal q vectors w

-- the cone has no interior: w is orthogonal to all generators, or the first of the dual form's
-- vectors that combine to 0
abbrev pub ShowsFlat : ℕ → Cone → List ℚ → List Spot → Type 0
ShowsFlat q Orthant w m = ⊥
ShowsFlat q (Gens vectors) w m = IsAcross q vectors w m
ShowsFlat q (Dual vectors) w m = IsZeroCombination q vectors m w

-- the cone contains the line along d: d is the first of the generators that combine to 0, or
-- orthogonal to the dual form's vectors
abbrev pub ShowsLine : ℕ → Cone → List ℚ → List Spot → Type 0
ShowsLine q Orthant d m = ⊥
ShowsLine q (Gens vectors) d m = IsZeroCombination q vectors m d
ShowsLine q (Dual vectors) d m = IsAcross q vectors d m

-- f is not interior to the cone: w is in the dual cone, as v shows, is not 0, and has a product of
-- at most 0 with f; v is a sparse vector with places among the vectors of the dual form, and empty
-- for the other forms
pub record ShowsOutside (q : ℕ) (ordering : Cone) (f w : List ℚ) (v : List Spot) : Type 0 where
  pub lengths : length w ≡ q
  pub vector : IsVector (length (generators (dual_of ordering))) v
  pub not_zero : w ≢ zeros q
  pub cone : ShowsIn (dual_of ordering) w v
  pub sign : dot w f ≤ℚ zero_ℚ

-- the combination of the vectors with the multipliers m, which are positive, is minus the last unit
-- vector
pub record CombinesToMinusLast (q : ℕ) (vectors : List (List ℚ)) (m : List Spot) : Type 0 where
  pub vector : IsVector (length vectors) m
  pub sign : All (λ s. zero_ℚ <ℚ s.value) m
  pub combined : combination q (dense (length vectors) m) vectors ≡ negated (unit q q)

-- no duality vector has a positive last entry: the one that is given has none; or, where none is
-- given, no generator has one, or the dual cone has minus the last unit vector
abbrev pub ShowsLast : ℕ → Cone → Option (List ℚ) → List Spot → Type 0
ShowsLast q cone (Some f) m = (m ≡ []) × (entry f q ≤ℚ zero_ℚ)
ShowsLast q Orthant None m = ⊥
ShowsLast q (Gens vectors) None m = (m ≡ []) × All (λ v. entry v q ≤ℚ zero_ℚ) vectors
ShowsLast q (Dual vectors) None m = CombinesToMinusLast q vectors m

-- ---- the first fault
-- the file gives a duality vector, and w with v shows that it is not interior
abbrev pub IsGivenOutside : ℕ → Cone → Option (List ℚ) → List ℚ → List Spot → Type 0
IsGivenOutside q cone (Some f) w v = ShowsOutside q cone f w v
IsGivenOutside q cone None w v = ⊥

-- a duality vector that the file gives is interior
abbrev pub IsGivenInside : ℕ → Cone → Option (List ℚ) → Type 0
IsGivenInside q cone duality = (f : List ℚ) → duality ≡ Some f → IsInterior q (IsIn q cone) f

-- the first fault of the file in their order: the cone is not solid; it is solid and not pointed;
-- it is both, and the duality vector that the file gives is not interior; or this is no fault
-- either, and none has a positive last entry
abbrev pub HasFault : Problem → ConeFault → Type 0
HasFault file (NotSolid w m) = ShowsFlat file.objs file.cone w m
HasFault file (HasLine d m) = IsSolid file × ShowsLine file.objs file.cone d m
HasFault file (NotInterior w v) = IsSolid file × IsPointed file × IsGivenOutside file.objs file.cone file.duality w v
HasFault file (LastNotPositive m) =
    IsSolid file × IsPointed file × IsGivenInside file.objs file.cone file.duality × ShowsLast file.objs file.cone file.duality m

-- the place of a fault in the order in which they are looked for
abbrev pub place_of : ConeFault → ℕ
place_of (NotSolid w m) = 1
place_of (HasLine d m) = 2
place_of (NotInterior w v) = 3
place_of (LastNotPositive m) = 4
