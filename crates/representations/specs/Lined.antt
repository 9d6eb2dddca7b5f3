-- Cones with lines in full width. Readers, one for each line, are 1 at their own line and 0 at the
-- others; vectors at which they are 0 are reduced. With the readers and their negatives as further
-- rows, a cone of reduced vectors is pointed, so that all that is known of double description pairs
-- holds of it.
use Rattle.std.specs.Prelude.{ℕ, suc, ◌-◌, List, [], ◌∷◌, ◌++◌, ◌≡◌, ◌↔◌, map, length, All, Contains}
use Rattle.exact_field.specs.Rational.{ℚ, zero_ℚ, one_ℚ, neg_ℚ, ◌≤ℚ◌}
use Rattle.exact_field.specs.Vector.{dot}
use Rattle.polyhedra.specs.Vectors.{AreWide, zeros, plus, combination, AtLeastZero}
use Rattle.polyhedra.specs.TightSets.{IsTight, IsDoubleDescriptionPair}
use Rattle.polyhedra.specs.Dependence.{AreCorners}
use Rattle.polyhedra.specs.Negatives.{negated}
use Rattle.polyhedra.specs.LiveList.{LiveList, vectors, step}
use Rattle.polyhedra.specs.Hull.{IsInHull}
use Rattle.polyhedra.specs.Exactness.{homogenised, IsOneOf}
use Rattle.lineality.specs.Lines.{leading_place, AreEchelon, IsReduced}

-- the readers and their negatives, and then the rows
abbrev pub pinned : List (List ℚ) → List (List ℚ) → List (List ℚ)
pinned readers rows = (readers ++ map negated readers) ++ rows

-- each reader is 1 at its own line, and 0 at the others
abbrev pub AreReaders : List (List ℚ) → List (List ℚ) → Type 0
AreReaders [] [] = Unit {0}
AreReaders [] (l ∷ lines) = ⊥
AreReaders (r ∷ readers) [] = ⊥
AreReaders (r ∷ readers) (l ∷ lines) =
    (dot r l ≡ one_ℚ) × All (λ k. dot r k ≡ zero_ℚ) lines × All (λ s. IsTight s l) readers
    × AreReaders readers lines

-- the vector with 1 after so many zeros and before so many
abbrev pub unit_at : ℕ → ℕ → List ℚ
unit_at before after = zeros before ++ one_ℚ ∷ zeros after

-- the unit vectors of the places of lines
abbrev pub places_of : ℕ → List (List ℚ) → List (List ℚ)
places_of n lines = map (λ d. unit_at (leading_place d - 1) (n - leading_place d)) lines

-- these are readers of lines in reduced echelon form, and a vector is reduced exactly where they
-- are tight at it
pub record ArePlacesReaders (n : ℕ) (lines : List (List ℚ)) : Type 0 where
  pub wide : AreWide n (places_of n lines)
  pub reads : AreReaders (places_of n lines) lines
  pub reduced : (v : List ℚ) → IsReduced lines v ↔ All (λ r. IsTight r v) (places_of n lines)

-- so it is for lines in reduced echelon form
abbrev pub PlacesAreReaders : Type 0
PlacesAreReaders = (n : ℕ) (lines : List (List ℚ)) → AreEchelon n lines → ArePlacesReaders n lines

-- each of the rows is tight at each of the vectors
abbrev pub AreTightAt : List (List ℚ) → List (List ℚ) → Type 0
AreTightAt rows vs = All (λ v. All (λ r. IsTight r v) rows) vs

-- rows with the readers are corners of vectors with the lines, so the rows with the pins and the
-- vectors are a double description pair
abbrev pub PinnedStart : Type 0
PinnedStart = (n : ℕ) (rows readers gens lines : List (List ℚ)) →
    AreCorners n (rows ++ readers) (gens ++ lines) → length gens ≡ length rows →
    IsDoubleDescriptionPair n (pinned readers rows) gens

-- the pins make no difference to a step on reduced generators
abbrev pub PinnedStep : Type 0
PinnedStep = (readers rows : List (List ℚ)) (list : LiveList) (row : List ℚ) →
    AreTightAt readers (vectors list.live) →
    step rows list row ≡ step (pinned readers rows) list row

-- z is a sum of the generators with multipliers of at least 0 and of the lines with any multipliers
pub record IsSpanned (n : ℕ) (gens lines : List (List ℚ)) (z : List ℚ) : Type 0 where
  pub multipliers : List ℚ
  pub slopes : List ℚ
  pub one_each : length multipliers ≡ length gens
  pub slope_each : length slopes ≡ length lines
  pub at_least_zero : AtLeastZero multipliers
  pub combined : z ≡ plus (combination n multipliers gens) (combination n slopes lines)

-- rows whose value at each line is 0, lines with readers, and generators that describe the cone of
-- the rows and the pins
pub record AreLined (n : ℕ) (readers rows gens lines : List (List ℚ)) : Type 0 where
  pub described : IsDoubleDescriptionPair n (pinned readers rows) gens
  pub lines_wide : AreWide n lines
  pub reads : AreReaders readers lines
  pub at_lines : AreTightAt rows lines

-- the cone of the rows is spanned by these generators and lines
abbrev pub LinedCone : Type 0
LinedCone = (n : ℕ) (readers rows gens lines : List (List ℚ)) → AreLined n readers rows gens lines →
    (z : List ℚ) → length z ≡ n →
    All (λ r. zero_ℚ ≤ℚ dot r z) rows ↔ IsSpanned n gens lines z

-- ---- from inequalities to points, directions and lines
-- rows over (y, t), whose generators are points and directions and whose lines are of height 0
pub record AreSidesOf (n : ℕ)
    (readers rows gens points directions lines : List (List ℚ)) : Type 0 where
  pub lined : AreLined (suc n) readers rows gens (map (λ l. homogenised l zero_ℚ) lines)
  pub points_wide : AreWide n points
  pub directions_wide : AreWide n directions
  pub lines_wide : AreWide n lines
  pub each : All (IsOneOf points directions) gens
  pub point_listed : All (λ y. Contains gens (homogenised y one_ℚ)) points
  pub direction_listed : All (λ d. Contains gens (homogenised d zero_ℚ)) directions

-- the vectors that meet the inequalities are their hull
abbrev pub SidesAreHull : Type 0
SidesAreHull = (n : ℕ) (readers rows gens points directions lines : List (List ℚ)) →
    AreSidesOf n readers rows gens points directions lines →
    (y : List ℚ) → length y ≡ n → All (λ r. zero_ℚ ≤ℚ dot r (homogenised y one_ℚ)) rows
    ↔ IsInHull n points directions lines y

-- ---- from points, directions and lines to inequalities
-- the rows over (h, γ) at which the inequality h . z ≥ γ holds of points, directions and lines;
-- that of a line comes with its negative
abbrev pub generator_rows : List (List ℚ) → List (List ℚ) → List (List ℚ) → List (List ℚ)
generator_rows points directions lines =
    map (λ y. homogenised y (neg_ℚ one_ℚ)) points
    ++ (map (λ d. homogenised d zero_ℚ) directions
    ++ (map (λ l. homogenised l zero_ℚ) lines ++ map (λ l. homogenised (negated l) zero_ℚ) lines))

-- z meets the inequality (h, γ), or its equation
abbrev pub HoldsFor : List ℚ → List ℚ → Type 0
HoldsFor z e = zero_ℚ ≤ℚ dot e (homogenised z (neg_ℚ one_ℚ))

abbrev pub EqualFor : List ℚ → List ℚ → Type 0
EqualFor z e = dot e (homogenised z (neg_ℚ one_ℚ)) ≡ zero_ℚ

-- where inequalities and equations span the cone of these rows, in any order of the rows, the hull
-- is what meets all of them
abbrev pub HullIsSides : Type 0
HullIsSides = (n : ℕ) (points directions lines rows readers gens equations : List (List ℚ)) →
    AreWide n points → AreWide n directions → AreWide n lines →
    ((r : List ℚ) → Contains rows r ↔ Contains (generator_rows points directions lines) r) →
    AreLined (suc n) readers rows gens equations →
    (z : List ℚ) → length z ≡ n → IsInHull n points directions lines z
    ↔ (All (HoldsFor z) gens × All (EqualFor z) equations)
