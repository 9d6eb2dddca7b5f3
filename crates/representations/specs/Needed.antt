-- Of a representation by points, directions and lines that comes from a double description pair
-- nothing can be left out, and it is the only one.
use Rattle.std.specs.Prelude.{ℕ, suc, List, ◌≡◌, ◌↔◌, length, All, Contains}
use Rattle.exact_field.specs.Rational.{ℚ, zero_ℚ, one_ℚ, neg_ℚ, ◌≤ℚ◌}
use Rattle.exact_field.specs.Vector.{dot}
use Rattle.polyhedra.specs.Cone.{IsGenerated}
use Rattle.polyhedra.specs.TightSets.{IsDoubleDescriptionPair}
use Rattle.polyhedra.specs.DoubleDescription.{IsNormed}
use Rattle.polyhedra.specs.Exactness.{homogenised, SameMembers}
use Rattle.polyhedra.specs.Hull.{IsInHull}
use Rattle.representations.specs.Lined.{pinned, AreLined, IsSpanned, AreSidesOf, HoldsFor, EqualFor}
use Rattle.polyhedra.specs.Vectors.{zeros}

-- other members of a list: all are listed, and this one is not among them
pub record AreOthers {X : Type 0} (listed others : List X) (one : X) : Type 0 where
  pub among : All (Contains listed) others
  pub left_out : Contains others one → ⊥

-- no generator of a double description pair is a combination of others
abbrev pub GeneratorIsNeeded : Type 0
GeneratorIsNeeded = (n : ℕ) (rows gens : List (List ℚ)) → IsDoubleDescriptionPair n rows gens →
    (g : List ℚ) (others : List (List ℚ)) →
    Contains gens g → AreOthers gens others g → IsGenerated n others g → ⊥

-- nor is one a sum of others and of lines
abbrev pub SpannedIsNeeded : Type 0
SpannedIsNeeded = (n : ℕ) (readers rows gens lines : List (List ℚ)) →
    AreLined n readers rows gens lines → (g : List ℚ) (others : List (List ℚ)) →
    Contains gens g → AreOthers gens others g → IsSpanned n others lines g → ⊥

-- the hull lacks a member without one of its points, directions or lines
pub record NoneIsTooMuch (n : ℕ) (points directions lines : List (List ℚ)) : Type 0 where
  pub point : (p : List ℚ) (others : List (List ℚ)) → Contains points p →
      AreOthers points others p →
      ((y : List ℚ) → IsInHull n points directions lines y → IsInHull n others directions lines y) →
      ⊥
  pub direction : (p d : List ℚ) (others : List (List ℚ)) → Contains points p →
      Contains directions d → AreOthers directions others d →
      ((y : List ℚ) → IsInHull n points directions lines y → IsInHull n points others lines y) → ⊥
  pub line : (p l : List ℚ) (others : List (List ℚ)) → Contains points p → Contains lines l →
      AreOthers lines others l →
      ((y : List ℚ) → IsInHull n points directions lines y →
      IsInHull n points directions others y) → ⊥

-- so it is where these are the generators and lines of a cone of rows over (y, t)
abbrev pub HullIsNeeded : Type 0
HullIsNeeded = (n : ℕ) (readers rows gens points directions lines : List (List ℚ)) →
    AreSidesOf n readers rows gens points directions lines →
    NoneIsTooMuch n points directions lines

-- nor of inequalities and equations over (h, γ): without one of them more vectors meet the others
pub record NoSideIsTooMuch (n : ℕ) (gens equations : List (List ℚ)) : Type 0 where
  pub side : (g : List ℚ) (others : List (List ℚ)) → Contains gens g → AreOthers gens others g →
      ((t : ℚ) → g ≡ homogenised (zeros n) t → ⊥) →
      ((z : List ℚ) → length z ≡ n → All (HoldsFor z) others → All (EqualFor z) equations →
      HoldsFor z g) → ⊥
  pub equation : (e : List ℚ) (others : List (List ℚ)) → Contains equations e →
      AreOthers equations others e →
      ((z : List ℚ) → length z ≡ n → All (HoldsFor z) gens → All (EqualFor z) others →
      EqualFor z e) → ⊥

-- the inequality 0 ≥ -1
abbrev pub held_by_all : ℕ → List ℚ
held_by_all n = homogenised (zeros n) (neg_ℚ one_ℚ)

-- where the rows are those of a point and of others at which 0 ≥ -1 holds, and the readers read no
-- bounds
abbrev pub SidesAreNeeded : Type 0
SidesAreNeeded = (n : ℕ) (readers rows gens equations : List (List ℚ)) (p : List ℚ) →
    AreLined (suc n) readers rows gens equations →
    All (λ r. zero_ℚ ≤ℚ dot r (held_by_all n)) rows →
    All (λ r. dot r (held_by_all n) ≡ zero_ℚ) readers → length p ≡ n →
    Contains rows (homogenised p (neg_ℚ one_ℚ)) → NoSideIsTooMuch n gens equations

-- rows of one cone have the same normed generators beside the same readers
abbrev pub OneListOfGenerators : Type 0
OneListOfGenerators = (n : ℕ) (readers rows rows' gens gens' : List (List ℚ)) →
    IsDoubleDescriptionPair n (pinned readers rows) gens →
    IsDoubleDescriptionPair n (pinned readers rows') gens' → All IsNormed gens →
    All IsNormed gens' →
    ((z : List ℚ) → length z ≡ n → All (λ r. zero_ℚ ≤ℚ dot r z) rows
    ↔ All (λ r. zero_ℚ ≤ℚ dot r z) rows') →
    SameMembers gens gens'
