-- Projections as slices: the projection of the solutions of inequalities
-- on their first k entries is the slice of an image with one objective more, minus the sum of these
-- entries.
use Rattle.std.specs.Prelude.{ℕ, suc, ◌≤◌, List, ◌≡◌, ◌↔◌, map, length, take, replicate}
use Rattle.exact_field.specs.Rational.{ℚ, zero_ℚ, one_ℚ, neg_ℚ, ◌≤ℚ◌}
use Rattle.exact_field.specs.Vector.{sum_ℚ}
use Rattle.polyhedra.specs.Vectors.{AreWide, zeros, values, AtLeastZero}
use Rattle.polyhedra.specs.Farkas.{Meets}
use Rattle.polyhedra.specs.Hull.{IsInHull, IsVertex}
use Rattle.polyhedra.specs.Image.{IsConvexCone, IsImage}
use Rattle.polyhedra.specs.Exactness.{homogenised}
use Rattle.lineality.specs.Lines.{IsInLineality, RunsAlong, IsReducedIn}
use Rattle.representations.specs.Faces.{at_value, IsBoundedBelow}

-- z, followed by minus the sum of its entries
abbrev pub spread : List ℚ → List ℚ
spread z = homogenised z (neg_ℚ (sum_ℚ z))

-- the vector of n ones: the product with it is the sum of the entries
abbrev pub ones : ℕ → List ℚ
ones n = replicate n one_ℚ

-- z is what some solution x of n entries begins with, in its first k entries
pub record IsProjection (n k : ℕ) (rows : List (List ℚ)) (rights z : List ℚ) : Type 0 where
  pub solution : List ℚ
  pub wide : length solution ≡ n
  pub meets : Meets rows rights solution
  pub begins : take k solution ≡ z

-- the objectives' value is that of the first k entries, followed by minus their sum
abbrev pub AreAssociated : ℕ → ℕ → List (List ℚ) → Type 0
AreAssociated n k objectives = (x : List ℚ) → length x ≡ n → values objectives x ≡ spread (take k x)

-- the cone is convex and lies in the orthant
pub record IsNonnegativeCone (n : ℕ) (Cone : List ℚ → Type 0) : Type 0 where
  pub convex : IsConvexCone n Cone
  pub open convex use *
  pub at_least_zero : (d : List ℚ) → Cone d → AtLeastZero d

-- the projection is the slice of the image of such objectives where the entries sum to 0
abbrev pub ProjectionIsSlice : (List ℚ → Type 0) → Type 0
ProjectionIsSlice Cone = (n k : ℕ) (rows : List (List ℚ)) (rights : List ℚ)
    (objectives : List (List ℚ)) → k ≤ n →
    AreAssociated n k objectives → IsNonnegativeCone (suc k) Cone → (z : List ℚ) → length z ≡ k →
    IsImage n rows rights objectives Cone (spread z) ↔ IsProjection n k rows rights z

-- no entries of a member sum to less than 0
abbrev pub ImageIsAbove : (List ℚ → Type 0) → Type 0
ImageIsAbove Cone = (n k : ℕ) (rows : List (List ℚ)) (rights : List ℚ)
    (objectives : List (List ℚ)) →
    AreAssociated n k objectives → IsNonnegativeCone (suc k) Cone → (y : List ℚ) →
    IsImage n rows rights objectives Cone y → zero_ℚ ≤ℚ sum_ℚ y

-- the slice of a hull whose members all have sums of at least 0 is the hull of the points and
-- directions with the sum 0 and of the lines, all without their last entries
abbrev pub SliceOfHull : Type 0
SliceOfHull = (k : ℕ) (points directions lines : List (List ℚ)) → AreWide (suc k) points →
    AreWide (suc k) directions → AreWide (suc k) lines →
    IsBoundedBelow (ones (suc k)) zero_ℚ points directions lines → (z : List ℚ) → length z ≡ k →
    IsInHull (suc k) points directions lines (spread z)
    ↔ IsInHull k (map (take k) (at_value (ones (suc k)) zero_ℚ points))
    (map (take k) (at_value (ones (suc k)) zero_ℚ directions)) (map (take k) lines) z

-- what lies in the lineality space of such an image has a sum of 0
abbrev pub LinesAreInSlice : (List ℚ → Type 0) → Type 0
LinesAreInSlice Cone = (n k : ℕ) (rows : List (List ℚ)) (rights : List ℚ)
    (objectives : List (List ℚ)) → AreAssociated n k objectives →
    IsNonnegativeCone (suc k) Cone → (d : List ℚ) →
    IsInLineality (IsImage n rows rights objectives Cone) d → sum_ℚ d ≡ zero_ℚ

-- along any lines, so does a vertex of the reduced part of such an image
abbrev pub VerticesAreInSlice : (List ℚ → Type 0) → Type 0
VerticesAreInSlice Cone = (n k : ℕ) (rows : List (List ℚ)) (rights : List ℚ)
    (objectives : List (List ℚ)) → length objectives ≡ suc k → AreAssociated n k objectives →
    IsNonnegativeCone (suc k) Cone → (lines : List (List ℚ)) →
    RunsAlong (suc k) (IsImage n rows (zeros (length rows)) objectives Cone) lines →
    (y : List ℚ) → IsVertex (IsReducedIn lines (IsImage n rows rights objectives Cone)) y →
    sum_ℚ y ≡ zero_ℚ
