-- Exactly the vertices, extreme directions and facets: what cuts and generators whose tight sets meet the conditions show.
use Rattle.std.specs.Prelude.{ℕ, suc, ◌<◌, List, [], ◌∷◌, ◌++◌, ◌≡◌, ◌↔◌, ◌⊎◌, map, length, All, Contains, AllPairs, Bool, IsTrue, ◌≢◌, slice_index_or}
use Rattle.exact_field.specs.Rational.{ℚ, zero_ℚ, one_ℚ, neg_ℚ, ◌≤ℚ◌, ◌<ℚ◌}
use Rattle.exact_field.specs.Vector.{dot}
use Rattle.polyhedra.specs.Vectors.{AreWide, zeros}
use Rattle.polyhedra.specs.TightSets.{IsTight, IsDoubleDescriptionPair}
use Rattle.polyhedra.specs.DoubleDescription.{IsNormed}
use Rattle.polyhedra.specs.Inequality.{Inequality}
use Rattle.polyhedra.specs.Hull.{IsInHull, IsConvex, IsVertex, IsExtremeDirection, IsNormedDirection, IsValidAt, IsFacet}

-- the homogenised vector (y, t): the point y for t = 1, the direction y for t = 0
abbrev pub homogenised : List ℚ → ℚ → List ℚ
homogenised y t = y ++ t ∷ []

-- the row t ≥ 0
abbrev pub level : ℕ → List ℚ
level n = homogenised (zeros n) one_ℚ

-- the row that says that (y, t) meets the inequality with t times its bound
abbrev pub row_of : Inequality → List ℚ
row_of e = homogenised e.normal (neg_ℚ e.bound)

-- the row t ≥ 0 and those of the cuts
abbrev pub rows_of : ℕ → List Inequality → List (List ℚ)
rows_of n cuts = level n ∷ map row_of cuts

-- g is one of the points or directions
abbrev pub IsOneOf : List (List ℚ) → List (List ℚ) → List ℚ → Type 0
IsOneOf points directions g =
    ((y : List ℚ) × Contains points y × (g ≡ homogenised y one_ℚ))
    ⊎ ((d : List ℚ) × Contains directions d × (g ≡ homogenised d zero_ℚ))

-- a normed vector of n + 1 entries, of which the last is at least 0, is a point or a normed direction
abbrev pub NormedArePointsOrDirections : Type 0
NormedArePointsOrDirections = (n : ℕ) (g : List ℚ) → length g ≡ suc n → IsNormed g → zero_ℚ ≤ℚ dot (level n) g →
    ((y : List ℚ) × (length y ≡ n) × (g ≡ homogenised y one_ℚ))
    ⊎ ((d : List ℚ) × (length d ≡ n) × IsNormedDirection d × (g ≡ homogenised d zero_ℚ))

-- n cuts that are tight at a point, and for each a direction in which it grows while the others stay
pub record IsCornerOf (n : ℕ) (cuts : List Inequality) (point : List ℚ) (directions : List (List ℚ)) : Type 0 where
  pub normals_wide : All (λ e. length e.normal ≡ n) cuts
  pub point_wide : length point ≡ n
  pub directions_wide : AreWide n directions
  pub cuts_many : length cuts ≡ n
  pub directions_many : length directions ≡ n
  pub tight : All (λ e. dot e.normal point ≡ e.bound) cuts
  pub grows : (i : ℕ) → i < n →
      zero_ℚ <ℚ dot (slice_index_or (map (λ e. e.normal) cuts) i []) (slice_index_or directions i [])
  pub stays : (i j : ℕ) → i < n → j < n → i ≢ j →
      dot (slice_index_or (map (λ e. e.normal) cuts) i []) (slice_index_or directions j []) ≡ zero_ℚ

-- the rows of such cuts are a double description pair with the point and the directions
abbrev pub CornerStarts : Type 0
CornerStarts = (n : ℕ) (cuts : List Inequality) (point : List ℚ) (directions : List (List ℚ)) →
    IsCornerOf n cuts point directions →
    IsDoubleDescriptionPair (suc n) (rows_of n cuts) (homogenised point one_ℚ ∷ map (λ d. homogenised d zero_ℚ) directions)

-- each generator that is tight at row a is tight at row b
abbrev pub TightLiesIn : List (List ℚ) → List ℚ → List ℚ → Type 0
TightLiesIn generators a b = All (λ g. IsTight a g → IsTight b g) generators

-- the inequality is a cut whose tight generators are no subset of those at which t is 0, and of those of another row only where
-- both have the same
pub record IsNamed (n : ℕ) (cuts : List Inequality) (generators : List (List ℚ)) (e : Inequality) : Type 0 where
  pub cut : Contains cuts e
  pub touches : TightLiesIn generators (row_of e) (level n) → ⊥
  pub largest :
      All (λ row. TightLiesIn generators (row_of e) row → TightLiesIn generators row (row_of e)) (rows_of n cuts)

-- the tight generators of each cut lie in those at which t is 0 or in those of a named facet
pub record IsAccounted (n : ℕ) (named : List Inequality) (generators : List (List ℚ)) (e : Inequality) : Type 0 where
  pub within :
      TightLiesIn generators (row_of e) (level n)
      ⊎ ((f : Inequality) × Contains named f × TightLiesIn generators (row_of e) (row_of f))

-- where the list takes in, for each cut that may be named, one with its tight generators, each cut is accounted for
abbrev pub LargestAccount : Type 0
LargestAccount = (n : ℕ) (cuts : List Inequality) (generators : List (List ℚ)) (named : List Inequality) →
    ((f : Inequality) → IsNamed n cuts generators f →
    (g : Inequality) × Contains named g × TightLiesIn generators (row_of f) (row_of g)) →
    All (IsAccounted n named generators) cuts

-- cuts, generators, points and directions that enclose a set: the cuts are valid (the outer approximation), the points and
-- directions belong to it (the inner one), and the two meet, since the cone of the rows of the cuts has exactly the points and
-- directions as its generators
pub record IsEnclosed (n : ℕ) (Set Directions : List ℚ → Type 0) (c : List ℚ) (cuts : List Inequality)
    (generators points directions : List (List ℚ)) : Type 0 where
  pub convex : IsConvex n Set Directions
  pub c_wide : length c ≡ n
  pub cuts_valid : All (IsValidAt n Set c) cuts
  pub described : IsDoubleDescriptionPair (suc n) (rows_of n cuts) generators
  pub each : All (IsOneOf points directions) generators
  pub point_listed : All (λ y. Contains generators (homogenised y one_ℚ)) points
  pub direction_listed : All (λ d. Contains generators (homogenised d zero_ℚ)) directions
  pub points_in : All Set points
  pub directions_in : All Directions directions
  pub directions_normed : All IsNormedDirection directions

-- such a set with named facets: its conditions, and those that make all of them exact
pub record IsSolved (n : ℕ) (Set Directions : List ℚ → Type 0) (c : List ℚ) (cuts : List Inequality)
    (generators points directions : List (List ℚ)) (named : List Inequality) : Type 0 where
  pub enclosed : IsEnclosed n Set Directions c cuts generators points directions
  pub open enclosed use *
  pub names : All (IsNamed n cuts generators) named
  pub accounted : All (IsAccounted n named generators) cuts

-- the points and directions are the vertex representation of the set: the points are exactly the vertices, the directions exactly
-- the normed extreme directions, their hull is the set, and there is a point
pub record IsVertexRepresentation (n : ℕ) (Set Directions : List ℚ → Type 0) (points directions : List (List ℚ)) : Type 0 where
  pub vertices : (y : List ℚ) → Contains points y ↔ IsVertex Set y
  pub extreme : (d : List ℚ) → Contains directions d ↔ (IsExtremeDirection n Directions d × IsNormedDirection d)
  pub hull : (y : List ℚ) → Set y ↔ IsInHull n points directions [] y
  pub some_point : 0 < length points

-- they are, and the named inequalities are exactly the facets
pub record IsExact (n : ℕ) (Set Directions : List ℚ → Type 0) (c : List ℚ) (points directions : List (List ℚ))
    (facets : List Inequality) : Type 0 where
  pub representation : IsVertexRepresentation n Set Directions points directions
  pub open representation use *
  pub facets_are : (e : Inequality) → Contains facets e ↔ IsFacet n Set c e

-- the points and directions of an enclosed set are its vertex representation
abbrev pub EnclosedAreRepresented : (List ℚ → Type 0) → (List ℚ → Type 0) → Type 0
EnclosedAreRepresented Set Directions = (n : ℕ) (c : List ℚ) (cuts : List Inequality) (generators points directions : List (List ℚ)) →
    IsEnclosed n Set Directions c cuts generators points directions → IsVertexRepresentation n Set Directions points directions

-- cuts and generators that meet all conditions for a set are exact for it
abbrev pub Exactness : (List ℚ → Type 0) → (List ℚ → Type 0) → Type 0
Exactness Set Directions = (n : ℕ) (c : List ℚ) (cuts : List Inequality) (generators points directions : List (List ℚ)) (named : List Inequality) →
    IsSolved n Set Directions c cuts generators points directions named →
    IsExact n Set Directions c points directions named

-- two lists have the same members
abbrev pub SameMembers : {X : Type 0} → List X → List X → Type 0
SameMembers {X} xs ys = (x : X) → Contains xs x ↔ Contains ys x

-- two lists that rise by a strict order and have the same members are equal
abbrev pub RisingListsAreEqual : Type 0 → Type 0
RisingListsAreEqual X = (before : X → X → Bool) (xs ys : List X) → ((x : X) → IsTrue (before x x) → ⊥) →
    ((x y z : X) → IsTrue (before x y) → IsTrue (before y z) → IsTrue (before x z)) →
    AllPairs (λ x y. IsTrue (before x y)) xs → AllPairs (λ x y. IsTrue (before x y)) ys → SameMembers xs ys → xs ≡ ys

-- points, directions and facets that are exact for one set have the same members
abbrev pub Uniqueness : (List ℚ → Type 0) → (List ℚ → Type 0) → Type 0
Uniqueness Set Directions = (n : ℕ) (c : List ℚ) (points points' directions directions' : List (List ℚ)) (facets facets' : List Inequality) →
    IsExact n Set Directions c points directions facets → IsExact n Set Directions c points' directions' facets' →
    SameMembers points points' × SameMembers directions directions' × SameMembers facets facets'
