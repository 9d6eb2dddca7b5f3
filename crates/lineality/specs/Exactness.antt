-- Exactly the lines, the vertices, the extreme directions and the facets of a set that may have
-- lines.
use Rattle.std.specs.Prelude.{ℕ, suc, ◌<◌, List, ◌≡◌, ◌↔◌, map, length, All, Contains}
use Rattle.exact_field.specs.Rational.{ℚ, zero_ℚ, one_ℚ}
use Rattle.exact_field.specs.Vector.{dot}
use Rattle.polyhedra.specs.Vectors.{plus}
use Rattle.polyhedra.specs.TightSets.{IsDoubleDescriptionPair}
use Rattle.polyhedra.specs.Inequality.{Inequality}
use Rattle.polyhedra.specs.Hull.{IsInHull, IsConvex, IsVertex, IsExtremeDirection, IsNormedDirection, IsValidAt, IsFacet}
use Rattle.polyhedra.specs.Exactness.{homogenised, rows_of, IsOneOf, IsNamed, IsAccounted}
use Rattle.lineality.specs.Lines.{RunsAlong, AreLines, IsCombined, IsReducedIn}
use Rattle.lineality.specs.Without.{marks, open_count, without}

-- ---- a set and its reduced part
-- y is a reduced member and a combination of the lines
pub record HasParts (n : ℕ) (lines : List (List ℚ)) (Set : List ℚ → Type 0)
    (y : List ℚ) : Type 0 where
  pub reduced : List ℚ
  pub reduced_in : IsReducedIn lines Set reduced
  pub beside : List ℚ
  pub combined : IsCombined n lines beside
  pub same : y ≡ plus reduced beside

-- a convex set is its reduced part, which is convex, and all combinations of its lines; so are its
-- directions. A member has one reduced part
pub record IsAlongLines (n : ℕ) (lines : List (List ℚ))
    (Set Directions : List ℚ → Type 0) : Type 0 where
  pub part_convex : IsConvex n (IsReducedIn lines Set) (IsReducedIn lines Directions)
  pub members : (y : List ℚ) → Set y ↔ HasParts n lines Set y
  pub directions : (d : List ℚ) → Directions d ↔ HasParts n lines Directions d
  pub one_part : (y : List ℚ) (h k : HasParts n lines Set y) → h.reduced ≡ k.reduced

-- so it is for the lines of a set, and for any along which it runs
abbrev pub PartsAlongLines : (List ℚ → Type 0) → (List ℚ → Type 0) → Type 0
PartsAlongLines Set Directions = (n : ℕ) (lines : List (List ℚ)) → IsConvex n Set Directions →
    RunsAlong n Directions lines → IsAlongLines n lines Set Directions

-- ---- exactness
-- cuts, generators, lines, points and directions that enclose a set: the cuts are valid, and level
-- along the lines, the points and directions are reduced and belong to the set, which runs along
-- the lines, and the two meet, since without the entries at the places of the lines the cone of the
-- rows of the cuts has exactly the points and directions as its generators
pub record IsEnclosedAlong (n : ℕ) (Set Directions : List ℚ → Type 0) (c : List ℚ)
    (lines : List (List ℚ)) (cuts : List Inequality) (generators points directions : List (List ℚ))
    : Type 0 where
  pub convex : IsConvex n Set Directions
  pub c_wide : length c ≡ n
  pub along : RunsAlong n Directions lines
  pub cuts_valid : All (IsValidAt n Set c) cuts
  pub cuts_level : All (λ e. All (λ d. dot e.normal d ≡ zero_ℚ) lines) cuts
  pub described :
      let bs = marks n lines in
      IsDoubleDescriptionPair (suc (open_count bs)) (map (without bs) (rows_of n cuts))
      (map (without bs) generators)
  pub each : All (IsOneOf points directions) generators
  pub point_listed : All (λ y. Contains generators (homogenised y one_ℚ)) points
  pub direction_listed : All (λ d. Contains generators (homogenised d zero_ℚ)) directions
  pub points_in : All (IsReducedIn lines Set) points
  pub directions_in : All (IsReducedIn lines Directions) directions
  pub directions_normed : All IsNormedDirection directions

-- such a set with named facets
pub record IsSolvedAlong (n : ℕ) (Set Directions : List ℚ → Type 0) (c : List ℚ)
    (lines : List (List ℚ)) (cuts : List Inequality) (generators points directions : List (List ℚ))
    (named : List Inequality) : Type 0 where
  pub enclosed : IsEnclosedAlong n Set Directions c lines cuts generators points directions
  pub open enclosed use *
  pub names : All (IsNamed n cuts generators) named
  pub accounted : All (IsAccounted n named generators) cuts

-- the lines are those of the set, the points exactly the vertices of its reduced part, the
-- directions exactly the normed extreme directions of this part, their hull is the set, there is a
-- point, and the named inequalities are exactly the facets
pub record IsExactAlong (n : ℕ) (Set Directions : List ℚ → Type 0) (c : List ℚ)
    (lines points directions : List (List ℚ)) (facets : List Inequality) : Type 0 where
  pub lines_are : AreLines n Directions lines
  pub vertices : (y : List ℚ) → Contains points y ↔ IsVertex (IsReducedIn lines Set) y
  pub extreme : (d : List ℚ) → Contains directions d
      ↔ (IsExtremeDirection n (IsReducedIn lines Directions) d × IsNormedDirection d)
  pub facets_are : (e : Inequality) → Contains facets e ↔ IsFacet n Set c e
  pub hull : (y : List ℚ) → Set y ↔ IsInHull n points directions lines y
  pub some_point : 0 < length points

-- what meets all conditions for a set is exact for it
abbrev pub ExactnessAlong : (List ℚ → Type 0) → (List ℚ → Type 0) → Type 0
ExactnessAlong Set Directions = (n : ℕ) (c : List ℚ) (lines : List (List ℚ))
    (cuts : List Inequality) (generators points directions : List (List ℚ))
    (named : List Inequality) →
    IsSolvedAlong n Set Directions c lines cuts generators points directions named →
    IsExactAlong n Set Directions c lines points directions named
