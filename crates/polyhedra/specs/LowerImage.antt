-- The lower image of a set: the inequalities that are valid for it, by all entries of the normal but the last, and the bound.
use Rattle.std.specs.Prelude.{ℕ, suc, List, [], ◌∷◌, ◌++◌, ◌≡◌, ◌↔◌, length}
use Rattle.exact_field.specs.Rational.{ℚ, zero_ℚ, one_ℚ, ◌+ℚ◌, neg_ℚ, ◌≤ℚ◌}
use Rattle.exact_field.specs.Vector.{dot}
use Rattle.polyhedra.specs.Vectors.{zeros, plus, scaled}
use Rattle.polyhedra.specs.Cone.{IsInterior}
use Rattle.polyhedra.specs.Inequality.{Inequality}
use Rattle.polyhedra.specs.Hull.{IsConvex, IsVertex, IsExtremeDirection, IsNormedDirection, IsValid, IsFacet}
use Rattle.polyhedra.specs.Exactness.{homogenised}

-- the inequality of w and a bound: w is completed so that the normal has the product 1 with (c, 1)
abbrev pub completed : List ℚ → List ℚ → ℚ → Inequality
completed c w bound = record { normal = w ++ (one_ℚ +ℚ neg_ℚ (dot c w)) ∷ []; bound = bound }

-- v is w, of n entries, followed by a bound for which the completed inequality is valid
pub record IsInLowerImage (n : ℕ) (Set : List ℚ → Type 0) (c v : List ℚ) : Type 0 where
  pub front : List ℚ
  pub bound : ℚ
  pub wide : length front ≡ n
  pub same : v ≡ front ++ bound ∷ []
  pub valid : IsValid (suc n) Set (completed c front bound)

-- d has n entries, and each of its multiples by a number of at least 0 leads from each member of the set to a member
pub record IsRecession (n : ℕ) (Set : List ℚ → Type 0) (d : List ℚ) : Type 0 where
  pub wide : length d ≡ n
  pub leads : (v : List ℚ) (s : ℚ) → Set v → zero_ℚ ≤ℚ s → Set (plus v (scaled s d))

-- the vertices of the lower image are the facets of the set
abbrev pub VerticesAreFacets : (List ℚ → Type 0) → Type 0
VerticesAreFacets Set = (n : ℕ) (c w : List ℚ) (bound : ℚ) → length c ≡ n → length w ≡ n →
    IsVertex (IsInLowerImage n Set c) (w ++ bound ∷ []) ↔ IsFacet (suc n) Set (homogenised c one_ℚ) (completed c w bound)

-- where (c, 1) is interior to the directions of a convex set, and neither the set nor its lower image is empty, the lower image
-- has one normed extreme direction, that in which the bound falls
abbrev pub OneLowerDirection : (List ℚ → Type 0) → (List ℚ → Type 0) → Type 0
OneLowerDirection Set Directions = (n : ℕ) (c y v : List ℚ) → IsConvex (suc n) Set Directions → length c ≡ n →
    IsInterior (suc n) Directions (homogenised c one_ℚ) → Set y → IsInLowerImage n Set c v → (d : List ℚ) →
    (IsExtremeDirection (suc n) (IsRecession (suc n) (IsInLowerImage n Set c)) d × IsNormedDirection d)
    ↔ (d ≡ zeros n ++ neg_ℚ one_ℚ ∷ [])
