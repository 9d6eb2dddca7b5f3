-- The set of the negatives, for files that maximise: its vertices, extreme directions, hull, facets and lower image.
use Rattle.std.specs.Prelude.{ℕ, suc, List, [], ◌∷◌, ◌++◌, ◌≡◌, ◌↔◌, map, length}
use Rattle.exact_field.specs.Rational.{ℚ, one_ℚ, ◌+ℚ◌, neg_ℚ, ◌≤ℚ◌}
use Rattle.exact_field.specs.Vector.{dot}
use Rattle.polyhedra.specs.Vectors.{plus}
use Rattle.polyhedra.specs.Inequality.{Inequality}
use Rattle.polyhedra.specs.Hull.{IsInHull, IsVertex, IsExtremeDirection, IsNormedDirection, IsFacet}
use Rattle.polyhedra.specs.LowerImage.{completed, IsInLowerImage, IsRecession}

-- the vector with its signs turned
abbrev pub negated : List ℚ → List ℚ
negated v = map neg_ℚ v

-- the set of the negatives of the members of a set
abbrev pub Negatives : (List ℚ → Type 0) → List ℚ → Type 0
Negatives Set y = Set (negated y)

-- the inequality with the bound's sign turned
abbrev pub mirrored : Inequality → Inequality
mirrored e = record { normal = e.normal; bound = neg_ℚ e.bound }

-- each member of the set meets normal . y ≤ bound, and the normal, of n entries, has the product 1 with c
pub record IsValidAbove (n : ℕ) (Set : List ℚ → Type 0) (c : List ℚ) (e : Inequality) : Type 0 where
  pub wide : length e.normal ≡ n
  pub holds : (y : List ℚ) → Set y → dot e.normal y ≤ℚ e.bound
  pub normed : dot e.normal c ≡ one_ℚ

-- the inequality normal . y ≤ bound is valid and normed at c, and equals each two such inequalities whose midpoint it is
pub record IsFacetAbove (n : ℕ) (Set : List ℚ → Type 0) (c : List ℚ) (e : Inequality) : Type 0 where
  pub valid : IsValidAbove n Set c e
  pub no_midpoint : (a b : Inequality) → IsValidAbove n Set c a → IsValidAbove n Set c b →
      plus e.normal e.normal ≡ plus a.normal b.normal → e.bound +ℚ e.bound ≡ a.bound +ℚ b.bound → (a ≡ e) × (b ≡ e)

-- v is w, of n entries, followed by a bound that the completed inequality never passes on the set
pub record IsInLowerImageAbove (n : ℕ) (Set : List ℚ → Type 0) (c v : List ℚ) : Type 0 where
  pub front : List ℚ
  pub bound : ℚ
  pub wide : length front ≡ n
  pub same : v ≡ front ++ bound ∷ []
  pub valid : (y : List ℚ) → Set y → dot (completed c front bound).normal y ≤ℚ bound

-- the negatives of vertices and extreme directions are those of the negatives, and as many entries lead them; the negatives of a
-- hull are the hull of the negatives; the facets of the negatives are those of the set with their bounds' signs turned
pub record OfNegatives (Set : List ℚ → Type 0) : Type 0 where
  pub vertices : (y : List ℚ) → IsVertex (Negatives Set) y ↔ IsVertex Set (negated y)
  pub extreme : (n : ℕ) (d : List ℚ) → IsExtremeDirection n (Negatives Set) d ↔ IsExtremeDirection n Set (negated d)
  pub normed : (d : List ℚ) → IsNormedDirection d ↔ IsNormedDirection (negated d)
  pub hull : (n : ℕ) (points directions lines : List (List ℚ)) (y : List ℚ) → IsInHull n points directions lines y ↔
      IsInHull n (map negated points) (map negated directions) (map negated lines) (negated y)
  pub facets : (n : ℕ) (c : List ℚ) (e : Inequality) → IsFacetAbove n (Negatives Set) c e ↔ IsFacet n Set c (mirrored e)

-- the lower image of the negatives, its vertices and its extreme directions, are those of the set's with the last entry's sign
-- turned
pub record LowerOfNegatives (Set : List ℚ → Type 0) : Type 0 where
  pub members : (n : ℕ) (c w : List ℚ) (bound : ℚ) →
      IsInLowerImageAbove n (Negatives Set) c (w ++ bound ∷ []) ↔ IsInLowerImage n Set c (w ++ neg_ℚ bound ∷ [])
  pub vertices : (n : ℕ) (c w : List ℚ) (bound : ℚ) →
      IsVertex (IsInLowerImageAbove n (Negatives Set) c) (w ++ bound ∷ []) ↔ IsVertex (IsInLowerImage n Set c) (w ++ neg_ℚ bound ∷ [])
  pub extreme : (n : ℕ) (c w : List ℚ) (bound : ℚ) →
      IsExtremeDirection (suc n) (IsRecession (suc n) (IsInLowerImageAbove n (Negatives Set) c)) (w ++ bound ∷ [])
      ↔ IsExtremeDirection (suc n) (IsRecession (suc n) (IsInLowerImage n Set c)) (w ++ neg_ℚ bound ∷ [])
