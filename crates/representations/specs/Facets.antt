-- Facets cut out their set, which may have lines, and the weights for which a member of the set is
-- least are the hull of the normals of its facets.
use Rattle.std.specs.Prelude.{ℕ, suc, List, [], ◌≡◌, ◌↔◌, map, length, filter, All}
use Rattle.exact_field.specs.Rational.{ℚ, one_ℚ, ◌≤ℚ◌}
use Rattle.exact_field.specs.Order.{same_ℚ}
use Rattle.exact_field.specs.Vector.{dot}
use Rattle.polyhedra.specs.Cone.{IsGenerated}
use Rattle.polyhedra.specs.Inequality.{Inequality}
use Rattle.polyhedra.specs.Hull.{IsInHull, IsValid}
use Rattle.polyhedra.specs.Exactness.{row_of, rows_of}
use Rattle.lineality.specs.Exactness.{IsSolvedAlong}

-- y meets each of the inequalities
abbrev pub MeetsAll : List Inequality → List ℚ → Type 0
MeetsAll es y = All (λ e. e.bound ≤ℚ dot e.normal y) es

-- the inequalities that are tight at y
abbrev pub tight_at : List ℚ → List Inequality → List Inequality
tight_at y es = filter (λ e. same_ℚ (dot e.normal y) e.bound) es

-- y is least for the weights w: no member of the set has a lesser product with w
pub record IsLeastFor (Set : List ℚ → Type 0) (w y : List ℚ) : Type 0 where
  pub member : Set y
  pub least : (y' : List ℚ) → Set y' → dot w y ≤ℚ dot w y'

-- of a solved set, each valid inequality is a combination of the named ones and of the row t ≥ 0,
-- with multipliers of at least 0
abbrev pub FacetsGenerate : (List ℚ → Type 0) → (List ℚ → Type 0) → Type 0
FacetsGenerate Set Directions = (n : ℕ) (c : List ℚ) (lines : List (List ℚ))
    (cuts : List Inequality) (generators points directions : List (List ℚ))
    (named : List Inequality) →
    IsSolvedAlong n Set Directions c lines cuts generators points directions named →
    (e : Inequality) → IsValid n Set e → IsGenerated (suc n) (rows_of n named) (row_of e)

-- .. so a vector of full width belongs to the set exactly where it meets the named inequalities
abbrev pub FacetsCutOut : (List ℚ → Type 0) → (List ℚ → Type 0) → Type 0
FacetsCutOut Set Directions = (n : ℕ) (c : List ℚ) (lines : List (List ℚ))
    (cuts : List Inequality) (generators points directions : List (List ℚ))
    (named : List Inequality) →
    IsSolvedAlong n Set Directions c lines cuts generators points directions named →
    (y : List ℚ) → length y ≡ n → Set y ↔ MeetsAll named y

-- .. and the weights, normed at c, for which a member is least are the hull of the normals of the
-- named inequalities that are tight at it
abbrev pub WeightsAreFacets : (List ℚ → Type 0) → (List ℚ → Type 0) → Type 0
WeightsAreFacets Set Directions = (n : ℕ) (c : List ℚ) (lines : List (List ℚ))
    (cuts : List Inequality) (generators points directions : List (List ℚ))
    (named : List Inequality) →
    IsSolvedAlong n Set Directions c lines cuts generators points directions named →
    (w y : List ℚ) → length w ≡ n → dot w c ≡ one_ℚ → Set y →
    IsLeastFor Set w y ↔ IsInHull n (map (λ e. e.normal) (tight_at y named)) [] [] w
