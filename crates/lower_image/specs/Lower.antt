-- The cone of dual vectors (w_1, .., w_(q-1), gamma, w . c) by base rows: outside it no inequality w . y ≥ gamma is valid for the image.
use Rattle.std.specs.Prelude.{ℕ, suc, ◌-◌, List, [], ◌∷◌, ◌++◌, ◌≡◌, length, filter, not, All, AllPairs, Contains, true}
use Rattle.exact_field.specs.Rational.{ℚ, zero_ℚ, ◌-ℚ◌, ◌≤ℚ◌}
use Rattle.exact_field.specs.Vector.{dot, entry, front}
use Rattle.polyhedra.specs.DoubleDescription.{is_zero}
use Rattle.polyhedra.specs.Exactness.{row_of, rows_of}
use Rattle.polyhedra.specs.Hull.{IsValidAt, IsFacet}
use Rattle.polyhedra.specs.Inequality.{Inequality}
use Rattle.polyhedra.specs.LiveList.{LiveList}
use Rattle.polyhedra.specs.LiveSteps.{IsLive}
use Rattle.vlp_problem.specs.Sides.{IsFeasible}
use Rattle.vlp_problem.specs.declared.problem.Problem.{Problem}
use Rattle.upper_image.specs.OrderingCone.{IsInDualCone}
use Rattle.upper_image.specs.UpperImage.{IsInWorkingImage}
use Rattle.overflows.specs.Base.{IsBaseRow, IsConeDirection, image_of, weight_of}
use Rattle.overflows.specs.Generators.{IsMadeOver}
use Rattle.geo_duality.specs.Rows.{exchange_row}

-- ---- dual vectors
-- a dual vector by its parts
abbrev pub dual_at : List ℚ → ℚ → ℚ → List ℚ
dual_at f gamma s = f ++ gamma ∷ s ∷ []

-- its weight: its own entries, and the one with which the product with c is s
abbrev pub weight_at : List ℚ → List ℚ → ℚ → List ℚ
weight_at c f s = f ++ (s -ℚ dot (front c) f) ∷ []

-- the dual vector of an inequality
abbrev pub dual_vector : List ℚ → Inequality → List ℚ
dual_vector c e = dual_at (front e.normal) e.bound (dot e.normal c)

-- the inequality for which a dual vector with last entry 1 stands
abbrev pub inequality_of : ℕ → List ℚ → List ℚ → Inequality
inequality_of q c g = record { normal = weight_of c g; bound = entry g q }

-- ---- the rows
-- base rows, among them that of a feasible point, and so many of directions of the ordering cone that the weight of each dual vector at
-- which no row is negative is in the dual cone
pub record AreLowerRows (file : Problem) (c : List ℚ) (rows : List (List ℚ)) : Type 0 where
  pub base : All (IsBaseRow file c) rows
  pub point : List ℚ
  pub feasible : IsFeasible file point
  pub listed : Contains rows (exchange_row c (image_of file point) true)
  pub in_dual : (f : List ℚ) (gamma s : ℚ) → length f ≡ file.objs - 1 → All (λ r. zero_ℚ ≤ℚ dot r (dual_at f gamma s)) rows →
      IsInDualCone file (weight_at c f s)

-- directions of the ordering cone that are so many: a vector whose product with each is at least 0 is in the dual cone
pub record AreSpanning (file : Problem) (es : List (List ℚ)) : Type 0 where
  pub each : All (IsConeDirection file) es
  pub many : (w : List ℚ) → length w ≡ file.objs → All (λ e. zero_ℚ ≤ℚ dot w e) es → IsInDualCone file w

-- such rows with the live generators of their cone, by their making
pub record IsLower (file : Problem) (c : List ℚ) (rows : List (List ℚ)) (list : LiveList) : Type 0 where
  pub rows_are : AreLowerRows file c rows
  pub live : IsLive (suc file.objs) rows list
  pub made : IsMadeOver (suc file.objs) rows list

-- ---- the generators
-- the generators that stand for inequalities: those whose last entry is not 0
abbrev pub weighted : List (List ℚ) → List (List ℚ)
weighted gs = filter (λ g. not (is_zero (entry g (length g)))) gs

-- the inequality for which a generator stands is valid for the image
abbrev pub IsCertified : Problem → List ℚ → List ℚ → Type 0
IsCertified file c g = IsValidAt file.objs (IsInWorkingImage file) c (inequality_of file.objs c g)

-- ---- all facets
-- each is a facet of the image, no two are the same, and each valid inequality follows: it holds wherever they do and t ≥ 0
pub record AreAllFacets (file : Problem) (c : List ℚ) (facets : List Inequality) : Type 0 where
  pub each : All (IsFacet file.objs (IsInWorkingImage file) c) facets
  pub distinct : AllPairs (λ a b. a ≡ b → ⊥) facets
  pub enough : (e : Inequality) → IsValidAt file.objs (IsInWorkingImage file) c e → (z : List ℚ) → length z ≡ suc file.objs →
      All (λ r. zero_ℚ ≤ℚ dot r z) (rows_of file.objs facets) → zero_ℚ ≤ℚ dot (row_of e) z
