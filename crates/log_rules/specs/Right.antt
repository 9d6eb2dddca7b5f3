-- When an answer is right, whatever proved it.
use Rattle.polyhedra.specs.DoubleDescription.{is_zero}
use Rattle.polyhedra.specs.Inequality.{Inequality}
use Rattle.upper_image.specs.OrderingCone.{Fits}
use Rattle.upper_image.specs.UpperImage.{IsExactFor}
use Rattle.upper_image.specs.Witnesses.{HasPreimage, HasDirectionPreimage, HasDualVector, IsInfeasible, IsWhole, IsShownLine}
use Rattle.std.specs.Prelude.{◌≡◌, ℕ, suc, Bool, true, false, ◌&&◌, ◌||◌, IsTrue, List, [], ◌∷◌, ◌++◌, map, All, AllPairs}
use Rattle.exact_field.specs.Rational.{ℚ, lt_ℚ}
use Rattle.exact_field.specs.Order.{same_ℚ}
use Rattle.exact_field.specs.Vector.{dot}
use Rattle.vlp_problem.specs.declared.problem.Problem.{Problem}
use Rattle.log_rules.specs.declared.answer.Answer.{Answer}
use Rattle.log_rules.specs.declared.answer.Answer.TheVariants.{Infeasible, Whole, Solved}
use Rattle.log_rules.specs.declared.answer.Gen.{Gen}
use Rattle.log_rules.specs.declared.answer.LineGen.{LineGen}
use Rattle.log_rules.specs.declared.answer.Facet.{Facet}

-- ---- facets
-- the inequality that a facet states: w . y ≥ gamma, or ≤ for a maximising file
abbrev pub stated : Facet → Inequality
stated f = record { normal = f.w; bound = f.gamma }

-- the places at which a list says true, counted from k
abbrev pub places_from : ℕ → List Bool → List ℕ
places_from k [] = []
places_from k (true ∷ bs) = k ∷ places_from (suc k) bs
places_from k (false ∷ bs) = places_from (suc k) bs

-- the numbers of the tight points, counted from 1, and of the tight directions, which go on: those
-- with w . y = gamma and with w . d = 0
abbrev pub tight_numbers : List (List ℚ) → List (List ℚ) → Inequality → List ℕ
tight_numbers points directions e =
    places_from 1 (map (λ y. same_ℚ (dot e.normal y) e.bound) points ++ map (λ d. is_zero (dot e.normal d)) directions)

-- ---- order
-- whether the first vector comes before the second, compared entry by entry
abbrev pub is_before : List ℚ → List ℚ → Bool
is_before [] [] = false
is_before [] (y ∷ ys) = true
is_before (x ∷ xs) [] = false
is_before (x ∷ xs) (y ∷ ys) = lt_ℚ x y || same_ℚ x y && is_before xs ys

-- each vector comes before all that follow it
abbrev pub Rise : List (List ℚ) → Type 0
Rise vs = AllPairs (λ v v'. IsTrue (is_before v v')) vs

-- the vector by which facets are compared: the normal, then the bound
abbrev pub key : Inequality → List ℚ
key e = e.normal ++ e.bound ∷ []

-- the lines are those of the image, the points exactly the vertices of its reduced part, the
-- directions exactly the extreme directions of this part and the facets exactly the facets of the
-- image, each list in rising order (the lines by their places), each with what shows it
pub record IsSolution (file : Problem) (c : List ℚ) (ls : List LineGen) (points directions : List Gen) (facets : List Facet) : Type 0 where
  pub fits : Fits file c
  pub exact : IsExactFor file c (map (λ l. l.d) ls) (map (λ g. g.y) points) (map (λ g. g.y) directions) (map stated facets)
  pub open exact use *
  pub points_rise : Rise (map (λ g. g.y) points)
  pub directions_rise : Rise (map (λ g. g.y) directions)
  pub facets_rise : Rise (map (λ f. key (stated f)) facets)
  pub lines_shown : All (λ l. IsShownLine file l.d l.ray l.back) ls
  pub preimages : All (λ g. HasPreimage file g.y g.pre) points
  pub direction_preimages : All (λ g. HasDirectionPreimage file g.y g.pre) directions
  pub dual_vectors : All (λ f. HasDualVector file (stated f) f.u) facets
  pub tight : All (λ f. f.tight ≡ tight_numbers (map (λ g. g.y) points) (map (λ g. g.y) directions) (stated f)) facets

-- the answer is right for the file
abbrev pub IsRight : Problem → Answer → Type 0
IsRight file (Infeasible u) = IsInfeasible file u
IsRight file (Whole c x ray) = IsWhole file c x ray
IsRight file (Solved c ls points directions facets) = IsSolution file c ls points directions facets
