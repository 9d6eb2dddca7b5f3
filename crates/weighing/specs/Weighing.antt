-- What is least in an image for weights, and for which weights a point of the image is least.
use Rattle.std.specs.Prelude.{◌≡◌, ◌↔◌, ◌-◌, ℕ, ◌<◌, suc, List, [], map, length, slice_index_or}
use Rattle.exact_field.specs.Rational.{ℚ, zero_ℚ, one_ℚ, ◌-ℚ◌, ◌≤ℚ◌, ◌<ℚ◌}
use Rattle.exact_field.specs.Order.{same_ℚ}
use Rattle.exact_field.specs.Vector.{dot}
use Rattle.polyhedra.specs.Hull.{IsInHull}
use Rattle.vlp_problem.specs.declared.problem.Problem.{Problem}
use Rattle.upper_image.specs.UpperImage.{signed, IsInImage, IsDirection}
use Rattle.log_rules.specs.Right.{places_from}
use Rattle.log_rules.specs.declared.answer.Answer.{Answer}
use Rattle.log_rules.specs.declared.answer.Answer.TheVariants.{Infeasible, Whole as WholeImage, Solved}
use Rattle.log_rules.specs.declared.answer.Gen.{Gen}
use Rattle.log_rules.specs.declared.answer.Facet.{Facet}
use Rattle.weighing.specs.Sets.{lists_with}
use Rattle.weighing.specs.declared.weighed.Weighed.{Weighed}
use Rattle.weighing.specs.declared.weighed.Weighed.TheVariants.{Empty, Whole, Unbounded, Least}

-- ---- what is least
-- no member of the image has a product with w that is less than this value, or, where the file
-- maximises, that is greater
abbrev pub IsLowest : Problem → List ℚ → ℚ → Type 0
IsLowest file w value =
    (y : List ℚ) → IsInImage file y → zero_ℚ ≤ℚ signed file.dir (dot w y -ℚ value)

-- the value goes down for ever along d
pub record GoesDown (file : Problem) (w d : List ℚ) : Type 0 where
  pub direction : IsDirection file d
  pub down : signed file.dir (dot w d) <ℚ zero_ℚ

-- the vectors of some points, and that of point k, counted from 1
abbrev pub vectors_of : List Gen → List (List ℚ)
vectors_of points = map (λ g. g.y) points

abbrev pub point_at : List Gen → ℕ → List ℚ
point_at points k = slice_index_or (vectors_of points) (k - 1) []

-- the numbers of the points with this value
abbrev pub points_with : List Gen → List ℚ → ℚ → List ℕ
points_with points w value = places_from 1 (map (λ g. same_ℚ (dot w g.y) value) points)

-- the value is least, and exactly these points have it, of which there are some
pub record IsLeast (file : Problem) (points : List Gen) (w : List ℚ) (value : ℚ)
    (listed : List ℕ) : Type 0 where
  pub lowest : IsLowest file w value
  pub have : listed ≡ points_with points w value
  pub some : listed ≡ [] → ⊥

-- what is least in the image of an answer
abbrev pub IsWeighed : Problem → Answer → List ℚ → Weighed → Type 0
IsWeighed file (Infeasible u) w Empty = Unit {0}
IsWeighed file (WholeImage c x ray) w Whole = Unit {0}
IsWeighed file (Solved c ls points directions facets) w (Unbounded d) = GoesDown file w d
IsWeighed file (Solved c ls points directions facets) w (Least value listed) =
    IsLeast file points w value listed
IsWeighed file _ w _ = ⊥

-- ---- for which weights
-- the normals of the facets with these numbers, counted from 1
abbrev pub normals_of : List Facet → List ℕ → List (List ℚ)
normals_of facets ks = map (λ k. slice_index_or (map (λ f. f.w) facets) (k - 1) []) ks

-- the numbers of the facets that are told of point k
abbrev pub told_facets : List Facet → ℕ → List ℕ
told_facets facets k = lists_with (map (λ f. f.tight) facets) k

-- the weights, normed at c, for which point k is least are the means of the normals of the facets
-- that are told of it
abbrev pub IsLeastWithin : Problem → List ℚ → List Gen → List Facet → ℕ → Type 0
IsLeastWithin file c points facets k =
    (w : List ℚ) → length w ≡ file.objs → dot w c ≡ one_ℚ →
    IsLowest file w (dot w (point_at points k))
    ↔ IsInHull file.objs (normals_of facets (told_facets facets k)) [] [] w

-- so it is for each point of an answer
abbrev pub AreWeightSets : Problem → Answer → Type 0
AreWeightSets file (Solved c ls points directions facets) =
    (k : ℕ) → k < length points → IsLeastWithin file c points facets (suc k)
AreWeightSets file _ = Unit {0}
