-- What is proved of weights.
use Rattle.std.specs.Prelude.{◌≡◌, ◌↔◌, ℕ, suc, ◌<◌, List, [], map, length, filter, All}
use Rattle.exact_field.specs.Rational.{ℚ, zero_ℚ, one_ℚ, ◌-ℚ◌, ◌≤ℚ◌}
use Rattle.exact_field.specs.Order.{same_ℚ}
use Rattle.exact_field.specs.Vector.{dot}
use Rattle.polyhedra.specs.Hull.{IsInHull}
use Rattle.vlp_problem.specs.declared.problem.Problem.{Problem}
use Rattle.upper_image.specs.UpperImage.{signed, IsInImage}
use Rattle.deriv_log.specs.declared.entry.Entry.{Entry}
use Rattle.log_rules.specs.Proves.{PlainProves}
use Rattle.log_rules.specs.Right.{places_from, IsRight, IsSolution}
use Rattle.log_rules.specs.declared.answer.Answer.{Answer}
use Rattle.log_rules.specs.declared.answer.Answer.TheVariants.{Solved}
use Rattle.log_rules.specs.declared.answer.Facet.{Facet}
use Rattle.log_rules.specs.declared.answer.Gen.{Gen}
use Rattle.log_rules.specs.declared.answer.LineGen.{LineGen}
use Rattle.weighing.specs.Stages.{IsWeighedFrom}
use Rattle.weighing.specs.Weighing.{IsLowest, IsWeighed, AreWeightSets, point_at, told_facets}
use Rattle.weighing.specs.declared.weighed.Weighed.{Weighed}

-- where no line of a right solution changes the value, no direction goes down and no point has less,
-- the value is lowest
abbrev pub PointsAreEnough : Type 0
PointsAreEnough = (file : Problem) (c : List ℚ) (ls : List LineGen)
    (points directions : List Gen) (facets : List Facet) →
    IsSolution file c ls points directions facets → (w : List ℚ) (value : ℚ) →
    All (λ g. zero_ℚ ≤ℚ signed file.dir (dot w g.y -ℚ value)) points →
    All (λ g. zero_ℚ ≤ℚ signed file.dir (dot w g.y)) directions →
    All (λ l. dot w l.d ≡ zero_ℚ) ls → IsLowest file w value

-- so what a weighing answers is right for the image
abbrev pub WeighedIsRight : Type 0
WeighedIsRight = (file : Problem) (answer : Answer) (w : List ℚ) (weighed : Weighed) →
    IsRight file answer → IsWeighedFrom file answer w weighed → IsWeighed file answer w weighed

-- the facets that are tight at a point, by their normals
abbrev pub tight_normals : List Facet → List ℚ → List (List ℚ)
tight_normals facets y = map (λ f. f.w) (filter (λ f. same_ℚ (dot f.w y) f.gamma) facets)

-- of a log's solution: the weights, normed at c, for which a member of the image is lowest are the
-- means of the normals of the facets that are tight at it
abbrev pub WeightsAreHull : Type 0
WeightsAreHull = (file : Problem) (entries : List Entry) (c : List ℚ) (ls : List LineGen)
    (points directions : List Gen) (facets : List Facet) →
    PlainProves file entries (Solved c ls points directions facets) →
    (w y : List ℚ) → length w ≡ file.objs → dot w c ≡ one_ℚ → IsInImage file y →
    IsLowest file w (dot w y) ↔ IsInHull file.objs (tight_normals facets y) [] [] w

-- the facets that are told of a point are those that are tight at it
abbrev pub WeightSetsAreTight : Type 0
WeightSetsAreTight = (file : Problem) (c : List ℚ) (ls : List LineGen)
    (points directions : List Gen) (facets : List Facet) →
    IsSolution file c ls points directions facets → (k : ℕ) → k < length points →
    told_facets facets (suc k)
    ≡ places_from 1 (map (λ f. same_ℚ (dot f.w (point_at points (suc k))) f.gamma) facets)

-- so the facets that are told of a point are those whose normals make it least
abbrev pub ProvedAreWeightSets : Type 0
ProvedAreWeightSets = (file : Problem) (entries : List Entry) (answer : Answer) →
    PlainProves file entries answer → AreWeightSets file answer
