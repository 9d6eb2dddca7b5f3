-- The facets that are told of a point are those whose normals make it least.
use Rattle.std.proofs.Common.{◌≡◌, ◌↔◌, ℕ, zero, suc, ◌+◌, ◌-◌, ◌<◌, List, [], ◌∷◌, map, filter, length, cond, Contains, Bool, true, false, slice_index_or, refl, sym, ap, ap₂, ◌∙◌, subst, arith}
use Rattle.exact_field.specs.Rational.{ℚ}
use Rattle.exact_field.specs.Order.{same_ℚ}
use Rattle.exact_field.specs.Vector.{dot}
use Rattle.polyhedra.specs.Hull.{IsInHull}
use Rattle.polyhedra.proofs.Lists.{Contains-here, Contains-there}
use Rattle.vlp_problem.specs.declared.problem.Problem.{Problem}
use Rattle.upper_image.specs.UpperImage.{IsInImage}
use Rattle.deriv_log.specs.declared.entry.Entry.{Entry}
use Rattle.log_rules.specs.Proves.{PlainProves}
use Rattle.log_rules.specs.Right.{places_from, IsSolution}
use Rattle.log_rules.specs.declared.answer.Answer.TheVariants.{Infeasible, Whole, Solved}
use Rattle.log_rules.specs.declared.answer.Facet.{Facet}
use Rattle.log_rules.specs.declared.answer.Gen.{Gen}
use Rattle.log_rules.specs.declared.answer.LineGen.{LineGen}
use Rattle.log_rules.proofs.ProvedIsRight.{proved_is_right}
use Rattle.weighing.specs.Laws.{tight_normals, ProvedAreWeightSets}
use Rattle.weighing.specs.Weighing.{IsLowest, IsLeastWithin, normals_of, told_facets, point_at, vectors_of}
use Rattle.weighing.proofs.TightFacets.{weights_are_hull}
use Rattle.weighing.proofs.TightPlaces.{as_many, weight_sets_are_tight}

-- what stands at the places at which a test holds
at_places : (test : Facet → Bool) (g : ℕ → List ℚ) (j : ℕ) (fs : List Facet) →
    ((i : ℕ) → i < length fs → g (j + i) ≡ slice_index_or (map (λ (f : Facet). f.w) fs) i []) →
    map g (places_from j (map test fs)) ≡ map (λ (f : Facet). f.w) (filter test fs)
at_places test g j [] h = refl
at_places test g j (f ∷ fs) h =
    let same : j ≡ j + 0 = omega arith in
    more (test f) (ap g same ∙ h 0 (omega arith))
    (at_places test g (suc j) fs (λ i l.
    let next : suc j + i ≡ j + suc i = omega arith in
    ap g next ∙ h (suc i) (omega arith)))
  where
    more : (b : Bool) → g j ≡ f.w → map g (places_from (suc j) (map test fs)) ≡ map (λ (e : Facet). e.w) (filter test fs) →
        map g (places_from j (b ∷ map test fs)) ≡ map (λ (e : Facet). e.w) (cond b (f ∷ filter test fs) (filter test fs))
    more true here again = ap₂ (λ a b. a ∷ b) here again
    more false here again = again

same_normals : (test : Facet → Bool) (fs : List Facet) → normals_of fs (places_from 1 (map test fs)) ≡ map (λ (f : Facet). f.w) (filter test fs)
same_normals test fs = at_places test (λ k. slice_index_or (map (λ (f : Facet). f.w) fs) (k - 1) []) 1 fs (λ i l.
    let same : (1 + i) - 1 ≡ i = omega arith in
    ap (λ k. slice_index_or (map (λ (f : Facet). f.w) fs) k []) same)

stands_at : (vs : List (List ℚ)) (k : ℕ) → k < length vs → Contains vs (slice_index_or vs k [])
stands_at [] k h = absurd (omega arith)
stands_at (v ∷ vs) zero h = Contains-here v vs v refl
stands_at (v ∷ vs) (suc k) h = Contains-there v vs (slice_index_or vs k []) (stands_at vs k (omega arith))

module _ (file : Problem) (entries : List Entry) (c : List ℚ) (ls : List LineGen) (points directions : List Gen) (facets : List Facet)
    (proves : PlainProves file entries (Solved c ls points directions facets)) where
  right : IsSolution file c ls points directions facets
  right = proved_is_right file entries (Solved c ls points directions facets) proves

  in_image : (k : ℕ) → k < length points → IsInImage file (point_at points (suc k))
  in_image k h =
      let same : k ≡ suc k - 1 = omega arith in
      let within : suc k - 1 < length (vectors_of points) = omega (arith, as_many points) in
      ((right.vertices (point_at points (suc k))).0 (stands_at (vectors_of points) (suc k - 1) within)).member.member

  told_normals : (k : ℕ) → k < length points → tight_normals facets (point_at points (suc k)) ≡ normals_of facets (told_facets facets (suc k))
  told_normals k h =
      sym (same_normals (λ (f : Facet). same_ℚ (dot f.w (point_at points (suc k))) f.gamma) facets)
      ∙ ap (normals_of facets) (sym (weight_sets_are_tight file c ls points directions facets right k h))

  pub least_within : (k : ℕ) → k < length points → IsLeastWithin file c points facets (suc k)
  least_within k h w width one =
      subst (λ (vs : List (List ℚ)). IsLowest file w (dot w (point_at points (suc k))) ↔ IsInHull file.objs vs [] [] w) (told_normals k h)
      (weights_are_hull file entries c ls points directions facets proves w (point_at points (suc k)) width one (in_image k h))

pub proved_are_weight_sets : ProvedAreWeightSets
proved_are_weight_sets file entries (Infeasible u) h = tt
proved_are_weight_sets file entries (Whole c x ray) h = tt
proved_are_weight_sets file entries (Solved c ls points directions facets) h = least_within file entries c ls points directions facets h
