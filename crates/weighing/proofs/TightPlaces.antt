-- The numbers of the facets that are tight at a point.
use Rattle.std.proofs.Common.{◌≡◌, ℕ, zero, suc, ◌+◌, ◌-◌, ◌<◌, ◌==◌, ◌||◌, List, [], ◌∷◌, ◌++◌, map, length, All, Bool, true, false, slice_index_or, refl, sym, ap, ap₂, ◌∙◌, subst, arith}
use Rattle.std.proofs.lemmas.Bool.Decides.{nat_tests}
use Rattle.std.proofs.lemmas.List.Elements.{All-head, All-tail}
use Rattle.exact_field.specs.Rational.{ℚ}
use Rattle.exact_field.specs.Order.{same_ℚ}
use Rattle.exact_field.specs.Vector.{dot}
use Rattle.polyhedra.specs.DoubleDescription.{is_zero}
use Rattle.log_rules.specs.Live.{contains}
use Rattle.log_rules.specs.Right.{places_from, tight_numbers, stated}
use Rattle.log_rules.specs.declared.answer.Gen.{Gen}
use Rattle.log_rules.specs.declared.answer.Facet.{Facet}
use Rattle.weighing.specs.Laws.{WeightSetsAreTight}
use Rattle.weighing.specs.Weighing.{vectors_of}

-- no place is before the first
before_first : (j m : ℕ) (bs : List Bool) → m < j → contains (places_from j bs) m ≡ false
before_first j m [] h = refl
before_first j m (true ∷ bs) h = ap₂ (λ a b. a || b) (other j m h) (before_first (suc j) m bs (omega arith))
  where
    other : (a b : ℕ) → b < a → (a == b) ≡ false
    other a b k = grind (arith, nat_tests)
before_first j m (false ∷ bs) h = before_first (suc j) m bs (omega arith)

-- a place is among them where the list says true
at_place : (j : ℕ) (bs : List Bool) (k m : ℕ) → m ≡ j + k → contains (places_from j bs) m ≡ slice_index_or bs k false
at_place j [] k m e = refl
at_place j (true ∷ bs) zero m e = ap (λ a. a || contains (places_from (suc j) bs) m) (same j m (omega arith))
  where
    same : (a b : ℕ) → b ≡ a → (a == b) ≡ true
    same a b k = grind (arith, nat_tests)
at_place j (true ∷ bs) (suc k) m e = ap₂ (λ a b. a || b) (other j m (omega arith)) (at_place (suc j) bs k m (omega arith))
  where
    other : (a b : ℕ) → a < b → (a == b) ≡ false
    other a b k = grind (arith, nat_tests)
at_place j (false ∷ bs) zero m e = before_first (suc j) m bs (omega arith)
at_place j (false ∷ bs) (suc k) m e = at_place (suc j) bs k m (omega arith)

at_test : (test : List ℚ → Bool) (ys : List (List ℚ)) (more : List Bool) (k : ℕ) → k < length ys → slice_index_or (map test ys ++ more) k false ≡ test (slice_index_or ys k [])
at_test test [] more k h = absurd (omega arith)
at_test test (y ∷ ys) more zero h = refl
at_test test (y ∷ ys) more (suc k) h = at_test test ys more k (omega arith)

pub as_many : (ps : List Gen) → length (map (λ (g : Gen). g.y) ps) ≡ length ps
as_many [] = refl
as_many (p ∷ ps) = ap suc (as_many ps)

same_tight : (ys ds : List (List ℚ)) (k : ℕ) → k < length ys → (facets : List Facet) → All (λ (f : Facet). f.tight ≡ tight_numbers ys ds (stated f)) facets →
    map (λ ks. contains ks (suc k)) (map (λ (f : Facet). f.tight) facets) ≡ map (λ (f : Facet). same_ℚ (dot f.w (slice_index_or ys k [])) f.gamma) facets
same_tight ys ds k h [] t = refl
same_tight ys ds k h (f ∷ facets) t = ap₂ (λ a b. a ∷ b)
    (ap (λ ks. contains ks (suc k)) (All-head (λ (f : Facet). f.tight ≡ tight_numbers ys ds (stated f)) f facets t)
    ∙ at_place 1 (map (λ y. same_ℚ (dot f.w y) f.gamma) ys ++ map (λ d. is_zero (dot f.w d)) ds) k (suc k) (omega arith)
    ∙ at_test (λ y. same_ℚ (dot f.w y) f.gamma) ys (map (λ d. is_zero (dot f.w d)) ds) k h)
    (same_tight ys ds k h facets (All-tail (λ (f : Facet). f.tight ≡ tight_numbers ys ds (stated f)) f facets t))

pub weight_sets_are_tight : WeightSetsAreTight
weight_sets_are_tight file c ls points directions facets s k h =
    let same : k ≡ suc k - 1 = omega arith in
    ap (places_from 1) (same_tight (vectors_of points) (map (λ (g : Gen). g.y) directions) k (subst (λ (n : ℕ). k < n) (sym (as_many points)) h) facets s.tight)
    ∙ ap (λ j. places_from 1 (map (λ (f : Facet). same_ℚ (dot f.w (slice_index_or (vectors_of points) j [])) f.gamma) facets)) same
