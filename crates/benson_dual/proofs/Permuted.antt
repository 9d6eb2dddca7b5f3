-- All facets of an image in another order.
use Rattle.std.proofs.Common.{◌≡◌, ℕ, ◌+◌, ◌<◌, List, [], ◌∷◌, map, length, All, AllPairs, Bool, refl, sym, ap, ◌∙◌, subst, slice_index_or, arith}
use Rattle.std.specs.Bool.{Decides}
use Rattle.std.specs.List.{range_with_len}
use Rattle.std.specs.List.Sorted.{IsPermutation}
use Rattle.std.proofs.lemmas.List.FromFn.{fill_by_all, get_or-range_with_len, length-range_with_len}
use Rattle.std.proofs.lemmas.List.Sorted.{All-permutation, Contains-permutation, IsPermutation-map, IsPermutation-refl, IsPermutation-sym, length_permutation}
use Rattle.std.proofs.lemmas.Map.Keys.{IsDistinct-IsPermutation}
use Rattle.std.proofs.lemmas.Map.Made.{AllPairs-from_IsDistinct, IsDistinct-from_AllPairs}
use Rattle.exact_field.specs.Rational.{ℚ, zero_ℚ}
use Rattle.polyhedra.specs.DoubleDescription.{same_vector}
use Rattle.polyhedra.specs.Inequality.{Inequality}
use Rattle.polyhedra.proofs.Tests.{same_tests, same_vector_is, same_vector-self}
use Rattle.lp_form.specs.declared.shown.Cut.{Cut}
use Rattle.outer_approx.specs.Cuts.{IsCutFor, said_by}
use Rattle.outer_approx.specs.Task.{Task}
use Rattle.lower_image.specs.Facets.{AreFacetCuts}
use Rattle.lower_image.proofs.Certified.{same_facets}
use Rattle.benson_dual.specs.Order.{IsOrder}

-- ---- inequalities that differ
key : Inequality → List ℚ
key e = e.bound ∷ e.normal

inequality_at : List ℚ → Inequality
inequality_at [] = record { normal = []; bound = zero_ℚ }
inequality_at (b ∷ w) = record { normal = w; bound = b }

same_inequality : Inequality → Inequality → Bool
same_inequality a b = same_vector (key a) (key b)

decides : (a b : Inequality) → Decides (same_inequality a b) (a ≡ b)
unfolding same_inequality key inequality_at
decides a b = (
  λ t. ap inequality_at (same_vector_is (key a) (key b) t),
  λ e. ap (same_inequality a) (sym e) ∙ same_vector-self (key a),
)

flips : (a b : Inequality) → same_inequality a b ≡ same_inequality b a
flips a b = same_tests (same_inequality a b) (same_inequality b a) (λ t. (decides b a).1 (sym ((decides a b).0 t))) (λ t. (decides a b).1 (sym ((decides b a).0 t)))

differ_permuted : (xs ys : List Inequality) → IsPermutation xs ys → AllPairs (λ a b. a ≡ b → ⊥) xs → AllPairs (λ a b. a ≡ b → ⊥) ys
differ_permuted xs ys p h = AllPairs-from_IsDistinct decides ys (IsDistinct-IsPermutation same_inequality flips xs ys p (IsDistinct-from_AllPairs decides xs h))

-- ---- facets
pub facets_permuted : {F : Type 0} (value : F → ℚ) (task : Task) (xs ys : List (Cut F)) → IsPermutation xs ys → AreFacetCuts value task xs →
    AreFacetCuts value task ys
facets_permuted value task xs ys p h =
    let said = map (said_by value) xs in
    let other = map (said_by value) ys in
    let q : IsPermutation said other = IsPermutation-map (said_by value) xs ys p in
    record {
      each = All-permutation (IsCutFor value task) xs ys p h.each;
      all = same_facets task.file task.c said other h.all (differ_permuted said other q h.all.distinct) (λ e k. Contains-permutation said other e q k)
          (λ e k. Contains-permutation other said e (IsPermutation-sym said other q) k);
    }

-- ---- an order
pub order_below : (count : ℕ) (order : List ℕ) → IsOrder count order → All (λ k. k < count) order
order_below count order p = All-permutation (λ k. k < count) (range_with_len 0 count) order p
    (λ i d l.
    let long : length (range_with_len 0 count) ≡ count = length-range_with_len 0 count in
    let at : slice_index_or (range_with_len 0 count) i d ≡ 0 + i = get_or-range_with_len 0 count i d (omega (arith, l, long)) in
    omega (arith, at, l, long))

-- what stands at these places is a permutation
pub taken_in_order : {X : Type 0} (xs out : List X) (order : List ℕ) → IsOrder (length xs) order → length out ≡ length order →
    ((d : X) → out ≡ map (λ k. slice_index_or xs k d) order) → IsPermutation xs out
taken_in_order [] [] order p long are = IsPermutation-refl []
taken_in_order [] (y ∷ out) order p long are =
    absurd (let l = length_permutation (range_with_len 0 0) order p in let m = length-range_with_len 0 0 in omega (arith, l, m, long))
taken_in_order {X} (x ∷ xs) out order p long are =
    let all : List X = x ∷ xs in
    let f : ℕ → X = λ k. slice_index_or all k x in
    subst (λ (ys : List X). IsPermutation ys out) (sym (fill_by_all f all (length all) x refl (λ k l. refl)))
    (subst (IsPermutation (map f (range_with_len 0 (length all)))) (sym (are x)) (IsPermutation-map f (range_with_len 0 (length all)) order p))
