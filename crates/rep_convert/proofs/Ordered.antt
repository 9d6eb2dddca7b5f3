-- The order of further rows as it is listed, and as it is gone through.
use Rattle.std.proofs.Common.{◌≡◌, ◌≢◌, ℕ, ◌+◌, ◌<◌, ◌≤◌, List, [], ◌∷◌, ◌++◌, length, take, get_or, All, AllPairs, Contains, eqb-true, eq-eqb, sym, ap, ◌∙◌, subst, arith, inl, inr, slice_index_or, append_assoc}
use Rattle.std.specs.Bool.{Decides}
use Rattle.std.specs.List.Sorted.{IsPermutation, IsSorted}
use Rattle.std.specs.Prelude.{◌==◌}
use Rattle.std.proofs.lemmas.Bool.{cases_eq}
use Rattle.std.proofs.lemmas.List.Sorted.{All-permutation, Contains-permutation}
use Rattle.std.specs.Ordering.{nat_cmp}
use Rattle.std.proofs.lemmas.Map.Keys.{IsDistinct-IsPermutation, ge_from_not_lt}
use Rattle.std.proofs.lemmas.List.Kept.{AllPairs-from_increasing}
use Rattle.std.proofs.lemmas.Map.Made.{AllPairs-from_IsDistinct, IsDistinct-from_AllPairs}
use Rattle.std.proofs.lemmas.List.{get_or_default, get_or-take, length-take, take_all, take_more}
use Rattle.std.proofs.lemmas.List.Elements.{All-nil, All-push, All-weaker, Contains-append_cases, Contains-append_left, Contains-append_right, Contains-push}
use Rattle.polyhedra.proofs.Members.{member_of, pairs-append, pairs-cons, pairs-nil}
use Rattle.polyhedra.proofs.Lists.{Contains-cases, Contains-nil}
use Rattle.polyhedra.proofs.Tests.{same_tests}
use Rattle.rep_convert.specs.Order.{IsOrder}

-- ---- as it is listed
pub order_none : (used : List ℕ) → IsOrder 0 used []
order_none used = record {
  exist = All-nil (λ k. k < 0);
  unused = All-nil (λ k. Contains used k → ⊥);
  once = pairs-nil (λ j k. j ≢ k);
  all = λ k l. absurd (omega (arith, l));
}

pub weaker : (k : ℕ) (order : List ℕ) → All (λ j. j < k) order → All (λ j. j < k + 1) order
weaker k order h = All-weaker (λ j. j < k) (λ j. j < k + 1) (λ j l. omega (arith, l)) order h

pub order_skip : (k : ℕ) (used order : List ℕ) → IsOrder k used order → Contains used k → IsOrder (k + 1) used order
order_skip k used order h in_use = record {
  exist = weaker k order h.exist;
  unused = h.unused;
  once = h.once;
  all = λ j l. elim (cases_eq j k) [
    | inl same ↦ inl (subst (Contains used) (sym same) in_use)
    | inr other ↦ h.all j (omega (arith, l, other))
  ];
}

pub order_more : (k : ℕ) (used order new : List ℕ) → IsOrder k used order → (Contains used k → ⊥) → new ≡ order ++ k ∷ [] → IsOrder (k + 1) used new
order_more k used order new h free is = subst (IsOrder (k + 1) used) (sym is) (record {
  exist = All-push (λ j. j < k + 1) order k (weaker k order h.exist) (omega arith);
  unused = All-push (λ j. Contains used j → ⊥) order k h.unused free;
  once = pairs-append (λ i j. i ≢ j) order (k ∷ []) h.once (pairs-cons (λ i j. i ≢ j) k [] (All-nil (λ j. k ≢ j)) (pairs-nil (λ i j. i ≢ j)))
      (λ i j c d same.
      let below : i < k = member_of (λ a. a < k) order i h.exist c in
      let last : k ≡ j = only k j d in
      omega (arith, below, last, same));
  all = λ j l. elim (cases_eq j k) [
    | inl same ↦ inr (subst (Contains (order ++ k ∷ [])) (sym same) (Contains-push order k))
    | inr other ↦ elim (h.all j (omega (arith, l, other))) [
      | inl a ↦ inl a
      | inr b ↦ inr (Contains-append_left order (k ∷ []) j b)
    ]
  ];
})
  where
    only : (a b : ℕ) → Contains (a ∷ []) b → a ≡ b
    only a b c = elim (Contains-cases a [] b c) [ inl e ↦ e | inr n ↦ absurd (Contains-nil b n) ]

-- ---- in another order
decides : (a b : ℕ) → Decides (a == b) (a ≡ b)
decides a b = (eqb-true a b, eq-eqb a b)

pub once_permuted : (xs ys : List ℕ) → IsPermutation xs ys → AllPairs (λ j k. j ≢ k) xs → AllPairs (λ j k. j ≢ k) ys
once_permuted xs ys p once =
    AllPairs-from_IsDistinct decides ys (IsDistinct-IsPermutation (λ (a b : ℕ). a == b) either xs ys p (IsDistinct-from_AllPairs decides xs once))
  where
    either : (a b : ℕ) → (a == b) ≡ (b == a)
    either a b = same_tests (a == b) (b == a) (λ e. eq-eqb b a (sym (eqb-true a b e))) (λ e. eq-eqb a b (sym (eqb-true b a e)))

pub order_permuted : (n : ℕ) (used order new : List ℕ) → IsPermutation order new → IsOrder n used order → IsOrder n used new
order_permuted n used order new p h = record {
  exist = All-permutation (λ k. k < n) order new p h.exist;
  unused = All-permutation (λ k. Contains used k → ⊥) order new p h.unused;
  once = once_permuted order new p h.once;
  all = λ k l. elim (h.all k l) [
    | inl a ↦ inl a
    | inr b ↦ inr (Contains-permutation order new k p b)
  ];
}

-- ---- the first of them
pub once_first : (n : ℕ) (xs : List ℕ) → AllPairs (λ j k. j ≢ k) xs → AllPairs (λ j k. j ≢ k) (take n xs)
once_first n xs once i j d before inside same =
    let long = length-take n xs in
    let below : j < n = omega (arith, inside, long) in
    once i j d before (omega (arith, inside, long)) (sym (get_or-take n xs i d (omega (arith, before, below))) ∙ same ∙ get_or-take n xs j d below)

-- ---- sorted
pub rises_sorted : (xs : List ℕ) → IsSorted nat_cmp xs → AllPairs (λ j k. j ≢ k) xs → AllPairs (λ j k. j < k) xs
rises_sorted xs sorted once = AllPairs-from_increasing xs (λ k l.
    let behind = ge_from_not_lt (get_or xs (k + 1) 0) (get_or xs k 0) (sorted k 0 (omega arith) l) in
    let other = once k (k + 1) 0 (omega arith) l in
    omega (arith, behind, other))

-- ---- as it is gone through
module _ (n : ℕ) (used order : List ℕ) (h : IsOrder n used order) (i : ℕ) (inside : i < length order) (number : ℕ) (is : number ≡ slice_index_or order i 0)
    (now : List ℕ) (so_far : now ≡ used ++ take i order) where
  at_place : slice_index_or order i number ≡ number
  at_place = get_or_default order i number 0 inside ∙ sym is

  listed : Contains order number
  listed = (i, inside, at_place)

  pub number_exists : number < n
  number_exists = member_of (λ k. k < n) order number h.exist listed

  -- it is not in use yet
  pub still_unused : Contains now number → ⊥
  still_unused c = elim (Contains-append_cases used (take i order) number (subst (λ (ks : List ℕ). Contains ks number) so_far c)) [
    | inl a ↦ member_of (λ k. Contains used k → ⊥) order number h.unused listed a
    | inr b ↦ earlier b
  ]
    where
      earlier : Contains (take i order) number → ⊥
      earlier (m, l, e) =
          let long = length-take i order in
          let before : m < i = omega (arith, l, long) in
          h.once m i number before inside (sym (get_or-take i order m number before) ∙ e ∙ sym at_place)

  -- one more is in use
  pub used_more : (new : List ℕ) → new ≡ now ++ number ∷ [] → new ≡ used ++ take (i + 1) order
  used_more new e =
      e ∙ ap (λ (ks : List ℕ). ks ++ number ∷ []) so_far ∙ append_assoc used (take i order) (number ∷ [])
      ∙ ap (λ (ks : List ℕ). used ++ ks) (sym (take_more order i number inside ∙ ap (λ (k : ℕ). take i order ++ k ∷ []) at_place))

pub order_done : (n : ℕ) (used order now : List ℕ) → IsOrder n used order → (i : ℕ) → length order ≤ i → now ≡ used ++ take i order →
    (k : ℕ) → k < n → Contains now k
order_done n used order now h i over so_far k l =
    let whole : now ≡ used ++ order = so_far ∙ ap (λ (ks : List ℕ). used ++ ks) (take_all i order over) in
    subst (λ (ks : List ℕ). Contains ks k) (sym whole) (elim (h.all k l) [
      | inl a ↦ Contains-append_left used order k a
      | inr b ↦ Contains-append_right used order k b
    ])
