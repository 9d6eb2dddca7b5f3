-- Two generators with fewer than n - 2 tight rows in common are covered by a third one. With a row that is tight at one of the two
-- alone, for each of them, the common rows are fewer than n, so all are tight at some vector w but 0. A multiple of the sum of the two,
-- plus w, is in the cone, so it is a combination of generators that are tight at the common rows. Of the two alone it is none, since
-- the two rows give both the same multiplier as before.
use Rattle.std.proofs.Common.{◌≡◌, ℕ, ◌+◌, ◌<◌, List, [], ◌∷◌, length, All, Contains, refl, sym, ap, ap₂, ◌∙◌, subst, arith, ◌⊎◌, inl, inr, Bool, true, false, ◌&&◌}
use Rattle.std.proofs.lemmas.List.Elements.{All-nil, All-cons, All-head, All-tail}
use Rattle.exact_field.specs.Rational.{ℚ, zero_ℚ, one_ℚ, ◌+ℚ◌, ◌*ℚ◌, neg_ℚ, inverse_ℚ, ◌≤ℚ◌, ◌<ℚ◌}
use Rattle.exact_field.specs.Vector.{dot}
use Rattle.exact_field.proofs.Rationals.{mul_cancel_ℚ}
use Rattle.polyhedra.specs.Vectors.{zeros, scaled, values, AtLeastZero}
use Rattle.polyhedra.specs.Cone.{IsGenerated, IsInCone}
use Rattle.polyhedra.specs.TightSets.{IsTight, LiesIn, Covers, AreApart, IsDoubleDescriptionPair}
use Rattle.polyhedra.specs.DoubleDescription.{is_zero, is_uncovered}
use Rattle.polyhedra.specs.Generators.{common_rows, FewAreCovered}
use Rattle.polyhedra.proofs.Laws.{add_comm, add_zero, add_neg, le_refl, le_of_lt, mul_comm, mul_nonneg, zero_lt_one}
use Rattle.polyhedra.proofs.Algebra.{zero_add, zero_mul, mul_zero, one_mul, add_cancel, ring_rules}
use Rattle.polyhedra.proofs.Order.{zero_or_positive, le_or_lt, le_of_eq, add_nonneg, inverse_positive, neg_positive, mul_inverse_cancel}
use Rattle.polyhedra.proofs.Linear.{dot_comm, dot-zeros, length-plus, length-scaled, length-zeros, same_wide}
use Rattle.polyhedra.proofs.Lists.{HoldsAt, nonneg-head, nonneg-tail}
use Rattle.polyhedra.proofs.Members.{all_of_members, member_of, pairs_of_members, Contains-filter}
use Rattle.polyhedra.proofs.Tests.{both_hold, list_all-true, test_of_zero}
use Rattle.polyhedra.proofs.TightRows.{IsApartAt, lies_or_not, same_vector_or_not}
use Rattle.polyhedra.proofs.Support.{InSupport, support_listed}
use Rattle.polyhedra.proofs.Generated.{generated_value}
use Rattle.polyhedra.proofs.Dependence.{IsNullVector, null_vector}
use Rattle.polyhedra.proofs.Cones.{in_support_lies}
use Rattle.polyhedra.proofs.CoveredPairs.{moved, moved_value, moved_tight, moved_tight_left, moved_tight_right, moved_in}
use Rattle.polyhedra.proofs.NewGenerators.{Uncovered}
use Rattle.polyhedra.proofs.NewPairs.{Free, free_test, free_is}

-- ---- w plus a great enough multiple of x
-- a greater multiple is no less, where x is at least 0
more_holds : (w x r : List ℚ) (s t : ℚ) → zero_ℚ ≤ℚ t → zero_ℚ ≤ℚ dot r x → zero_ℚ ≤ℚ dot r (moved w s x) → zero_ℚ ≤ℚ dot r (moved w (s +ℚ t) x)
more_holds w x r s t p h k = subst (λ (q : ℚ). zero_ℚ ≤ℚ q)
    (ap (λ q. q +ℚ t *ℚ dot r x) (moved_value w x r s) ∙ joined (dot r w) (dot r x) s t ∙ sym (moved_value w x r (s +ℚ t)))
    (add_nonneg (dot r (moved w s x)) (t *ℚ dot r x) k (mul_nonneg t (dot r x) p h))
  where
    joined : (a b c d : ℚ) → (a +ℚ c *ℚ b) +ℚ d *ℚ b ≡ a +ℚ (c +ℚ d) *ℚ b
    joined a b c d = simp ring_rules

-- enough for one row
enough_here : (w x r : List ℚ) → zero_ℚ ≤ℚ dot r x → (IsTight r x → IsTight r w) → (s : ℚ) × (zero_ℚ ≤ℚ s) × (zero_ℚ ≤ℚ dot r (moved w s x))
enough_here w x r h k = go (le_or_lt zero_ℚ (dot r w)) (zero_or_positive (dot r x) h)
  where
    value_zero : dot r (moved w zero_ℚ x) ≡ dot r w
    value_zero = moved_value w x r zero_ℚ ∙ ap (λ q. dot r w +ℚ q) (zero_mul (dot r x)) ∙ add_zero (dot r w)

    none : zero_ℚ ≤ℚ dot r w → (s : ℚ) × (zero_ℚ ≤ℚ s) × (zero_ℚ ≤ℚ dot r (moved w s x))
    none p = (zero_ℚ, le_refl zero_ℚ, subst (λ (q : ℚ). zero_ℚ ≤ℚ q) (sym value_zero) p)

    go : (zero_ℚ ≤ℚ dot r w) ⊎ (dot r w <ℚ zero_ℚ) → (dot r x ≡ zero_ℚ) ⊎ (zero_ℚ <ℚ dot r x) →
        (s : ℚ) × (zero_ℚ ≤ℚ s) × (zero_ℚ ≤ℚ dot r (moved w s x))
    go (inl p) t = none p
    go (inr p) (inl e) = none (le_of_eq zero_ℚ (dot r w) (sym (k e)))
    go (inr p) (inr q) =
        let s : ℚ = inverse_ℚ (dot r x) *ℚ neg_ℚ (dot r w) in (
          s,
          mul_nonneg (inverse_ℚ (dot r x)) (neg_ℚ (dot r w)) (le_of_lt zero_ℚ (inverse_ℚ (dot r x)) (inverse_positive (dot r x) q))
              (le_of_lt zero_ℚ (neg_ℚ (dot r w)) (neg_positive (dot r w) p)),
          le_of_eq zero_ℚ (dot r (moved w s x)) (sym (moved_value w x r s
              ∙ ap (λ a. dot r w +ℚ a) (mul_comm s (dot r x) ∙ mul_inverse_cancel (dot r x) (neg_ℚ (dot r w)) q)
              ∙ add_neg (dot r w))),
        )

-- enough for every row
pub enough : (w x : List ℚ) (rows : List (List ℚ)) → All (HoldsAt x) rows → LiesIn rows x w → (s : ℚ) × (zero_ℚ ≤ℚ s) × All (HoldsAt (moved w s x)) rows
enough w x [] h l = (zero_ℚ, le_refl zero_ℚ, All-nil (HoldsAt (moved w zero_ℚ x)))
enough w x (r ∷ rows) h l =
    go (enough_here w x r (All-head (HoldsAt x) r rows h) (All-head Within r rows l))
    (enough w x rows (All-tail (HoldsAt x) r rows h) (All-tail Within r rows l))
  where
    Within : List ℚ → Type 0
    Within q = IsTight q x → IsTight q w

    go : ((s : ℚ) × (zero_ℚ ≤ℚ s) × (zero_ℚ ≤ℚ dot r (moved w s x))) → ((s : ℚ) × (zero_ℚ ≤ℚ s) × All (HoldsAt (moved w s x)) rows) →
        (s : ℚ) × (zero_ℚ ≤ℚ s) × All (HoldsAt (moved w s x)) (r ∷ rows)
    go (s, p, here) (t, q, there) = (
      s +ℚ t,
      add_nonneg s t p q,
      All-cons (HoldsAt (moved w (s +ℚ t) x)) r rows (more_holds w x r s t q (All-head (HoldsAt x) r rows h) here)
          (all_of_members (HoldsAt (moved w (s +ℚ t) x)) rows (λ v c.
          subst (λ (u : ℚ). zero_ℚ ≤ℚ dot v (moved w u x)) (add_comm t s)
          (more_holds w x v t s p (member_of (HoldsAt x) rows v (All-tail (HoldsAt x) r rows h) c) (member_of (HoldsAt (moved w t x)) rows v there c)))),
    )

-- ---- where each vector of a support is one of two, the combination is one of these two
pub record IsOfTwo (a b ms : List ℚ) (gens : List (List ℚ)) : Type 0 where
  pub first : ℚ
  pub second : ℚ
  pub value : (r : List ℚ) → dot ms (values gens r) ≡ first *ℚ dot a r +ℚ second *ℚ dot b r

nothing : (x y : ℚ) → zero_ℚ ≡ zero_ℚ *ℚ x +ℚ zero_ℚ *ℚ y
nothing x y = simp ring_rules

of_two : (a b ms : List ℚ) (gens : List (List ℚ)) → AtLeastZero ms → ((v : List ℚ) → InSupport ms gens v → (v ≡ a) ⊎ (v ≡ b)) → IsOfTwo a b ms gens
of_two a b [] gens h k = record { first = zero_ℚ; second = zero_ℚ; value = λ r. nothing (dot a r) (dot b r) }
of_two a b (m ∷ ms) [] h k = record { first = zero_ℚ; second = zero_ℚ; value = λ r. nothing (dot a r) (dot b r) }
of_two a b (m ∷ ms) (v ∷ gens) h k =
    go (zero_or_positive m (nonneg-head m ms h)) (λ p. k v (inl (p, refl))) (of_two a b ms gens (nonneg-tail m ms h) (λ u s. k u (inr s)))
  where
    at_first : (x y z p q : ℚ) → p *ℚ x +ℚ (y *ℚ x +ℚ z *ℚ q) ≡ (p +ℚ y) *ℚ x +ℚ z *ℚ q
    at_first x y z p q = simp ring_rules

    at_second : (x y z p q : ℚ) → p *ℚ q +ℚ (y *ℚ x +ℚ z *ℚ q) ≡ y *ℚ x +ℚ (p +ℚ z) *ℚ q
    at_second x y z p q = simp ring_rules

    by : (v ≡ a) ⊎ (v ≡ b) → IsOfTwo a b ms gens → IsOfTwo a b (m ∷ ms) (v ∷ gens)
    by (inl e) s = record {
      first = m +ℚ s.first;
      second = s.second;
      value = λ r. ap₂ (λ x y. m *ℚ dot x r +ℚ y) e (s.value r) ∙ at_first (dot a r) s.first s.second m (dot b r);
    }
    by (inr e) s = record {
      first = s.first;
      second = m +ℚ s.second;
      value = λ r. ap₂ (λ x y. m *ℚ dot x r +ℚ y) e (s.value r) ∙ at_second (dot a r) s.first s.second m (dot b r);
    }

    go : (m ≡ zero_ℚ) ⊎ (zero_ℚ <ℚ m) → (zero_ℚ <ℚ m → (v ≡ a) ⊎ (v ≡ b)) → IsOfTwo a b ms gens → IsOfTwo a b (m ∷ ms) (v ∷ gens)
    go (inl e) f s = record {
      first = s.first;
      second = s.second;
      value = λ r. ap₂ (λ x y. x *ℚ dot v r +ℚ y) e (s.value r) ∙ ap (λ x. x +ℚ (s.first *ℚ dot a r +ℚ s.second *ℚ dot b r)) (zero_mul (dot v r))
          ∙ zero_add (s.first *ℚ dot a r +ℚ s.second *ℚ dot b r);
    }
    go (inr p) f s = by (f p) s

-- ---- a third generator
module _ (n : ℕ) (rows gens : List (List ℚ)) (d : IsDoubleDescriptionPair n rows gens) (a b : List ℚ) (a_listed : Contains gens a) (b_listed : Contains gens b) (differ : a ≡ b → ⊥) (few : length (common_rows rows a b) + 2 < n) where
  a_in : IsInCone n rows a
  a_in = member_of (IsInCone n rows) gens a d.inside a_listed

  b_in : IsInCone n rows b
  b_in = member_of (IsInCone n rows) gens b d.inside b_listed

  value_a : (r : List ℚ) → Contains rows r → zero_ℚ ≤ℚ dot r a
  value_a r c = member_of (HoldsAt a) rows r a_in.within c

  value_b : (r : List ℚ) → Contains rows r → zero_ℚ ≤ℚ dot r b
  value_b r c = member_of (HoldsAt b) rows r b_in.within c

  apart : AreApart rows a b
  apart = pairs_of_members (AreApart rows) (λ x y m. record { first = m.second; second = m.first }) gens a b d.apart a_listed b_listed differ

  -- a row that is tight at a alone, and one at b alone
  alone : (x y : List ℚ) → (LiesIn rows x y → ⊥) → IsApartAt rows x y
  alone x y bad = go (lies_or_not rows x y)
    where
      go : LiesIn rows x y ⊎ IsApartAt rows x y → IsApartAt rows x y
      go (inl h) = absurd (bad h)
      go (inr s) = s

  at_a : IsApartAt rows a b
  at_a = alone a b apart.first

  at_b : IsApartAt rows b a
  at_b = alone b a apart.second

  -- the sum of the two
  both : List ℚ
  both = moved a one_ℚ b

  both_in : IsInCone n rows both
  unfolding both
  both_in = moved_in n rows a b one_ℚ zero_lt_one a_in b_in

  both_value : (r : List ℚ) → dot r both ≡ dot r a +ℚ dot r b
  unfolding both
  both_value r = moved_value a b r one_ℚ ∙ ap (λ q. dot r a +ℚ q) (one_mul (dot r b))

  module _ (w : List ℚ) (null : IsNullVector n (at_a.row ∷ at_b.row ∷ common_rows rows a b) w) where
    w_rest : All (λ r. dot r w ≡ zero_ℚ) (at_b.row ∷ common_rows rows a b)
    w_rest = All-tail (λ r. dot r w ≡ zero_ℚ) at_a.row (at_b.row ∷ common_rows rows a b) null.tight

    w_common : All (λ r. dot r w ≡ zero_ℚ) (common_rows rows a b)
    w_common = All-tail (λ r. dot r w ≡ zero_ℚ) at_b.row (common_rows rows a b) w_rest

    w_tight : (r : List ℚ) → Contains rows r → IsTight r a → IsTight r b → IsTight r w
    w_tight r c e f = member_of (λ v. dot v w ≡ zero_ℚ) (common_rows rows a b) r w_common
        (Contains-filter (λ v. is_zero (dot v a) && is_zero (dot v b)) rows r c
        (both_hold (is_zero (dot r a)) (is_zero (dot r b)) (test_of_zero (dot r a) e) (test_of_zero (dot r b) f)))

    lies : LiesIn rows both w
    unfolding both
    lies = all_of_members (λ r. IsTight r both → IsTight r w) rows (λ r c e. w_tight r c
        (moved_tight_left a b r one_ℚ zero_lt_one (value_a r c) (value_b r c) e)
        (moved_tight_right a b r one_ℚ zero_lt_one (value_a r c) (value_b r c) e))

    module _ (s : ℚ) (holds : All (HoldsAt (moved w s both)) rows) where
      z : List ℚ
      z = moved w s both

      z_in : IsInCone n rows z
      unfolding z
      z_in = record {
        wide = length-plus n w (scaled s both) null.wide (length-scaled s both ∙ both_in.wide);
        within = holds;
      }

      z_generated : IsGenerated n gens z
      z_generated = d.generates z z_in

      support_covers : (v : List ℚ) → InSupport z_generated.multipliers gens v → Covers rows a b v
      unfolding z both
      support_covers v m = all_of_members (λ r. IsTight r a → IsTight r b → IsTight r v) rows (λ r c e f.
          member_of (λ q. IsTight q z → IsTight q v) rows r (in_support_lies n rows gens d z v z_generated m) c
          (moved_tight w both r s (w_tight r c e f) (moved_tight a b r one_ℚ e f)))

      -- no third generator: then the support is of the two
      module _ (free : Uncovered rows gens a b) where
        one_of : (v : List ℚ) → InSupport z_generated.multipliers gens v → (v ≡ a) ⊎ (v ≡ b)
        one_of v m = go (same_vector_or_not v a) (same_vector_or_not v b)
          where
            go : (v ≡ a) ⊎ (v ≡ a → ⊥) → (v ≡ b) ⊎ (v ≡ b → ⊥) → (v ≡ a) ⊎ (v ≡ b)
            go (inl e) t = inl e
            go (inr e) (inl f) = inr f
            go (inr e) (inr f) = absurd (member_of (λ g. (g ≡ a → ⊥) → (g ≡ b → ⊥) → Covers rows a b g → ⊥) gens v free
                (support_listed z_generated.multipliers gens v m) e f (support_covers v m))

        two : IsOfTwo a b z_generated.multipliers gens
        two = of_two a b z_generated.multipliers gens z_generated.at_least_zero one_of

        z_value : (r : List ℚ) → dot r z ≡ two.first *ℚ dot r a +ℚ two.second *ℚ dot r b
        z_value r = generated_value n gens z z_generated r ∙ two.value r
            ∙ ap₂ (λ x y. two.first *ℚ x +ℚ two.second *ℚ y) (dot_comm a r) (dot_comm b r)

        moved_both : (r : List ℚ) → dot r z ≡ dot r w +ℚ s *ℚ (dot r a +ℚ dot r b)
        unfolding z
        moved_both r = moved_value w both r s ∙ ap (λ q. dot r w +ℚ s *ℚ q) (both_value r)

        -- the multiplier at a row that is tight at w and at one of the two
        second_is : two.second ≡ s
        second_is = mul_cancel_ℚ two.second s (dot at_a.row b) at_a.loose_there
            (sym (ap (λ x. two.first *ℚ x +ℚ two.second *ℚ dot at_a.row b) at_a.tight
            ∙ ap (λ x. x +ℚ two.second *ℚ dot at_a.row b) (mul_zero two.first) ∙ zero_add (two.second *ℚ dot at_a.row b))
            ∙ sym (z_value at_a.row) ∙ moved_both at_a.row
            ∙ ap₂ (λ x y. x +ℚ s *ℚ (y +ℚ dot at_a.row b)) (All-head (λ r. dot r w ≡ zero_ℚ) at_a.row (at_b.row ∷ common_rows rows a b) null.tight) at_a.tight
            ∙ zero_add (s *ℚ (zero_ℚ +ℚ dot at_a.row b)) ∙ ap (λ x. s *ℚ x) (zero_add (dot at_a.row b)))

        first_is : two.first ≡ s
        first_is = mul_cancel_ℚ two.first s (dot at_b.row a) at_b.loose_there
            (sym (ap (λ x. two.first *ℚ dot at_b.row a +ℚ two.second *ℚ x) at_b.tight
            ∙ ap (λ x. two.first *ℚ dot at_b.row a +ℚ x) (mul_zero two.second) ∙ add_zero (two.first *ℚ dot at_b.row a))
            ∙ sym (z_value at_b.row) ∙ moved_both at_b.row
            ∙ ap₂ (λ x y. x +ℚ s *ℚ (dot at_b.row a +ℚ y)) (All-head (λ r. dot r w ≡ zero_ℚ) at_b.row (common_rows rows a b) w_rest) at_b.tight
            ∙ zero_add (s *ℚ (dot at_b.row a +ℚ zero_ℚ)) ∙ ap (λ x. s *ℚ x) (add_zero (dot at_b.row a)))

        w_value : (r : List ℚ) → dot r w ≡ zero_ℚ
        w_value r = add_cancel (dot r w) zero_ℚ (s *ℚ (dot r a +ℚ dot r b))
            (sym (moved_both r) ∙ z_value r ∙ ap₂ (λ x y. x *ℚ dot r a +ℚ y *ℚ dot r b) first_is second_is
            ∙ spread s (dot r a) (dot r b))
          where
            spread : (x y q : ℚ) → x *ℚ y +ℚ x *ℚ q ≡ zero_ℚ +ℚ x *ℚ (y +ℚ q)
            spread x y q = simp ring_rules

        contradiction : ⊥
        contradiction = null.other (same_wide n w (zeros n) null.wide (length-zeros n) (λ r. w_value r ∙ sym (dot-zeros r n)))

  pub no_third : Uncovered rows gens a b → ⊥
  no_third free =
      let u : (w : List ℚ) × IsNullVector n (at_a.row ∷ at_b.row ∷ common_rows rows a b) w =
      null_vector n (at_a.row ∷ at_b.row ∷ common_rows rows a b) (omega (arith, few)) in
      let t : (s : ℚ) × (zero_ℚ ≤ℚ s) × All (HoldsAt (moved u.0 s both)) rows = enough u.0 both rows both_in.within (lies u.0 u.1) in
      contradiction u.0 u.1 t.0 t.2 free

pub few_are_covered : FewAreCovered
few_are_covered n rows gens pair d c k e few = go (is_uncovered rows gens pair) refl
  where
    go : (t : Bool) → is_uncovered rows gens pair ≡ t → is_uncovered rows gens pair ≡ false
    go true h = absurd (no_third n rows gens d pair.plus_side pair.minus_side c k e few
        (all_of_members (Free rows pair) gens (λ g m. free_is rows pair g
        (member_of (λ v. free_test rows pair v ≡ true) gens g (list_all-true (free_test rows pair) gens h) m))))
    go false h = h
