-- Combinations whose multipliers are 0 but at the vectors that pass a test, and sums of hulls'
-- multipliers.
use Rattle.std.proofs.Common.{◌≡◌, suc, List, [], ◌∷◌, length, All, filter, cond, refl, sym, ap, ◌∙◌, subst, arith, ◌⊎◌, inl, inr, Bool, true, false, true≢false, pos}
use Rattle.std.proofs.lemmas.List.Elements.{All-head, All-tail}
use Rattle.exact_field.specs.Rational.{ℚ, zero_ℚ, ◌+ℚ◌, ◌*ℚ◌, neg_ℚ, ◌≤ℚ◌, ◌<ℚ◌}
use Rattle.exact_field.specs.Vector.{dot, sum_ℚ}
use Rattle.exact_field.specs.Ring.{v0, v1, v2, v3, v4, ◌⊕◌, ◌⊗◌, ◌⊝◌, num}
use Rattle.exact_field.proofs.RingTool.{ring}
use Rattle.exact_field.proofs.Rationals.{rationals, same_from_difference}
use Rattle.polyhedra.specs.Vectors.{values, AtLeastZero}
use Rattle.polyhedra.proofs.Laws.{le_refl, mul_nonneg}
use Rattle.polyhedra.proofs.Algebra.{zero_add, zero_mul}
use Rattle.polyhedra.proofs.Order.{zero_or_positive, add_nonneg, add_zero_left, add_zero_right, difference_nonneg, product_zero}
use Rattle.polyhedra.proofs.Linear.{dot_comm}
use Rattle.polyhedra.proofs.Lists.{nonneg-nil, nonneg-cons, nonneg-head, nonneg-tail}
use Rattle.polyhedra.proofs.Support.{InSupport}

-- multipliers of other vectors that combine them to the same, and have the same sum
pub record IsRead (ms : List ℚ) (vs us : List (List ℚ)) : Type 0 where
  pub multipliers : List ℚ
  pub one_each : length multipliers ≡ length us
  pub nonneg : AtLeastZero multipliers
  pub total : sum_ℚ multipliers ≡ sum_ℚ ms
  pub value : (r : List ℚ) → dot multipliers (values us r) ≡ dot ms (values vs r)

module _ (test : List ℚ → Bool) where
  -- the vectors that fail have multiplier 0, and are left out
  pub thinned : (ms : List ℚ) (vs : List (List ℚ)) → length ms ≡ length vs → AtLeastZero ms → ((v : List ℚ) → InSupport ms vs v → test v ≡ true) →
      IsRead ms vs (filter test vs)
  thinned [] [] l h k = record { multipliers = []; one_each = refl; nonneg = nonneg-nil; total = refl; value = λ r. refl }
  thinned [] (v ∷ vs) l h k = absurd (omega arith)
  thinned (m ∷ ms) [] l h k = absurd (omega arith)
  thinned (m ∷ ms) (v ∷ vs) l h k = go (test v) refl (thinned ms vs (omega arith) (nonneg-tail m ms h) (λ u s. k u (inr s)))
    where
      m_nonneg : zero_ℚ ≤ℚ m
      m_nonneg = nonneg-head m ms h

      nothing : test v ≡ false → m ≡ zero_ℚ
      nothing t = by (zero_or_positive m m_nonneg)
        where
          by : (m ≡ zero_ℚ) ⊎ (zero_ℚ <ℚ m) → m ≡ zero_ℚ
          by (inl e) = e
          by (inr p) = absurd (true≢false (sym (k v (inl (p, refl))) ∙ t))

      go : (b : Bool) → test v ≡ b → IsRead ms vs (filter test vs) → IsRead (m ∷ ms) (v ∷ vs) (cond b (v ∷ filter test vs) (filter test vs))
      go true t g = record {
        multipliers = m ∷ g.multipliers;
        one_each = ap suc g.one_each;
        nonneg = nonneg-cons m g.multipliers m_nonneg g.nonneg;
        total = ap (λ x. m +ℚ x) g.total;
        value = λ r. ap (λ x. m *ℚ dot v r +ℚ x) (g.value r);
      }
      go false t g = record {
        multipliers = g.multipliers;
        one_each = g.one_each;
        nonneg = g.nonneg;
        total = g.total ∙ sym (ap (λ x. x +ℚ sum_ℚ ms) (nothing t) ∙ zero_add (sum_ℚ ms));
        value = λ r. g.value r ∙ sym (ap (λ x. x *ℚ dot v r +ℚ dot ms (values vs r)) (nothing t)
            ∙ ap (λ x. x +ℚ dot ms (values vs r)) (zero_mul (dot v r)) ∙ zero_add (dot ms (values vs r)));
      }

  -- the vectors that fail are put back with multiplier 0
  pub widened : (vs : List (List ℚ)) (ms : List ℚ) → length ms ≡ length (filter test vs) → AtLeastZero ms → IsRead ms (filter test vs) vs
  widened [] [] l h = record { multipliers = []; one_each = refl; nonneg = nonneg-nil; total = refl; value = λ r. refl }
  widened [] (m ∷ ms) l h = absurd (omega arith)
  widened (v ∷ vs) ms l h = go (test v) ms l h (λ ls e k. widened vs ls e k)
    where
      go : (b : Bool) (ls : List ℚ) → length ls ≡ length (cond b (v ∷ filter test vs) (filter test vs)) → AtLeastZero ls →
          ((ls : List ℚ) → length ls ≡ length (filter test vs) → AtLeastZero ls → IsRead ls (filter test vs) vs) →
          IsRead ls (cond b (v ∷ filter test vs) (filter test vs)) (v ∷ vs)
      go true [] e k again = absurd (omega arith)
      go true (m ∷ ls) e k again =
          let g : IsRead ls (filter test vs) vs = again ls (omega arith) (nonneg-tail m ls k) in
          record {
            multipliers = m ∷ g.multipliers;
            one_each = ap suc g.one_each;
            nonneg = nonneg-cons m g.multipliers (nonneg-head m ls k) g.nonneg;
            total = ap (λ x. m +ℚ x) g.total;
            value = λ r. ap (λ x. m *ℚ dot v r +ℚ x) (g.value r);
          }
      go false ls e k again =
          let g : IsRead ls (filter test vs) vs = again ls e k in
          record {
            multipliers = zero_ℚ ∷ g.multipliers;
            one_each = ap suc g.one_each;
            nonneg = nonneg-cons zero_ℚ g.multipliers (le_refl zero_ℚ) g.nonneg;
            total = zero_add (sum_ℚ g.multipliers) ∙ g.total;
            value = λ r. ap (λ x. x +ℚ dot g.multipliers (values vs r)) (zero_mul (dot v r)) ∙ zero_add (dot g.multipliers (values vs r)) ∙ g.value r;
          }

-- ---- what a sum exceeds its least value by
module _ (f : List ℚ) (b : ℚ) where
  abbrev AtLeast : List ℚ → Type 0
  AtLeast v = b ≤ℚ dot f v

  unfoldable pub excess : List ℚ → List (List ℚ) → ℚ
  excess ms vs = dot ms (values vs f) +ℚ neg_ℚ (sum_ℚ ms *ℚ b)

  excess_cons : (m : ℚ) (ms : List ℚ) (v : List ℚ) (vs : List (List ℚ)) → excess (m ∷ ms) (v ∷ vs) ≡ m *ℚ (dot f v +ℚ neg_ℚ b) +ℚ excess ms vs
  unfolding excess
  excess_cons m ms v vs =
      ap (λ x. (m *ℚ x +ℚ dot ms (values vs f)) +ℚ neg_ℚ ((m +ℚ sum_ℚ ms) *ℚ b)) (dot_comm v f)
      ∙ ring rationals (m ∷ dot f v ∷ dot ms (values vs f) ∷ sum_ℚ ms ∷ b ∷ []) ((v0 ⊗ v1 ⊕ v2) ⊝ (v0 ⊕ v3) ⊗ v4) (v0 ⊗ (v1 ⊝ v4) ⊕ (v2 ⊝ v3 ⊗ v4)) refl

  pub excess_nonneg : (ms : List ℚ) (vs : List (List ℚ)) → length ms ≡ length vs → AtLeastZero ms → All AtLeast vs → zero_ℚ ≤ℚ excess ms vs
  unfolding excess
  excess_nonneg [] vs l h k = subst (λ (x : ℚ). zero_ℚ ≤ℚ x) (sym (ring rationals (b ∷ []) (num (pos 0) ⊝ num (pos 0) ⊗ v0) (num (pos 0)) refl)) (le_refl zero_ℚ)
  excess_nonneg (m ∷ ms) [] l h k = absurd (omega arith)
  excess_nonneg (m ∷ ms) (v ∷ vs) l h k = subst (λ (x : ℚ). zero_ℚ ≤ℚ x) (sym (excess_cons m ms v vs))
      (add_nonneg (m *ℚ (dot f v +ℚ neg_ℚ b)) (excess ms vs)
      (mul_nonneg m (dot f v +ℚ neg_ℚ b) (nonneg-head m ms h) (difference_nonneg b (dot f v) (All-head AtLeast v vs k)))
      (excess_nonneg ms vs (omega arith) (nonneg-tail m ms h) (All-tail AtLeast v vs k)))

  -- where there is none, each vector with a positive multiplier has the least value
  pub excess_support : (ms : List ℚ) (vs : List (List ℚ)) → length ms ≡ length vs → AtLeastZero ms → All AtLeast vs → excess ms vs ≡ zero_ℚ →
      (v : List ℚ) → InSupport ms vs v → dot f v ≡ b
  excess_support [] vs l h k e u s = absurd s
  excess_support (m ∷ ms) [] l h k e u s = absurd s
  excess_support (m ∷ ms) (v ∷ vs) l h k e u s = go s (λ z t. excess_support ms vs (omega arith) (nonneg-tail m ms h) (All-tail AtLeast v vs k) z u t)
    where
      first : zero_ℚ ≤ℚ m *ℚ (dot f v +ℚ neg_ℚ b)
      first = mul_nonneg m (dot f v +ℚ neg_ℚ b) (nonneg-head m ms h) (difference_nonneg b (dot f v) (All-head AtLeast v vs k))

      others : zero_ℚ ≤ℚ excess ms vs
      others = excess_nonneg ms vs (omega arith) (nonneg-tail m ms h) (All-tail AtLeast v vs k)

      whole : m *ℚ (dot f v +ℚ neg_ℚ b) +ℚ excess ms vs ≡ zero_ℚ
      whole = sym (excess_cons m ms v vs) ∙ e

      go : ((zero_ℚ <ℚ m) × (v ≡ u)) ⊎ InSupport ms vs u → (excess ms vs ≡ zero_ℚ → InSupport ms vs u → dot f u ≡ b) → dot f u ≡ b
      go (inl t) again = ap (λ w. dot f w) (sym t.1) ∙ same_from_difference (dot f v) b
          (product_zero m (dot f v +ℚ neg_ℚ b) t.0 (add_zero_left (m *ℚ (dot f v +ℚ neg_ℚ b)) (excess ms vs) first others whole))
      go (inr t) again = again (add_zero_right (m *ℚ (dot f v +ℚ neg_ℚ b)) (excess ms vs) first others whole) t
