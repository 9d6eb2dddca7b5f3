-- A convex set and the cone of the rows: the set is the slice of the cone at height 1, and its directions that at height 0.
use Rattle.std.proofs.Common.{◌≡◌, ℕ, List, [], ◌∷◌, length, All, refl, sym, ap, ap₂, ◌∙◌, subst, arith, ◌⊎◌, inl, inr, pos}
use Rattle.std.proofs.lemmas.List.Elements.{All-nil, All-cons, All-head, All-tail, All-weaker}
use Rattle.exact_field.specs.Rational.{ℚ, zero_ℚ, one_ℚ, ◌+ℚ◌, ◌*ℚ◌, neg_ℚ, inverse_ℚ, ◌≤ℚ◌, ◌<ℚ◌}
use Rattle.exact_field.specs.Vector.{dot, sum_ℚ}
use Rattle.exact_field.specs.Ring.{v0, v1, v2, v3, ◌⊕◌, ◌⊗◌, ◌⊝◌, num}
use Rattle.exact_field.proofs.RingTool.{ring}
use Rattle.exact_field.proofs.Rationals.{rationals}
use Rattle.polyhedra.specs.Vectors.{zeros, plus, scaled, combination, AtLeastZero}
use Rattle.polyhedra.specs.Inequality.{Inequality}
use Rattle.polyhedra.specs.Hull.{IsConvex, IsValid}
use Rattle.polyhedra.proofs.Laws.{add_zero, mul_comm, le_trans, le_of_lt, mul_nonneg, zero_lt_one, mul_inverse}
use Rattle.polyhedra.proofs.Algebra.{zero_add, zero_mul, cancel}
use Rattle.polyhedra.proofs.Order.{le_or_lt, zero_or_positive, not_lt_of_le, lt_of_lt_of_le, lt_of_difference, le_of_difference, difference_nonneg, add_nonneg, add_positive, not_zero_of_positive, neg_positive, inverse_positive, mul_inverse_cancel}
use Rattle.polyhedra.proofs.Linear.{scaled-one, dot-plus, dot-scaled, dot-zeros, length-plus, length-scaled, length-zeros, same_wide}
use Rattle.polyhedra.proofs.Lists.{nonneg-head, nonneg-tail}

pub less_than_more : (a : ℚ) → a <ℚ a +ℚ one_ℚ
less_than_more a = lt_of_difference a (a +ℚ one_ℚ) one_ℚ zero_lt_one refl

-- a number above each bound
pub above : (cuts : List Inequality) → (top : ℚ) × All (λ e. e.bound <ℚ top) cuts
above [] = (zero_ℚ, All-nil (λ e. e.bound <ℚ zero_ℚ))
above (e ∷ cuts) = go (above cuts)
  where
    go : ((top : ℚ) × All (λ f. f.bound <ℚ top) cuts) → (top : ℚ) × All (λ f. f.bound <ℚ top) (e ∷ cuts)
    go (top, h) = by (le_or_lt top e.bound)
      where
        by : (top ≤ℚ e.bound) ⊎ (e.bound <ℚ top) → (t : ℚ) × All (λ f. f.bound <ℚ t) (e ∷ cuts)
        by (inr k) = (top, All-cons (λ f. f.bound <ℚ top) e cuts k h)
        by (inl k) =
            let t : ℚ = e.bound +ℚ one_ℚ in (
              t,
              All-cons (λ f. f.bound <ℚ t) e cuts (less_than_more e.bound)
                  (All-weaker (λ f. f.bound <ℚ top) (λ f. f.bound <ℚ t)
                  (λ f m. lt_of_lt_of_le f.bound top t m (le_trans top e.bound t k (le_of_lt e.bound t (less_than_more e.bound)))) cuts h),
            )

-- ---- combinations of members of a convex set
module _ (n : ℕ) (Set Directions : List ℚ → Type 0) (convex : IsConvex n Set Directions) where
  pub directions_sum : (ms : List ℚ) (ds : List (List ℚ)) → AtLeastZero ms → All Directions ds → Directions (combination n ms ds)
  directions_sum [] ds h k = convex.direction_zero
  directions_sum (m ∷ ms) [] h k = convex.direction_zero
  directions_sum (m ∷ ms) (d ∷ ds) h k = convex.direction_sum (scaled m d) (combination n ms ds)
      (convex.direction_multiple m d (nonneg-head m ms h) (All-head Directions d ds k))
      (directions_sum ms ds (nonneg-tail m ms h) (All-tail Directions d ds k))

  -- a sum of points with multipliers of at least 0: nothing, or a multiple of a member
  data IsWeighed (ms : List ℚ) (z : List ℚ) : Type 0 where
    nothing : sum_ℚ ms ≡ zero_ℚ → z ≡ zeros n → IsWeighed ms z
    something : (u : List ℚ) → zero_ℚ <ℚ sum_ℚ ms → Set u → z ≡ scaled (sum_ℚ ms) u → IsWeighed ms z

  -- m p and t u together are m + t times their mean
  mean_of : (m t : ℚ) (p u : List ℚ) → zero_ℚ <ℚ m → zero_ℚ <ℚ t → Set p → Set u → (v : List ℚ) × Set v × (plus (scaled m p) (scaled t u) ≡ scaled (m +ℚ t) v)
  mean_of m t p u m_positive t_positive p_in u_in = (
    v,
    convex.mean l p u (mul_nonneg t (inverse_ℚ whole) (le_of_lt zero_ℚ t t_positive)
        (le_of_lt zero_ℚ (inverse_ℚ whole) (inverse_positive whole whole_positive))) l_small p_in u_in,
    same_wide n (plus (scaled m p) (scaled t u)) (scaled whole v)
        (length-plus n (scaled m p) (scaled t u) (length-scaled m p ∙ convex.wide p p_in) (length-scaled t u ∙ convex.wide u u_in))
        (length-scaled whole v ∙ length-plus n (scaled (one_ℚ +ℚ neg_ℚ l) p) (scaled l u) (length-scaled (one_ℚ +ℚ neg_ℚ l) p ∙ convex.wide p p_in)
        (length-scaled l u ∙ convex.wide u u_in))
        (λ r. dot-plus r (scaled m p) (scaled t u) ∙ ap₂ (λ a b. a +ℚ b) (dot-scaled r m p) (dot-scaled r t u)
        ∙ shared (dot r p) (dot r u)
        ∙ sym (dot-scaled r whole v ∙ ap (λ x. whole *ℚ x) (dot-plus r (scaled (one_ℚ +ℚ neg_ℚ l) p) (scaled l u)
        ∙ ap₂ (λ a b. a +ℚ b) (dot-scaled r (one_ℚ +ℚ neg_ℚ l) p) (dot-scaled r l u)))),
  )
    where
      whole : ℚ
      whole = m +ℚ t

      whole_positive : zero_ℚ <ℚ whole
      whole_positive = add_positive m t m_positive (le_of_lt zero_ℚ t t_positive)

      l : ℚ
      l = t *ℚ inverse_ℚ whole

      v : List ℚ
      v = plus (scaled (one_ℚ +ℚ neg_ℚ l) p) (scaled l u)

      whole_l : whole *ℚ l ≡ t
      whole_l = ap (λ x. whole *ℚ x) (mul_comm t (inverse_ℚ whole)) ∙ mul_inverse_cancel whole t whole_positive

      rest_l : l +ℚ m *ℚ inverse_ℚ whole ≡ one_ℚ
      rest_l = ring rationals (t ∷ m ∷ inverse_ℚ whole ∷ []) (v0 ⊗ v2 ⊕ v1 ⊗ v2) ((v1 ⊕ v0) ⊗ v2) refl ∙ mul_inverse whole whole_positive

      l_small : l ≤ℚ one_ℚ
      l_small = le_of_difference l one_ℚ (m *ℚ inverse_ℚ whole)
          (mul_nonneg m (inverse_ℚ whole) (le_of_lt zero_ℚ m m_positive) (le_of_lt zero_ℚ (inverse_ℚ whole) (inverse_positive whole whole_positive))) rest_l

      shared : (a b : ℚ) → m *ℚ a +ℚ t *ℚ b ≡ whole *ℚ ((one_ℚ +ℚ neg_ℚ l) *ℚ a +ℚ l *ℚ b)
      shared a b = sym (ring rationals ((m +ℚ t) ∷ l ∷ a ∷ b ∷ []) (v0 ⊗ ((num (pos 1) ⊝ v1) ⊗ v2 ⊕ v1 ⊗ v3)) ((v0 ⊝ v0 ⊗ v1) ⊗ v2 ⊕ (v0 ⊗ v1) ⊗ v3) refl
          ∙ ap (λ x. (whole +ℚ neg_ℚ x) *ℚ a +ℚ x *ℚ b) whole_l
          ∙ ap (λ x. x *ℚ a +ℚ t *ℚ b) (cancel m t))

  weighed : (ms : List ℚ) (ps : List (List ℚ)) → length ms ≡ length ps → AtLeastZero ms → All Set ps → IsWeighed ms (combination n ms ps)
  weighed [] ps l h k = nothing refl refl
  weighed (m ∷ ms) [] l h k = absurd (omega arith)
  weighed (m ∷ ms) (p ∷ ps) l h k = go (zero_or_positive m (nonneg-head m ms h)) (weighed ms ps (omega arith) (nonneg-tail m ms h) (All-tail Set p ps k))
    where
      p_in : Set p
      p_in = All-head Set p ps k

      rest : List ℚ
      rest = combination n ms ps

      rest_width : length rest ≡ n → length (plus (scaled m p) rest) ≡ n
      rest_width e = length-plus n (scaled m p) rest (length-scaled m p ∙ convex.wide p p_in) e

      -- m is 0
      drop_first : m ≡ zero_ℚ → length rest ≡ n → plus (scaled m p) rest ≡ rest
      drop_first e w = same_wide n (plus (scaled m p) rest) rest (rest_width w) w
          (λ r. dot-plus r (scaled m p) rest ∙ ap (λ x. x +ℚ dot r rest) (dot-scaled r m p ∙ ap (λ x. x *ℚ dot r p) e ∙ zero_mul (dot r p))
          ∙ zero_add (dot r rest))

      same_sum : m ≡ zero_ℚ → m +ℚ sum_ℚ ms ≡ sum_ℚ ms
      same_sum e = ap (λ x. x +ℚ sum_ℚ ms) e ∙ zero_add (sum_ℚ ms)

      go : (m ≡ zero_ℚ) ⊎ (zero_ℚ <ℚ m) → IsWeighed ms rest → IsWeighed (m ∷ ms) (plus (scaled m p) rest)
      go (inl e) (nothing a b) = nothing (same_sum e ∙ a) (drop_first e (ap length b ∙ length-zeros n) ∙ b)
      go (inl e) (something u a b f) = something u (subst (λ (x : ℚ). zero_ℚ <ℚ x) (sym (same_sum e)) a) b
          (drop_first e (ap length f ∙ length-scaled (sum_ℚ ms) u ∙ convex.wide u b) ∙ f ∙ ap (λ x. scaled x u) (sym (same_sum e)))
      go (inr q) (nothing a b) =
          let total : m +ℚ sum_ℚ ms ≡ m = ap (λ x. m +ℚ x) a ∙ add_zero m in
          something p (subst (λ (x : ℚ). zero_ℚ <ℚ x) (sym total) q) p_in
          (same_wide n (plus (scaled m p) rest) (scaled (m +ℚ sum_ℚ ms) p) (rest_width (ap length b ∙ length-zeros n))
          (length-scaled (m +ℚ sum_ℚ ms) p ∙ convex.wide p p_in)
          (λ r. dot-plus r (scaled m p) rest ∙ ap₂ (λ x y. x +ℚ y) (dot-scaled r m p) (ap (λ v. dot r v) b ∙ dot-zeros r n) ∙ add_zero (m *ℚ dot r p)
          ∙ ap (λ x. x *ℚ dot r p) (sym total) ∙ sym (dot-scaled r (m +ℚ sum_ℚ ms) p)))
      go (inr q) (something u a b f) =
          let s : (v : List ℚ) × Set v × (plus (scaled m p) (scaled (sum_ℚ ms) u) ≡ scaled (m +ℚ sum_ℚ ms) v) = mean_of m (sum_ℚ ms) p u q a p_in b in
          something s.0 (add_positive m (sum_ℚ ms) q (le_of_lt zero_ℚ (sum_ℚ ms) a)) s.1 (ap (λ v. plus (scaled m p) v) f ∙ s.2)

  -- a point's part of weight 1 and a direction's part sum to a member
  pub member_from_parts : (ws ss : List ℚ) (ps ds : List (List ℚ)) → length ws ≡ length ps → AtLeastZero ws → AtLeastZero ss → All Set ps →
      All Directions ds → sum_ℚ ws ≡ one_ℚ →
      Set (plus (combination n ws ps) (combination n ss ds))
  member_from_parts ws ss ps ds l h k p d e = go (weighed ws ps l h p)
    where
      go : IsWeighed ws (combination n ws ps) → Set (plus (combination n ws ps) (combination n ss ds))
      go (nothing a b) = absurd (not_zero_of_positive one_ℚ zero_lt_one (sym e ∙ a))
      go (something u a b f) = convex.recedes (combination n ws ps) (combination n ss ds)
          (subst (λ (v : List ℚ). Set v) (sym (f ∙ ap (λ x. scaled x u) e ∙ scaled-one u)) b) (directions_sum ss ds k d)

  -- ---- a valid inequality grows in no direction downwards
  pub direction_value : (e : Inequality) (y d : List ℚ) → IsValid n Set e → Set y → Directions d → zero_ℚ ≤ℚ dot e.normal d
  direction_value e y d valid y_in d_in = go (le_or_lt zero_ℚ (dot e.normal d))
    where
      x : ℚ
      x = dot e.normal y

      slope : ℚ
      slope = neg_ℚ (dot e.normal d)

      room : ℚ
      room = (x +ℚ neg_ℚ e.bound) +ℚ one_ℚ

      room_nonneg : zero_ℚ ≤ℚ room
      room_nonneg = add_nonneg (x +ℚ neg_ℚ e.bound) one_ℚ (difference_nonneg e.bound x (valid.holds y y_in)) (le_of_lt zero_ℚ one_ℚ zero_lt_one)

      below : dot e.normal d <ℚ zero_ℚ → ⊥
      below h =
          let steep : zero_ℚ <ℚ slope = neg_positive (dot e.normal d) h in
          let far : ℚ = inverse_ℚ slope *ℚ room in
          let far_nonneg : zero_ℚ ≤ℚ far = mul_nonneg (inverse_ℚ slope) room (le_of_lt zero_ℚ (inverse_ℚ slope) (inverse_positive slope steep)) room_nonneg in
          let there : Set (plus y (scaled far d)) = convex.recedes y (scaled far d) y_in (convex.direction_multiple far d far_nonneg d_in) in
          let value : dot e.normal (plus y (scaled far d)) +ℚ one_ℚ ≡ e.bound =
          ap (λ a. a +ℚ one_ℚ) (dot-plus e.normal y (scaled far d) ∙ ap (λ a. x +ℚ a) (dot-scaled e.normal far d ∙ mul_comm far (dot e.normal d)))
          ∙ ring rationals (x ∷ dot e.normal d ∷ far ∷ []) ((v0 ⊕ v1 ⊗ v2) ⊕ num (pos 1)) ((v0 ⊝ (num (pos 0) ⊝ v1) ⊗ v2) ⊕ num (pos 1)) refl
          ∙ ap (λ a. (x +ℚ neg_ℚ (a *ℚ far)) +ℚ one_ℚ) (zero_add slope)
          ∙ ap (λ a. (x +ℚ neg_ℚ a) +ℚ one_ℚ) (mul_inverse_cancel slope room steep)
          ∙ ring rationals (x ∷ e.bound ∷ []) ((v0 ⊝ ((v0 ⊝ v1) ⊕ num (pos 1))) ⊕ num (pos 1)) v1 refl in
          not_lt_of_le e.bound (dot e.normal (plus y (scaled far d))) (valid.holds (plus y (scaled far d)) there)
          (lt_of_difference (dot e.normal (plus y (scaled far d))) e.bound one_ℚ zero_lt_one value)

      go : (zero_ℚ ≤ℚ dot e.normal d) ⊎ (dot e.normal d <ℚ zero_ℚ) → zero_ℚ ≤ℚ dot e.normal d
      go (inl h) = h
      go (inr h) = absurd (below h)
