-- An extreme direction that is a combination of directions is a multiple of one of them; and a
-- vector along which a hull goes on for ever is a combination of its directions and lines.
use Rattle.std.proofs.Common.{◌≡◌, ℕ, zero, suc, List, [], ◌∷◌, ◌++◌, map, length, All, Contains, refl, sym, ap, ap₂, ◌∙◌, subst, arith, ◌⊎◌, inl, inr, pos}
use Rattle.std.proofs.lemmas.List.Elements.{All-nil, All-cons, All-head, All-tail, All-append, All-map, All-weaker, Contains-append_left, Contains-append_right}
use Rattle.exact_field.specs.Rational.{ℚ, zero_ℚ, one_ℚ, ◌+ℚ◌, ◌*ℚ◌, neg_ℚ, inverse_ℚ, ◌≤ℚ◌, ◌<ℚ◌}
use Rattle.exact_field.specs.Ring.{v0, v1, v2, ◌⊕◌, ◌⊗◌, ◌⊝◌, ⊖, num}
use Rattle.exact_field.specs.Vector.{dot, sum_ℚ}
use Rattle.exact_field.proofs.RingTool.{ring}
use Rattle.exact_field.proofs.Rationals.{rationals}
use Rattle.polyhedra.specs.Cone.{IsGenerated}
use Rattle.polyhedra.specs.Exactness.{homogenised}
use Rattle.polyhedra.specs.Farkas.{IsSeparated}
use Rattle.polyhedra.specs.Hull.{IsInHull, IsConvex, IsMultiple, IsExtremeDirection, IsNormedDirection}
use Rattle.polyhedra.specs.Negatives.{negated}
use Rattle.polyhedra.specs.Vectors.{AreWide, AtLeastZero, zeros, plus, scaled, values}
use Rattle.polyhedra.proofs.Laws.{add_zero, le_refl, le_trans, le_of_lt, mul_nonneg, zero_lt_one}
use Rattle.polyhedra.proofs.Algebra.{mul_zero, zero_mul, one_mul}
use Rattle.polyhedra.proofs.Order.{le_or_lt, le_of_eq, not_lt_of_le, zero_or_positive, add_nonneg, add_zero_left, add_zero_right, add_le_both, difference_nonneg, lt_of_difference, mul_le, mul_positive, mul_inverse_cancel, inverse_positive, neg_positive, square_zero, square_nonneg}
use Rattle.polyhedra.proofs.Linear.{dot_comm, dot-plus, dot-scaled, length-scaled, same_wide}
use Rattle.polyhedra.proofs.Lists.{HoldsAt, HasWidth, nonneg-head, nonneg-tail, values_nonneg}
use Rattle.polyhedra.proofs.Members.{all_of_members, member_of, Contains-map}
use Rattle.polyhedra.proofs.Farkas.{farkas}
use Rattle.polyhedra.proofs.Generated.{generated_value}
use Rattle.polyhedra.proofs.Support.{InSupport, support_listed, support_positive, dot_nonneg}
use Rattle.polyhedra.proofs.Homogenised.{scaled-homogenised, homogenised-same, direction_normed}
use Rattle.polyhedra.proofs.Norming.{normed_same}
use Rattle.polyhedra.proofs.Cones.{IsSplit, split_support}
use Rattle.polyhedra.proofs.ConvexSets.{directions_sum}
use Rattle.polyhedra.proofs.Negatives.{dot-negated_left}
use Rattle.lineality.proofs.Lineality.{length-negated}
use Rattle.representations.proofs.Faces.{hull_value}
use Rattle.representations.proofs.Pinned.{values_none, both_ways}

-- ---- the product with itself
self_nonneg : (d : List ℚ) → zero_ℚ ≤ℚ dot d d
self_nonneg [] = le_refl zero_ℚ
self_nonneg (x ∷ d) = add_nonneg (x *ℚ x) (dot d d) (square_nonneg x) (self_nonneg d)

self_zero : (n : ℕ) (d : List ℚ) → length d ≡ n → dot d d ≡ zero_ℚ → d ≡ zeros n
self_zero zero [] w e = refl
self_zero zero (x ∷ d) w e = absurd (omega arith)
self_zero (suc n) [] w e = absurd (omega arith)
self_zero (suc n) (x ∷ d) w e =
    ap₂ (λ a b. a ∷ b) (square_zero x (add_zero_left (x *ℚ x) (dot d d) (square_nonneg x) (self_nonneg d) e))
    (self_zero n d (omega arith) (add_zero_right (x *ℚ x) (dot d d) (square_nonneg x) (self_nonneg d) e))

self_positive : (n : ℕ) (d : List ℚ) → length d ≡ n → (d ≡ zeros n → ⊥) → zero_ℚ <ℚ dot d d
self_positive n d w h = go (zero_or_positive (dot d d) (self_nonneg d))
  where
    go : (dot d d ≡ zero_ℚ) ⊎ (zero_ℚ <ℚ dot d d) → zero_ℚ <ℚ dot d d
    go (inl e) = absurd (h (self_zero n d w e))
    go (inr p) = p

-- ---- normed directions on one ray
pub same_normed : (q : ℚ) (d h : List ℚ) → zero_ℚ <ℚ q → h ≡ scaled q d → IsNormedDirection d → IsNormedDirection h → h ≡ d
same_normed q d h p e d_normed h_normed = (homogenised-same h d zero_ℚ zero_ℚ (normed_same q (homogenised d zero_ℚ) (homogenised h zero_ℚ) p
    (ap (λ v. homogenised v zero_ℚ) e ∙ ap (homogenised (scaled q d)) (sym (mul_zero q)) ∙ sym (scaled-homogenised q d zero_ℚ))
    (direction_normed d d_normed) (direction_normed h h_normed))).0

-- ---- an extreme direction among directions
-- one of the vectors is a positive multiple of d
pub record IsAmong (gs : List (List ℚ)) (d : List ℚ) : Type 0 where
  pub one : List ℚ
  pub listed : Contains gs one
  pub factor : ℚ
  pub positive : zero_ℚ <ℚ factor
  pub same : one ≡ scaled factor d

module _ (n : ℕ) (Set Directions : List ℚ → Type 0) (convex : IsConvex n Set Directions) (gs : List (List ℚ)) (in_directions : All Directions gs)
    (d : List ℚ) (extreme : IsExtremeDirection n Directions d) where
  d_width : length d ≡ n
  d_width = convex.directions_wide d extreme.member

  gs_wide : AreWide n gs
  gs_wide = record { wide = all_of_members (HasWidth n) gs (λ g m. convex.directions_wide g (member_of Directions gs g in_directions m)) }

  pub extreme_among : IsGenerated n gs d → IsAmong gs d
  extreme_among s = first (support_positive s.multipliers gs d s.at_least_zero
      (subst (λ (x : ℚ). zero_ℚ <ℚ x) (generated_value n gs d s d) dd_positive))
    where
      dd_positive : zero_ℚ <ℚ dot d d
      dd_positive = self_positive n d d_width extreme.not_zero

      first : ((v : List ℚ) × InSupport s.multipliers gs v × (zero_ℚ <ℚ dot v d)) → IsAmong gs d
      first (v, m, p) =
          let t : IsSplit n gs d v = split_support n gs d v gs_wide s m in
          let listed : Contains gs v = support_listed s.multipliers gs v m in
          let v_in : Directions v = member_of Directions gs v in_directions listed in
          let others_in : Directions t.others = subst Directions (sym t.others_is.combined)
          (directions_sum n Set Directions convex t.others_is.multipliers gs t.others_is.at_least_zero in_directions) in
          let part_in : Directions (scaled t.factor v) = convex.direction_multiple t.factor v (le_of_lt zero_ℚ t.factor t.positive) v_in in
          let k : IsMultiple d (scaled t.factor v) = (extreme.no_sum (scaled t.factor v) t.others part_in others_in t.same).0 in
          let values_same : (r : List ℚ) → t.factor *ℚ dot r v ≡ k.factor *ℚ dot r d = λ r. sym (dot-scaled r t.factor v) ∙ ap (dot r) k.same ∙ dot-scaled r k.factor d in
          let dv_positive : zero_ℚ <ℚ dot d v = subst (λ (x : ℚ). zero_ℚ <ℚ x) (dot_comm v d) p in
          let k_positive : zero_ℚ <ℚ k.factor = subst (λ (x : ℚ). zero_ℚ <ℚ x)
          (ring rationals (inverse_ℚ (dot d d) ∷ k.factor ∷ dot d d ∷ []) (v0 ⊗ (v1 ⊗ v2)) (v2 ⊗ (v0 ⊗ v1)) refl ∙ mul_inverse_cancel (dot d d) k.factor dd_positive)
          (mul_positive (inverse_ℚ (dot d d)) (k.factor *ℚ dot d d) (inverse_positive (dot d d) dd_positive)
          (subst (λ (x : ℚ). zero_ℚ <ℚ x) (values_same d) (mul_positive t.factor (dot d v) t.positive dv_positive))) in
          record {
            one = v;
            listed = listed;
            factor = inverse_ℚ t.factor *ℚ k.factor;
            positive = mul_positive (inverse_ℚ t.factor) k.factor (inverse_positive t.factor t.positive) k_positive;
            same = same_wide n v (scaled (inverse_ℚ t.factor *ℚ k.factor) d) (convex.directions_wide v v_in) (length-scaled (inverse_ℚ t.factor *ℚ k.factor) d ∙ d_width)
                (λ r. sym (mul_inverse_cancel t.factor (dot r v) t.positive)
                ∙ ring rationals (t.factor ∷ inverse_ℚ t.factor ∷ dot r v ∷ []) (v0 ⊗ (v1 ⊗ v2)) (v1 ⊗ (v0 ⊗ v2)) refl
                ∙ ap (λ q. inverse_ℚ t.factor *ℚ q) (values_same r)
                ∙ ring rationals (inverse_ℚ t.factor ∷ k.factor ∷ dot r d ∷ []) (v0 ⊗ (v1 ⊗ v2)) ((v0 ⊗ v1) ⊗ v2) refl
                ∙ sym (dot-scaled r (inverse_ℚ t.factor *ℚ k.factor) d));
          }

-- ---- along which a hull goes on for ever
-- a number that is at most each product
lowest : (w : List ℚ) (ps : List (List ℚ)) → (m : ℚ) × All (λ p. m ≤ℚ dot p w) ps
lowest w [] = (zero_ℚ, All-nil (λ p. zero_ℚ ≤ℚ dot p w))
lowest w (p ∷ ps) = go (lowest w ps)
  where
    go : ((m : ℚ) × All (λ v. m ≤ℚ dot v w) ps) → (m : ℚ) × All (λ v. m ≤ℚ dot v w) (p ∷ ps)
    go (m, h) = by (le_or_lt m (dot p w))
      where
        by : (m ≤ℚ dot p w) ⊎ (dot p w <ℚ m) → (t : ℚ) × All (λ v. t ≤ℚ dot v w) (p ∷ ps)
        by (inl a) = (m, All-cons (λ v. m ≤ℚ dot v w) p ps a h)
        by (inr a) = (
          dot p w,
          All-cons (λ v. dot p w ≤ℚ dot v w) p ps (le_refl (dot p w))
              (All-weaker (λ v. m ≤ℚ dot v w) (λ v. dot p w ≤ℚ dot v w) (λ v b. le_trans (dot p w) m (dot v w) (le_of_lt (dot p w) m a) b) ps h),
        )

-- so is it for a mean
mean_low : (ws : List ℚ) (ps : List (List ℚ)) (w : List ℚ) (m : ℚ) → length ws ≡ length ps → AtLeastZero ws → All (λ p. m ≤ℚ dot p w) ps →
    sum_ℚ ws *ℚ m ≤ℚ dot ws (values ps w)
mean_low [] ps w m l h k = le_of_eq (zero_ℚ *ℚ m) zero_ℚ (zero_mul m)
mean_low (a ∷ ws) [] w m l h k = absurd (omega arith)
mean_low (a ∷ ws) (p ∷ ps) w m l h k =
    subst (λ (q : ℚ). q ≤ℚ a *ℚ dot p w +ℚ dot ws (values ps w)) (ring rationals (a ∷ sum_ℚ ws ∷ m ∷ []) (v0 ⊗ v2 ⊕ v1 ⊗ v2) ((v0 ⊕ v1) ⊗ v2) refl)
    (add_le_both (a *ℚ m) (a *ℚ dot p w) (sum_ℚ ws *ℚ m) (dot ws (values ps w))
    (mul_le a m (dot p w) (nonneg-head a ws h) (All-head (λ v. m ≤ℚ dot v w) p ps k))
    (mean_low ws ps w m (omega arith) (nonneg-tail a ws h) (All-tail (λ v. m ≤ℚ dot v w) p ps k)))

module _ (n : ℕ) (ps ds ls : List (List ℚ)) (ds_wide : AreWide n ds) (ls_wide : AreWide n ls) (p d : List ℚ) (p_in : Contains ps p) (d_width : length d ≡ n)
    (onward : (t : ℚ) → zero_ℚ ≤ℚ t → IsInHull n ps ds ls (plus p (scaled t d))) where
  abbrev all : List (List ℚ)
  all = ds ++ (ls ++ map negated ls)

  all_wide : AreWide n all
  all_wide = record {
    wide = All-append (HasWidth n) ds (ls ++ map negated ls) ds_wide.wide (All-append (HasWidth n) ls (map negated ls) ls_wide.wide
        (All-map (HasWidth n) negated ls (All-weaker (HasWidth n) (λ v. length (negated v) ≡ n) (λ v e. length-negated v ∙ e) ls ls_wide.wide)));
  }

  -- else some vector separates d from them, and far along d the hull is left
  missed : IsSeparated n all d → ⊥
  missed s =
      let w : List ℚ = s.vector in
      let b : ℚ = neg_ℚ (dot d w) in
      let b_positive : zero_ℚ <ℚ b = neg_positive (dot d w) s.below in
      let low : (m : ℚ) × All (λ v. m ≤ℚ dot v w) ps = lowest w ps in
      let m : ℚ = low.0 in
      let a : ℚ = dot p w in
      let above_m : zero_ℚ ≤ℚ a +ℚ neg_ℚ m = difference_nonneg m a (member_of (λ v. m ≤ℚ dot v w) ps p low.1 p_in) in
      let t : ℚ = inverse_ℚ b *ℚ ((a +ℚ neg_ℚ m) +ℚ one_ℚ) in
      let t_nonneg : zero_ℚ ≤ℚ t = mul_nonneg (inverse_ℚ b) ((a +ℚ neg_ℚ m) +ℚ one_ℚ) (le_of_lt zero_ℚ (inverse_ℚ b) (inverse_positive b b_positive))
      (add_nonneg (a +ℚ neg_ℚ m) one_ℚ above_m (le_of_lt zero_ℚ one_ℚ zero_lt_one)) in
      let y : List ℚ = plus p (scaled t d) in
      let h : IsInHull n ps ds ls y = onward t t_nonneg in
      let holds : (v : List ℚ) → Contains all v → zero_ℚ ≤ℚ dot v w = λ v k. member_of (HoldsAt w) all v s.in_cone.within k in
      let at_points : m ≤ℚ dot h.weights (values ps w) = subst (λ (q : ℚ). q ≤ℚ dot h.weights (values ps w)) (ap (λ q. q *ℚ m) h.weights_whole ∙ one_mul m)
      (mean_low h.weights ps w m h.weight_each h.weights_at_least_zero low.1) in
      let at_directions : zero_ℚ ≤ℚ dot h.shares (values ds w) = dot_nonneg h.shares (values ds w) h.shares_at_least_zero
      (values_nonneg ds w (all_of_members (HoldsAt w) ds (λ v k. holds v (Contains-append_left ds (ls ++ map negated ls) v k)))) in
      let at_lines : dot h.slopes (values ls w) ≡ zero_ℚ = values_none h.slopes ls w (all_of_members (λ v. dot v w ≡ zero_ℚ) ls (λ v k.
      both_ways (dot v w) (holds v (Contains-append_right ds (ls ++ map negated ls) v (Contains-append_left ls (map negated ls) v k)))
      (subst (λ (x : ℚ). zero_ℚ ≤ℚ x) (dot-negated_left v w) (holds (negated v) (Contains-append_right ds (ls ++ map negated ls) (negated v)
      (Contains-append_right ls (map negated ls) (negated v) (Contains-map negated ls v k))))))) in
      let value : dot w y ≡ m +ℚ neg_ℚ one_ℚ =
      dot-plus w p (scaled t d) ∙ ap₂ (λ x z. x +ℚ z) (dot_comm w p) (dot-scaled w t d ∙ ap (λ x. t *ℚ x) (dot_comm w d))
      ∙ ring rationals (a ∷ t ∷ dot d w ∷ []) (v0 ⊕ v1 ⊗ v2) (v0 ⊝ ⊖ v2 ⊗ v1) refl
      ∙ ap (λ x. a +ℚ neg_ℚ x) (mul_inverse_cancel b ((a +ℚ neg_ℚ m) +ℚ one_ℚ) b_positive)
      ∙ ring rationals (a ∷ m ∷ []) (v0 ⊝ ((v0 ⊕ ⊖ v1) ⊕ num (pos 1))) (v1 ⊕ ⊖ (num (pos 1))) refl in
      let total : m +ℚ (zero_ℚ +ℚ zero_ℚ) ≤ℚ dot w y = subst (λ (q : ℚ). m +ℚ (zero_ℚ +ℚ zero_ℚ) ≤ℚ q) (sym (hull_value n ps ds ls y h w))
      (add_le_both m (dot h.weights (values ps w)) (zero_ℚ +ℚ zero_ℚ) (dot h.shares (values ds w) +ℚ dot h.slopes (values ls w)) at_points
      (add_le_both zero_ℚ (dot h.shares (values ds w)) zero_ℚ (dot h.slopes (values ls w)) at_directions (le_of_eq zero_ℚ (dot h.slopes (values ls w)) (sym at_lines)))) in
      not_lt_of_le m (m +ℚ neg_ℚ one_ℚ)
      (subst (λ (q : ℚ). m ≤ℚ q) value (subst (λ (q : ℚ). q ≤ℚ dot w y) (ap (λ q. m +ℚ q) (add_zero zero_ℚ) ∙ add_zero m) total))
      (lt_of_difference (m +ℚ neg_ℚ one_ℚ) m one_ℚ zero_lt_one (ring rationals (m ∷ []) ((v0 ⊕ ⊖ (num (pos 1))) ⊕ num (pos 1)) v0 refl))

  pub recedes_among : IsGenerated n all d
  recedes_among = go (farkas n all d all_wide d_width)
    where
      go : IsGenerated n all d ⊎ IsSeparated n all d → IsGenerated n all d
      go (inl g) = g
      go (inr s) = absurd (missed s)
