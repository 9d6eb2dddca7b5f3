-- Generators that describe a cone: they are distinct, and the normed extreme directions; and the dual at them.
use Rattle.std.proofs.Common.{◌≡◌, ℕ, List, All, Contains, sym, ap, ◌∙◌, subst, ◌⊎◌, inl, inr}
use Rattle.exact_field.specs.Rational.{ℚ, zero_ℚ, ◌*ℚ◌, neg_ℚ, inverse_ℚ, ◌≤ℚ◌, ◌<ℚ◌}
use Rattle.exact_field.specs.Vector.{dot}
use Rattle.polyhedra.specs.Vectors.{zeros, plus, scaled}
use Rattle.polyhedra.specs.Cone.{IsGenerated, IsInCone, IsInDual}
use Rattle.polyhedra.specs.TightSets.{IsTight, AreApart, IsDoubleDescriptionPair}
use Rattle.polyhedra.specs.DoubleDescription.{meeting, IsNormed}
use Rattle.polyhedra.specs.Hull.{IsMultiple, IsExtremeDirection}
use Rattle.polyhedra.proofs.Laws.{le_of_lt, mul_comm, mul_assoc}
use Rattle.polyhedra.proofs.Algebra.{zero_mul}
use Rattle.polyhedra.proofs.Order.{Sign, negative, none, positive, sign_of, lt_irrefl, lt_trans, not_zero_of_positive, add_zero_left, product_zero, mul_inverse_cancel, mul_negative}
use Rattle.polyhedra.proofs.Linear.{dot_comm, dot-plus, dot-scaled, plus_comm, length-scaled, same_wide}
use Rattle.polyhedra.proofs.Lists.{HoldsAt, HasWidth}
use Rattle.polyhedra.proofs.Members.{all_of_members, member_of, pairs-weaker}
use Rattle.polyhedra.proofs.TightRows.{tight_or_positive}
use Rattle.polyhedra.proofs.LeastQuotient.{IsPositiveSomewhere}
use Rattle.polyhedra.proofs.Generated.{generated_value, generated_scaled, generated_generator}
use Rattle.polyhedra.proofs.Support.{InSupport, support_listed, support_positive}
use Rattle.polyhedra.proofs.Farkas.{generated_nonneg}
use Rattle.polyhedra.proofs.Norming.{norm_factor, norm_factor-positive, normed_same}
use Rattle.polyhedra.proofs.Duality.{dual_cones}
use Rattle.polyhedra.proofs.Cones.{IsSplit, split_support, IsOnRay, ray_of, generated_in, gens_same}
use Rattle.polyhedra.proofs.CoveredPairs.{moved_value, moved_tight, moved_tight_left, moved_tight_right, moved_in}
use Rattle.polyhedra.proofs.NewGenerators.{crossing, factor_positive, normed_tight}
use Rattle.polyhedra.specs.Generators.{DescribedAreDistinct, TightAtMeeting, DescribedAreExtreme, DualOfDescribed}

pub described_are_distinct : DescribedAreDistinct
described_are_distinct n rows gens d = record {
  once = pairs-weaker (AreApart rows) (λ a b. a ≡ b → ⊥) gens (λ a b h k m e.
      m.first (all_of_members (λ r. IsTight r a → IsTight r b) rows (λ r c t. ap (λ v. dot r v) (sym e) ∙ t))) d.apart;
  by_tight_set = λ a b h k l. gens_same n rows gens d a b h k l;
}

-- ---- a meeting point
pub tight_at_meeting : TightAtMeeting
tight_at_meeting n rows gens row p m d p_listed m_listed p_positive m_negative = record {
  new_row = normed_tight point row (moved_value p m row t ∙ crossing row p m m_negative);
  in_use = λ r c. (
    λ e. let tight : IsTight r point = product_zero (norm_factor point) (dot r point) factor (sym (dot-scaled r (norm_factor point) point) ∙ e) in
        (left r c tight, right r c tight),
    λ b. normed_tight point r (moved_tight p m r t b.0 b.1),
  );
}
  where
    point : List ℚ
    point = meeting row p m

    t : ℚ
    t = dot row p *ℚ inverse_ℚ (neg_ℚ (dot row m))

    t_positive : zero_ℚ <ℚ t
    t_positive = factor_positive row p m p_positive m_negative

    p_in : IsInCone n rows p
    p_in = member_of (IsInCone n rows) gens p d.inside p_listed

    m_in : IsInCone n rows m
    m_in = member_of (IsInCone n rows) gens m d.inside m_listed

    left : (r : List ℚ) → Contains rows r → IsTight r point → IsTight r p
    left r c e = moved_tight_left p m r t t_positive (member_of (HoldsAt p) rows r p_in.within c) (member_of (HoldsAt m) rows r m_in.within c) e

    right : (r : List ℚ) → Contains rows r → IsTight r point → IsTight r m
    right r c e = moved_tight_right p m r t t_positive (member_of (HoldsAt p) rows r p_in.within c) (member_of (HoldsAt m) rows r m_in.within c) e

    not_same : p ≡ m → ⊥
    not_same e = lt_irrefl zero_ℚ (lt_trans zero_ℚ (dot row m) zero_ℚ (subst (λ (v : List ℚ). zero_ℚ <ℚ dot row v) e p_positive) m_negative)

    -- were every row tight at the meeting point, all would be at both
    factor : zero_ℚ <ℚ norm_factor point
    factor = go (tight_or_positive rows point (moved_in n rows p m t t_positive p_in m_in).within)
      where
        go : All (λ r. IsTight r point) rows ⊎ IsPositiveSomewhere rows point → zero_ℚ <ℚ norm_factor point
        go (inl h) = absurd (not_same (gens_same n rows gens d p m p_listed m_listed
            (all_of_members (λ r. IsTight r p → IsTight r m) rows (λ r c e. right r c (member_of (λ w. IsTight w point) rows r h c)))))
        go (inr s) = norm_factor-positive point s.row (λ e. not_zero_of_positive (dot s.row point) s.positive e)

-- ---- generators are the extreme directions
module _ (n : ℕ) (rows gens : List (List ℚ)) (d : IsDoubleDescriptionPair n rows gens) where
  summand : (g a b : List ℚ) → Contains gens g → IsInCone n rows a → IsInCone n rows b → g ≡ plus a b → IsMultiple g a
  summand g a b c a_in b_in e =
      let ray : IsOnRay g a = ray_of n rows gens d g a c a_in (all_of_members (λ r. IsTight r g → IsTight r a) rows (λ r k t.
      add_zero_left (dot r a) (dot r b) (member_of (HoldsAt a) rows r a_in.within k) (member_of (HoldsAt b) rows r b_in.within k)
      (sym (dot-plus r a b) ∙ ap (λ v. dot r v) (sym e) ∙ t))) in
      record { factor = ray.factor; same = ray.same }

  pub generator_is_extreme : (g : List ℚ) → Contains gens g → IsExtremeDirection n (IsInCone n rows) g
  generator_is_extreme g c = record {
    member = member_of (IsInCone n rows) gens g d.inside c;
    not_zero = member_of (λ v. v ≡ zeros n → ⊥) gens g d.not_zero c;
    no_sum = λ a b a_in b_in e. (summand g a b c a_in b_in e, summand g b a c b_in a_in (e ∙ plus_comm a b));
  }

  pub extreme_is_generator : (g : List ℚ) → All IsNormed gens → IsExtremeDirection n (IsInCone n rows) g → IsNormed g → Contains gens g
  extreme_is_generator g normed_all extreme g_normed = start (tight_or_positive rows g extreme.member.within)
    where
      with_support : (s : IsGenerated n gens g) (v r : List ℚ) → InSupport s.multipliers gens v → zero_ℚ <ℚ dot r v → zero_ℚ <ℚ dot r g → Contains gens g
      with_support s v r m v_positive g_positive =
          let t : IsSplit n gens g v = split_support n gens g v d.generators_wide s m in
          let c : Contains gens v = support_listed s.multipliers gens v m in
          let share : IsMultiple g (scaled t.factor v) = (extreme.no_sum (scaled t.factor v) t.others
          (generated_in n rows gens d (scaled t.factor v)
          (generated_scaled n gens t.factor v d.generators_wide (le_of_lt zero_ℚ t.factor t.positive) (generated_generator n gens v d.generators_wide c)))
          (generated_in n rows gens d t.others t.others_is) t.same).0 in
          let q : ℚ = inverse_ℚ t.factor *ℚ share.factor in
          let value : (w : List ℚ) → dot w v ≡ q *ℚ dot w g = λ w.
          sym (mul_inverse_cancel t.factor (dot w v) t.positive) ∙ sym (mul_assoc t.factor (inverse_ℚ t.factor) (dot w v))
          ∙ ap (λ x. x *ℚ dot w v) (mul_comm t.factor (inverse_ℚ t.factor)) ∙ mul_assoc (inverse_ℚ t.factor) t.factor (dot w v)
          ∙ ap (λ x. inverse_ℚ t.factor *ℚ x) (sym (dot-scaled w t.factor v) ∙ ap (λ u. dot w u) share.same ∙ dot-scaled w share.factor g)
          ∙ sym (mul_assoc (inverse_ℚ t.factor) share.factor (dot w g)) in
          let same : v ≡ scaled q g = same_wide n v (scaled q g) (member_of (HasWidth n) gens v d.generators_wide.wide c)
          (length-scaled q g ∙ extreme.member.wide) (λ w. value w ∙ sym (dot-scaled w q g)) in
          by q c same (value r) (sign_of q)
        where
          by : (q : ℚ) → Contains gens v → v ≡ scaled q g → dot r v ≡ q *ℚ dot r g → Sign q → Contains gens g
          by q c same e (positive z) = subst (λ (u : List ℚ). Contains gens u)
              (normed_same q g v z same g_normed (member_of IsNormed gens v normed_all c)) c
          by q c same e (none z) = absurd (not_zero_of_positive (dot r v) v_positive (e ∙ ap (λ x. x *ℚ dot r g) z ∙ zero_mul (dot r g)))
          by q c same e (negative z) = absurd (lt_irrefl zero_ℚ (lt_trans zero_ℚ (dot r v) zero_ℚ v_positive
              (subst (λ (x : ℚ). x <ℚ zero_ℚ) (mul_comm (dot r g) q ∙ sym e) (mul_negative (dot r g) q g_positive z))))

      start : All (λ r. IsTight r g) rows ⊎ IsPositiveSomewhere rows g → Contains gens g
      start (inl h) = absurd (extreme.not_zero (d.pointed g extreme.member.wide h))
      start (inr p) =
          let s : IsGenerated n gens g = d.generates g extreme.member in
          let found : (v : List ℚ) × InSupport s.multipliers gens v × (zero_ℚ <ℚ dot v p.row) = support_positive s.multipliers gens p.row s.at_least_zero
          (subst (λ (x : ℚ). zero_ℚ <ℚ x) (generated_value n gens g s p.row) p.positive) in
          with_support s found.0 p.row found.1 (subst (λ (x : ℚ). zero_ℚ <ℚ x) (dot_comm found.0 p.row) found.2) p.positive

pub described_are_extreme : DescribedAreExtreme
described_are_extreme n rows gens d normed_all g = (
  λ c. (generator_is_extreme n rows gens d g c, member_of IsNormed gens g normed_all c),
  λ e. extreme_is_generator n rows gens d g normed_all e.0 e.1,
)

-- ---- the dual
pub dual_of_described : DualOfDescribed
dual_of_described n rows gens w d width = record {
  generated = (λ h. (dual_cones.of_rows n rows w d.rows_wide).0 (to_dual h), λ g. from_dual ((dual_cones.of_rows n rows w d.rows_wide).1 g));
  at_generators = (from_dual, to_dual);
  dual = dual_cones.of_rows n rows w d.rows_wide;
}
  where
    to_dual : All (λ g. zero_ℚ ≤ℚ dot w g) gens → IsInDual n (IsInCone n rows) w
    to_dual h = record { wide = width; within = λ y k. generated_nonneg n gens w y h (d.generates y k) }

    from_dual : IsInDual n (IsInCone n rows) w → All (λ g. zero_ℚ ≤ℚ dot w g) gens
    from_dual h = all_of_members (λ g. zero_ℚ ≤ℚ dot w g) gens (λ g c. h.within g (member_of (IsInCone n rows) gens g d.inside c))
