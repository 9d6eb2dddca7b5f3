-- A face of a hull is the hull of what lies in it.
use Rattle.std.proofs.Common.{◌≡◌, ℕ, List, [], ◌∷◌, length, All, Bool, refl, sym, ap, ap₂, ◌∙◌, arith, pos}
use Rattle.std.proofs.lemmas.List.Elements.{All-head, All-tail}
use Rattle.exact_field.specs.Rational.{ℚ, zero_ℚ, one_ℚ, ◌+ℚ◌, ◌*ℚ◌, neg_ℚ, ◌≤ℚ◌}
use Rattle.exact_field.specs.Order.{same_ℚ}
use Rattle.exact_field.specs.Vector.{dot, sum_ℚ}
use Rattle.exact_field.specs.Ring.{v0, v1, v2, ◌⊕◌, ◌⊗◌, ◌⊝◌, num}
use Rattle.exact_field.proofs.RingTool.{ring}
use Rattle.exact_field.proofs.Rationals.{rationals}
use Rattle.exact_field.proofs.Comparison.{same_ℚ-is}
use Rattle.polyhedra.specs.Vectors.{AreWide, plus, values, combination, AtLeastZero}
use Rattle.polyhedra.specs.Hull.{IsInHull}
use Rattle.polyhedra.proofs.Laws.{add_neg}
use Rattle.polyhedra.proofs.Algebra.{mul_zero, zero_mul, add_mul}
use Rattle.polyhedra.proofs.Order.{add_zero_left, add_zero_right}
use Rattle.polyhedra.proofs.Linear.{dot_comm, dot-plus, dot-combination, length-plus, length-combination, same_wide}
use Rattle.polyhedra.proofs.Members.{all_of_members, member_of, Contains-filter_source}
use Rattle.lineality.proofs.Reduction.{level_values}
use Rattle.representations.specs.Faces.{at_value, FaceOfHull}
use Rattle.representations.proofs.Thinned.{IsRead, thinned, widened, excess, excess_nonneg, excess_support}

filter_wide : (n : ℕ) (f : List ℚ) (b : ℚ) (vs : List (List ℚ)) → AreWide n vs → AreWide n (at_value f b vs)
filter_wide n f b vs h = record {
  wide = all_of_members (λ v. length v ≡ n) (at_value f b vs) (λ v k.
      member_of (λ u. length u ≡ n) vs v h.wide (Contains-filter_source (λ u. same_ℚ (dot f u) b) vs v k).0);
}

module _ (n : ℕ) where
  -- the value of a hull member, by its parts
  pub hull_value : (points directions lines : List (List ℚ)) (y : List ℚ) (h : IsInHull n points directions lines y) (r : List ℚ) →
      dot r y ≡ dot h.weights (values points r) +ℚ (dot h.shares (values directions r) +ℚ dot h.slopes (values lines r))
  hull_value points directions lines y h r =
      ap (λ v. dot r v) h.combined
      ∙ dot-plus r (combination n h.weights points) (plus (combination n h.shares directions) (combination n h.slopes lines))
      ∙ ap₂ (λ a b. a +ℚ b) (dot-combination n r h.weights points)
      (dot-plus r (combination n h.shares directions) (combination n h.slopes lines)
      ∙ ap₂ (λ a b. a +ℚ b) (dot-combination n r h.shares directions) (dot-combination n r h.slopes lines))

  pub hull_width : (points directions lines : List (List ℚ)) (y : List ℚ) → AreWide n points → AreWide n directions → AreWide n lines →
      IsInHull n points directions lines y → length y ≡ n
  hull_width points directions lines y p d l h =
      ap length h.combined
      ∙ length-plus n (combination n h.weights points) (plus (combination n h.shares directions) (combination n h.slopes lines))
      (length-combination n h.weights points p)
      (length-plus n (combination n h.shares directions) (combination n h.slopes lines) (length-combination n h.shares directions d)
      (length-combination n h.slopes lines l))

  -- weights, shares and slopes that have the values of y make it a member
  pub hull_by_values : (points directions lines : List (List ℚ)) (y ws ss ls : List ℚ) → AreWide n points → AreWide n directions → AreWide n lines →
      length y ≡ n → length ws ≡ length points → length ss ≡ length directions → length ls ≡ length lines → AtLeastZero ws → AtLeastZero ss →
      sum_ℚ ws ≡ one_ℚ →
      ((r : List ℚ) → dot r y ≡ dot ws (values points r) +ℚ (dot ss (values directions r) +ℚ dot ls (values lines r))) →
      IsInHull n points directions lines y
  hull_by_values points directions lines y ws ss ls p d l width w_each s_each l_each w_nonneg s_nonneg whole e = record {
    weights = ws;
    shares = ss;
    slopes = ls;
    weight_each = w_each;
    share_each = s_each;
    slope_each = l_each;
    weights_at_least_zero = w_nonneg;
    shares_at_least_zero = s_nonneg;
    weights_whole = whole;
    combined = same_wide n y _ width
        (length-plus n (combination n ws points) (plus (combination n ss directions) (combination n ls lines)) (length-combination n ws points p)
        (length-plus n (combination n ss directions) (combination n ls lines) (length-combination n ss directions d) (length-combination n ls lines l)))
        (λ r. e r ∙ sym (dot-plus r (combination n ws points) (plus (combination n ss directions) (combination n ls lines))
        ∙ ap₂ (λ a b. a +ℚ b) (dot-combination n r ws points)
        (dot-plus r (combination n ss directions) (combination n ls lines)
        ∙ ap₂ (λ a b. a +ℚ b) (dot-combination n r ss directions) (dot-combination n r ls lines))));
  }

pub face_of_hull : FaceOfHull
unfolding excess
face_of_hull n points directions lines f b p d l bounded y = (λ h. inside h.0 h.1, λ h. (outside h, value h))
  where
    test : ℚ → List ℚ → Bool
    test t v = same_ℚ (dot f v) t

    inside : IsInHull n points directions lines y → dot f y ≡ b → IsInHull n (at_value f b points) (at_value f zero_ℚ directions) lines y
    inside h e = hull_by_values n (at_value f b points) (at_value f zero_ℚ directions) lines y ws.multipliers ss.multipliers h.slopes
        (filter_wide n f b points p) (filter_wide n f zero_ℚ directions d) l (hull_width n points directions lines y p d l h) ws.one_each ss.one_each
        h.slope_each ws.nonneg ss.nonneg (ws.total ∙ h.weights_whole)
        (λ r. hull_value n points directions lines y h r
        ∙ ap₂ (λ u v. u +ℚ (v +ℚ dot h.slopes (values lines r))) (sym (ws.value r)) (sym (ss.value r)))
      where
        at_points : zero_ℚ ≤ℚ excess f b h.weights points
        at_points = excess_nonneg f b h.weights points h.weight_each h.weights_at_least_zero bounded.at_points

        at_directions : zero_ℚ ≤ℚ excess f zero_ℚ h.shares directions
        at_directions = excess_nonneg f zero_ℚ h.shares directions h.share_each h.shares_at_least_zero bounded.at_directions

        -- the two together are nothing
        together : excess f b h.weights points +ℚ excess f zero_ℚ h.shares directions ≡ zero_ℚ
        together =
            ap₂ (λ u v. (dot h.weights (values points f) +ℚ neg_ℚ (u *ℚ b)) +ℚ (dot h.shares (values directions f) +ℚ neg_ℚ v)) h.weights_whole
            (mul_zero (sum_ℚ h.shares))
            ∙ ring rationals (dot h.weights (values points f) ∷ dot h.shares (values directions f) ∷ b ∷ [])
            ((v0 ⊝ num (pos 1) ⊗ v2) ⊕ (v1 ⊝ num (pos 0))) ((v0 ⊕ (v1 ⊕ num (pos 0))) ⊝ v2) refl
            ∙ ap (λ x. (dot h.weights (values points f) +ℚ (dot h.shares (values directions f) +ℚ x)) +ℚ neg_ℚ b)
            (sym (level_values h.slopes lines f bounded.at_lines))
            ∙ ap (λ x. x +ℚ neg_ℚ b) (sym (hull_value n points directions lines y h f) ∙ e)
            ∙ add_neg b

        ws : IsRead h.weights points (at_value f b points)
        ws = thinned (test b) h.weights points h.weight_each h.weights_at_least_zero (λ v s.
            (same_ℚ-is (dot f v) b).1 (excess_support f b h.weights points h.weight_each h.weights_at_least_zero bounded.at_points
            (add_zero_left (excess f b h.weights points) (excess f zero_ℚ h.shares directions) at_points at_directions together) v s))

        ss : IsRead h.shares directions (at_value f zero_ℚ directions)
        ss = thinned (test zero_ℚ) h.shares directions h.share_each h.shares_at_least_zero (λ v s.
            (same_ℚ-is (dot f v) zero_ℚ).1 (excess_support f zero_ℚ h.shares directions h.share_each h.shares_at_least_zero bounded.at_directions
            (add_zero_right (excess f b h.weights points) (excess f zero_ℚ h.shares directions) at_points at_directions together) v s))

    outside : IsInHull n (at_value f b points) (at_value f zero_ℚ directions) lines y → IsInHull n points directions lines y
    outside h =
        let ws : IsRead h.weights (at_value f b points) points = widened (test b) points h.weights h.weight_each h.weights_at_least_zero in
        let ss : IsRead h.shares (at_value f zero_ℚ directions) directions = widened (test zero_ℚ) directions h.shares h.share_each h.shares_at_least_zero in
        hull_by_values n points directions lines y ws.multipliers ss.multipliers h.slopes p d l
        (hull_width n (at_value f b points) (at_value f zero_ℚ directions) lines y (filter_wide n f b points p) (filter_wide n f zero_ℚ directions d) l h)
        ws.one_each ss.one_each h.slope_each ws.nonneg ss.nonneg (ws.total ∙ h.weights_whole)
        (λ r. hull_value n (at_value f b points) (at_value f zero_ℚ directions) lines y h r
        ∙ ap₂ (λ u v. u +ℚ (v +ℚ dot h.slopes (values lines r))) (sym (ws.value r)) (sym (ss.value r)))

    -- the value of a sum of vectors that all have the value t
    same_value : (t : ℚ) (ms : List ℚ) (vs : List (List ℚ)) → length ms ≡ length vs → All (λ v. dot f v ≡ t) vs → dot ms (values vs f) ≡ sum_ℚ ms *ℚ t
    same_value t [] vs k h = sym (zero_mul t)
    same_value t (m ∷ ms) [] k h = absurd (omega arith)
    same_value t (m ∷ ms) (v ∷ vs) k h =
        ap₂ (λ u w. m *ℚ u +ℚ w) (dot_comm v f ∙ All-head (λ x. dot f x ≡ t) v vs h)
        (same_value t ms vs (omega arith) (All-tail (λ x. dot f x ≡ t) v vs h))
        ∙ sym (add_mul m (sum_ℚ ms) t)

    all_at : (t : ℚ) (vs : List (List ℚ)) → All (λ v. dot f v ≡ t) (at_value f t vs)
    all_at t vs = all_of_members (λ v. dot f v ≡ t) (at_value f t vs) (λ v k.
        (same_ℚ-is (dot f v) t).0 (Contains-filter_source (λ u. same_ℚ (dot f u) t) vs v k).1)

    value : IsInHull n (at_value f b points) (at_value f zero_ℚ directions) lines y → dot f y ≡ b
    value h =
        hull_value n (at_value f b points) (at_value f zero_ℚ directions) lines y h f
        ∙ ap₂ (λ u v. u +ℚ v) (same_value b h.weights (at_value f b points) h.weight_each (all_at b points) ∙ ap (λ x. x *ℚ b) h.weights_whole)
        (ap₂ (λ u v. u +ℚ v) (same_value zero_ℚ h.shares (at_value f zero_ℚ directions) h.share_each (all_at zero_ℚ directions) ∙ mul_zero (sum_ℚ h.shares))
        (level_values h.slopes lines f bounded.at_lines))
        ∙ ring rationals (b ∷ []) (num (pos 1) ⊗ v0 ⊕ (num (pos 0) ⊕ num (pos 0))) v0 refl
