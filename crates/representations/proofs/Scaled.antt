-- Solutions of inequalities whose bounds are multiplied: for a positive factor they are divided by
-- it, and for 0 they are directions.
use Rattle.std.proofs.Common.{◌≡◌, ℕ, List, length, sym, ap, ap₂, ◌∙◌, subst, ◌⊎◌, inl, inr}
use Rattle.exact_field.specs.Rational.{ℚ, zero_ℚ, ◌+ℚ◌, ◌*ℚ◌, inverse_ℚ, ◌≤ℚ◌, ◌<ℚ◌}
use Rattle.exact_field.specs.Vector.{dot}
use Rattle.polyhedra.specs.Vectors.{zeros, plus, scaled}
use Rattle.polyhedra.specs.Inequality.{Inequality}
use Rattle.polyhedra.proofs.Laws.{add_zero, mul_comm, mul_assoc, mul_inverse, le_of_lt}
use Rattle.polyhedra.proofs.Algebra.{zero_add, zero_mul, one_mul}
use Rattle.polyhedra.proofs.Order.{zero_or_positive, le_of_eq, mul_le, add_le_both, inverse_positive, mul_inverse_cancel}
use Rattle.polyhedra.proofs.Linear.{dot-plus, dot-scaled, dot-zeros, length-plus, length-scaled, length-zeros, same_wide}
use Rattle.polyhedra.proofs.Members.{all_of_members, member_of}
use Rattle.representations.specs.Facets.{MeetsAll}
use Rattle.representations.specs.Scaled.{MeetsTimes, IsMultipleOf, ScaledSolutions}

module _ (n : ℕ) (es : List Inequality) (some : List ℚ) (some_wide : length some ≡ n) (some_meets : MeetsAll es some) (k : ℚ) (y : List ℚ)
    (k_nonneg : zero_ℚ ≤ℚ k) (width : length y ≡ n) where
  from_multiple : IsMultipleOf n es k y → MeetsTimes k es y
  from_multiple m = all_of_members (λ e. k *ℚ e.bound ≤ℚ dot e.normal y) es (λ e c.
      subst (λ (x : ℚ). k *ℚ e.bound ≤ℚ x)
      (sym (ap (λ v. dot e.normal v) m.same ∙ dot-plus e.normal (scaled k m.solution) m.direction ∙ ap (λ x. x +ℚ dot e.normal m.direction) (dot-scaled e.normal k m.solution)))
      (subst (λ (x : ℚ). x ≤ℚ k *ℚ dot e.normal m.solution +ℚ dot e.normal m.direction) (add_zero (k *ℚ e.bound))
      (add_le_both (k *ℚ e.bound) (k *ℚ dot e.normal m.solution) zero_ℚ (dot e.normal m.direction)
      (mul_le k e.bound (dot e.normal m.solution) k_nonneg (member_of (λ f. f.bound ≤ℚ dot f.normal m.solution) es e m.meets c))
      (member_of (λ f. zero_ℚ ≤ℚ dot f.normal m.direction) es e m.recedes c))))

  to_multiple : MeetsTimes k es y → IsMultipleOf n es k y
  to_multiple h = go (zero_or_positive k k_nonneg)
    where
      go : (k ≡ zero_ℚ) ⊎ (zero_ℚ <ℚ k) → IsMultipleOf n es k y
      go (inl e) = record {
        solution = some;
        direction = y;
        solution_wide = some_wide;
        direction_wide = width;
        meets = some_meets;
        recedes = all_of_members (λ f. zero_ℚ ≤ℚ dot f.normal y) es (λ f c.
            subst (λ (x : ℚ). x ≤ℚ dot f.normal y) (ap (λ x. x *ℚ f.bound) e ∙ zero_mul f.bound) (member_of (λ g. k *ℚ g.bound ≤ℚ dot g.normal y) es f h c));
        same = same_wide n y (plus (scaled k some) y) width (length-plus n (scaled k some) y (length-scaled k some ∙ some_wide) width)
            (λ r. sym (dot-plus r (scaled k some) y ∙ ap (λ x. x +ℚ dot r y) (dot-scaled r k some ∙ ap (λ x. x *ℚ dot r some) e ∙ zero_mul (dot r some))
            ∙ zero_add (dot r y)));
      }
      go (inr p) = record {
        solution = scaled (inverse_ℚ k) y;
        direction = zeros n;
        solution_wide = length-scaled (inverse_ℚ k) y ∙ width;
        direction_wide = length-zeros n;
        meets = all_of_members (λ f. f.bound ≤ℚ dot f.normal (scaled (inverse_ℚ k) y)) es (λ f c.
            subst (λ (x : ℚ). f.bound ≤ℚ x) (sym (dot-scaled f.normal (inverse_ℚ k) y))
            (subst (λ (x : ℚ). x ≤ℚ inverse_ℚ k *ℚ dot f.normal y)
            (sym (mul_assoc (inverse_ℚ k) k f.bound) ∙ ap (λ x. x *ℚ f.bound) (mul_comm (inverse_ℚ k) k ∙ mul_inverse k p) ∙ one_mul f.bound)
            (mul_le (inverse_ℚ k) (k *ℚ f.bound) (dot f.normal y) (le_of_lt zero_ℚ (inverse_ℚ k) (inverse_positive k p))
            (member_of (λ g. k *ℚ g.bound ≤ℚ dot g.normal y) es f h c))));
        recedes = all_of_members (λ f. zero_ℚ ≤ℚ dot f.normal (zeros n)) es (λ f c. le_of_eq zero_ℚ (dot f.normal (zeros n)) (sym (dot-zeros f.normal n)));
        same = same_wide n y (plus (scaled k (scaled (inverse_ℚ k) y)) (zeros n)) width
            (length-plus n (scaled k (scaled (inverse_ℚ k) y)) (zeros n) (length-scaled k (scaled (inverse_ℚ k) y) ∙ length-scaled (inverse_ℚ k) y ∙ width) (length-zeros n))
            (λ r. sym (dot-plus r (scaled k (scaled (inverse_ℚ k) y)) (zeros n)
            ∙ ap₂ (λ a b. a +ℚ b) (dot-scaled r k (scaled (inverse_ℚ k) y) ∙ ap (λ x. k *ℚ x) (dot-scaled r (inverse_ℚ k) y) ∙ mul_inverse_cancel k (dot r y) p) (dot-zeros r n)
            ∙ add_zero (dot r y)));
      }

pub scaled_solutions : ScaledSolutions
scaled_solutions n es some some_wide some_meets k y k_nonneg width =
    (to_multiple n es some some_wide some_meets k y k_nonneg width, from_multiple n es some some_wide some_meets k y k_nonneg width)
