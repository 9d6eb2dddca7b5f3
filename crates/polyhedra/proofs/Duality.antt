-- Dual cones, by Farkas' lemma, and interior vectors.
use Rattle.std.proofs.Common.{◌≡◌, ℕ, List, [], ◌∷◌, length, All, Contains, refl, sym, ap, ◌∙◌, subst, arith, ◌⊎◌, inl, inr}
use Rattle.std.proofs.lemmas.List.Elements.{All-head, All-tail, All-weaker}
use Rattle.exact_field.specs.Rational.{ℚ, zero_ℚ, ◌+ℚ◌, ◌*ℚ◌, ◌≤ℚ◌, ◌<ℚ◌}
use Rattle.exact_field.specs.Vector.{dot}
use Rattle.polyhedra.specs.Vectors.{AreWide, zeros, values, combination}
use Rattle.polyhedra.specs.Cone.{IsGenerated, IsInCone, IsInDual}
use Rattle.polyhedra.specs.Farkas.{IsSeparated}
use Rattle.polyhedra.specs.TightSets.{IsTight}
use Rattle.polyhedra.specs.Duality.{DualCones, InteriorOfGenerated, InteriorOfRows}
use Rattle.polyhedra.proofs.Laws.{le_of_lt, mul_nonneg}
use Rattle.polyhedra.proofs.Order.{zero_or_positive, add_positive, add_positive_right, mul_positive, le_of_eq, not_lt_of_le, not_zero_of_positive}
use Rattle.polyhedra.proofs.Linear.{dot_comm, dot-zeros, dot-combination, length-combination, length-zeros, same_wide}
use Rattle.polyhedra.proofs.Lists.{HoldsAt, HasWidth, values_nonneg}
use Rattle.polyhedra.proofs.Members.{all_of_members, member_of}
use Rattle.polyhedra.proofs.TightRows.{tight_or_positive}
use Rattle.polyhedra.proofs.LeastQuotient.{IsPositiveSomewhere}
use Rattle.polyhedra.proofs.Generated.{generated_value, generated_width, generated_generator}
use Rattle.polyhedra.proofs.Support.{InSupport, support_listed, dot_nonneg}
use Rattle.polyhedra.proofs.Farkas.{farkas, generated_nonneg}
use Rattle.polyhedra.proofs.Cones.{IsOnRay, one_ray}

turned : (n : ℕ) (vs : List (List ℚ)) (w : List ℚ) → IsInCone n vs w → All (λ g. zero_ℚ ≤ℚ dot w g) vs
turned n vs w h = All-weaker (HoldsAt w) (λ g. zero_ℚ ≤ℚ dot w g) (λ g p. subst (λ (x : ℚ). zero_ℚ ≤ℚ x) (dot_comm g w) p) vs h.within

dual_of_rows : (n : ℕ) (vs : List (List ℚ)) (w : List ℚ) → AreWide n vs → IsInDual n (IsInCone n vs) w → IsGenerated n vs w
dual_of_rows n vs w wide h = go (farkas n vs w wide h.wide)
  where
    go : IsGenerated n vs w ⊎ IsSeparated n vs w → IsGenerated n vs w
    go (inl g) = g
    go (inr s) = absurd (not_lt_of_le zero_ℚ (dot w s.vector) (h.within s.vector s.in_cone) s.below)

pub dual_cones : DualCones
dual_cones = record {
  of_generated = λ n vs w wide. (
    λ h. record {
      wide = h.wide;
      within = all_of_members (HoldsAt w) vs
          (λ g c. subst (λ (x : ℚ). zero_ℚ ≤ℚ x) (dot_comm w g) (h.within g (generated_generator n vs g wide c)));
    },
    λ h. record { wide = h.wide; within = λ y g. generated_nonneg n vs w y (turned n vs w h) g },
  );
  of_rows = λ n vs w wide. (
    dual_of_rows n vs w wide,
    λ g. record {
      wide = generated_width n vs w wide g;
      within = λ y h. subst (λ (x : ℚ). zero_ℚ ≤ℚ x) (dot_comm y w)
          (generated_nonneg n vs y w (turned n vs y h) g);
    },
  );
}

-- a sum of numbers of at least 0 with positive multipliers, one of which is positive
positive_sum : (ms : List ℚ) (gens : List (List ℚ)) (w g : List ℚ) → length ms ≡ length gens → All (λ m. zero_ℚ <ℚ m) ms → All (HoldsAt w) gens →
    Contains gens g → zero_ℚ <ℚ dot g w → zero_ℚ <ℚ dot ms (values gens w)
positive_sum ms [] w g l h k c p = absurd (Rattle.polyhedra.proofs.Lists.Contains-nil g c)
positive_sum [] (v ∷ gens) w g l h k c p = absurd (omega arith)
positive_sum (m ∷ ms) (v ∷ gens) w g l h k c p = go (Rattle.polyhedra.proofs.Lists.Contains-cases v gens g c)
    (λ d. positive_sum ms gens w g (omega arith) (All-tail (λ x. zero_ℚ <ℚ x) m ms h) (All-tail (HoldsAt w) v gens k) d p)
  where
    m_positive : zero_ℚ <ℚ m
    m_positive = All-head (λ x. zero_ℚ <ℚ x) m ms h

    go : (v ≡ g) ⊎ Contains gens g → (Contains gens g → zero_ℚ <ℚ dot ms (values gens w)) → zero_ℚ <ℚ m *ℚ dot v w +ℚ dot ms (values gens w)
    go (inl e) again = add_positive (m *ℚ dot v w) (dot ms (values gens w))
        (mul_positive m (dot v w) m_positive (subst (λ (u : List ℚ). zero_ℚ <ℚ dot u w) (sym e) p))
        (dot_nonneg ms (values gens w) (All-weaker (λ x. zero_ℚ <ℚ x) (λ x. zero_ℚ ≤ℚ x) (λ x q. le_of_lt zero_ℚ x q) ms
        (All-tail (λ x. zero_ℚ <ℚ x) m ms h)) (values_nonneg gens w (All-tail (HoldsAt w) v gens k)))
    go (inr d) again = add_positive_right (m *ℚ dot v w) (dot ms (values gens w))
        (mul_nonneg m (dot v w) (le_of_lt zero_ℚ m m_positive) (All-head (HoldsAt w) v gens k)) (again d)

pub interior_of_generated : InteriorOfGenerated
interior_of_generated n gens ms wide pointed lengths positive = record {
  member = record {
    multipliers = ms;
    one_each = lengths;
    at_least_zero = All-weaker (λ m. zero_ℚ <ℚ m) (λ m. zero_ℚ ≤ℚ m)
        (λ m q. le_of_lt zero_ℚ m q) ms positive;
    combined = refl;
  };
  inside = λ w d other. inside w (dual_cones.of_generated n gens w wide).0 d other;
}
  where
    inside : (w : List ℚ) → (IsInDual n (IsGenerated n gens) w → IsInCone n gens w) → IsInDual n (IsGenerated n gens) w → (w ≡ zeros n → ⊥) →
        zero_ℚ <ℚ dot w (combination n ms gens)
    inside w to_cone d other = go (tight_or_positive gens w (to_cone d).within)
      where
        go : All (λ r. IsTight r w) gens ⊎ IsPositiveSomewhere gens w → zero_ℚ <ℚ dot w (combination n ms gens)
        go (inl t) = absurd (other (pointed w d.wide t))
        go (inr s) = subst (λ (x : ℚ). zero_ℚ <ℚ x) (sym (dot-combination n w ms gens))
            (positive_sum ms gens w s.row lengths positive (to_cone d).within s.listed s.positive)

-- where each vector with a positive multiplier is 0 a combination is 0; else one of them is not
pub interior_of_rows : InteriorOfRows
interior_of_rows n rows y wide width h = record {
  member = record { wide = width; within = all_of_members (HoldsAt y) rows (λ r c. holds r (member_of (λ v. (zero_ℚ <ℚ dot v y) ⊎ (v ≡ zeros n)) rows r h c)) };
  inside = λ w d other. inside w (dual_of_rows n rows w wide d) other;
}
  where
    zero_value : (r : List ℚ) → r ≡ zeros n → dot r y ≡ zero_ℚ
    zero_value r e = ap (λ v. dot v y) e ∙ dot_comm (zeros n) y ∙ dot-zeros y n

    holds : (r : List ℚ) → (zero_ℚ <ℚ dot r y) ⊎ (r ≡ zeros n) → zero_ℚ ≤ℚ dot r y
    holds r (inl p) = le_of_lt zero_ℚ (dot r y) p
    holds r (inr e) = le_of_eq zero_ℚ (dot r y) (sym (zero_value r e))

    -- a combination whose value at y is 0 has only zero vectors in its support
    inside : (w : List ℚ) → IsGenerated n rows w → (w ≡ zeros n → ⊥) → zero_ℚ <ℚ dot w y
    inside w g other = go (zero_or_positive (dot w y) (subst (λ (x : ℚ). zero_ℚ ≤ℚ x) (dot_comm y w)
        (generated_nonneg n rows y w (all_of_members (λ r. zero_ℚ ≤ℚ dot y r) rows
        (λ r c. subst (λ (x : ℚ). zero_ℚ ≤ℚ x) (dot_comm r y) (holds r (member_of (λ v. (zero_ℚ <ℚ dot v y) ⊎ (v ≡ zeros n)) rows r h c)))) g)))
      where
        zero_only : dot w y ≡ zero_ℚ → (v : List ℚ) → InSupport g.multipliers rows v → v ≡ zeros n
        zero_only e v m = by (member_of (λ u. (zero_ℚ <ℚ dot u y) ⊎ (u ≡ zeros n)) rows v h (support_listed g.multipliers rows v m))
          where
            by : (zero_ℚ <ℚ dot v y) ⊎ (v ≡ zeros n) → v ≡ zeros n
            by (inr q) = q
            by (inl p) = absurd (not_zero_of_positive (dot v y) p
                (Rattle.polyhedra.proofs.Support.support_zero g.multipliers rows v y g.at_least_zero
                (all_of_members (HoldsAt y) rows (λ r c. holds r (member_of (λ u. (zero_ℚ <ℚ dot u y) ⊎ (u ≡ zeros n)) rows r h c)))
                (sym (generated_value n rows w g y) ∙ dot_comm y w ∙ e) m))

        go : (dot w y ≡ zero_ℚ) ⊎ (zero_ℚ <ℚ dot w y) → zero_ℚ <ℚ dot w y
        go (inr p) = p
        go (inl e) = absurd (other (same_wide n w (zeros n) (generated_width n rows w wide g) (length-zeros n)
            (λ r. zero_there r (one_ray n rows w (zeros n) wide (length-zeros n) g (zero_only e)))))
          where
            zero_there : (r : List ℚ) → IsOnRay (zeros n) w → dot r w ≡ dot r (zeros n)
            zero_there r ray = ap (λ v. dot r v) ray.same ∙ Rattle.polyhedra.proofs.Linear.dot-scaled r ray.factor (zeros n)
                ∙ ap (λ x. ray.factor *ℚ x) (dot-zeros r n) ∙ Rattle.polyhedra.proofs.Algebra.mul_zero ray.factor ∙ sym (dot-zeros r n)
