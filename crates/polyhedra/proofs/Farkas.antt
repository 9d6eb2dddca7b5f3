-- Farkas' lemma by induction on the number of rows, for every vector at once.
use Rattle.std.proofs.Common.{◌≡◌, ℕ, zero, suc, List, [], ◌∷◌, map, length, All, refl, sym, ap, ap₂, ◌∙◌, subst, arith, ◌⊎◌, inl, inr}
use Rattle.std.proofs.lemmas.List.{length-map}
use Rattle.std.proofs.lemmas.List.Elements.{All-nil, All-cons, All-weaker}
use Rattle.exact_field.specs.Rational.{ℚ, zero_ℚ, one_ℚ, ◌+ℚ◌, ◌*ℚ◌, neg_ℚ, inverse_ℚ, ◌≤ℚ◌, ◌<ℚ◌}
use Rattle.exact_field.specs.Vector.{dot}
use Rattle.polyhedra.specs.Vectors.{AreWide, zeros, plus, scaled, values, combination, AtLeastZero}
use Rattle.polyhedra.specs.Cone.{IsGenerated}
use Rattle.polyhedra.specs.Farkas.{IsSeparated, FarkasLemma, OneAlternative, Meets, WeakDuality, NoSolution, DualOfGenerated, CutHolds}
use Rattle.polyhedra.proofs.Laws.{add_zero, add_neg, mul_comm, le_refl, le_of_lt, mul_nonneg, mul_inverse, le_trans}
use Rattle.polyhedra.proofs.Lists.{nonneg-nil, nonneg-cons, nonneg-head, nonneg-tail, wide-head, wide-tail, wide-map, HoldsAt, values_nonneg, all_from_map}
use Rattle.polyhedra.proofs.Algebra.{zero_add, zero_mul, one_mul, ring_rules, add_cancel, neg_mul, neg_neg}
use Rattle.polyhedra.proofs.Order.{le_of_difference, le_or_lt, not_lt_of_le, le_of_eq, zero_or_positive, add_nonneg, add_le_both, square_nonneg, square_zero, neg_positive, neg_nonneg, negative_of_neg, inverse_positive, mul_negative, add_zero_left, add_zero_right, mul_le}
use Rattle.polyhedra.proofs.Support.{dot_nonneg}
use Rattle.polyhedra.proofs.Generated.{generated_by_values, more_generators}
use Rattle.polyhedra.proofs.Linear.{dot-nil, dot_comm, dot-plus, dot-plus_left, dot-scaled, dot-scaled_left, dot-zeros, dot-combination, dot-combination_left, length-plus, length-scaled}

pub generated_nonneg : DualOfGenerated
generated_nonneg n generators w z h g =
    subst (λ (x : ℚ). zero_ℚ ≤ℚ x) (sym (ap (λ v. dot w v) g.combined ∙ dot-combination n w g.multipliers generators))
    (dot_nonneg g.multipliers (values generators w) g.at_least_zero
    (values_nonneg generators w (All-weaker (λ g. zero_ℚ ≤ℚ dot w g) (HoldsAt w) (λ v p. subst (λ (x : ℚ). zero_ℚ ≤ℚ x) (dot_comm w v) p) generators h)))

pub one_alternative : OneAlternative
one_alternative n rows b g s =
    not_lt_of_le zero_ℚ (dot b s.vector)
    (subst (λ (x : ℚ). zero_ℚ ≤ℚ x) (dot_comm s.vector b)
    (generated_nonneg n rows s.vector b (All-weaker (HoldsAt s.vector) (λ r. zero_ℚ ≤ℚ dot s.vector r)
    (λ r p. subst (λ (x : ℚ). zero_ℚ ≤ℚ x) (dot_comm r s.vector) p) rows s.in_cone.within) g))
    s.below

-- ---- weak duality
weighed_le : (rows : List (List ℚ)) (rights u x : List ℚ) → length u ≡ length rows → AtLeastZero u → Meets rows rights x → dot rights u ≤ℚ dot u (values rows x)
weighed_le [] [] u x l h m = subst (λ (y : ℚ). zero_ℚ ≤ℚ y) (sym (dot-nil u)) (le_refl zero_ℚ)
weighed_le [] (b ∷ rights) u x l h m = absurd m
weighed_le (r ∷ rows) [] u x l h m = absurd m
weighed_le (r ∷ rows) (b ∷ rights) [] x l h m = absurd (omega arith)
weighed_le (r ∷ rows) (b ∷ rights) (a ∷ u) x l h m =
    let lengths : length u ≡ length rows = omega arith in
    add_le_both (b *ℚ a) (a *ℚ dot r x) (dot rights u) (dot u (values rows x))
    (subst (λ (y : ℚ). y ≤ℚ a *ℚ dot r x) (mul_comm a b) (mul_le a b (dot r x) (nonneg-head a u h) m.0))
    (weighed_le rows rights u x lengths (nonneg-tail a u h) m.1)

pub weak_duality : WeakDuality
weak_duality n rows rights w u x d m =
    subst (λ (y : ℚ). dot rights u ≤ℚ y) (sym (dot-combination_left n u rows x) ∙ ap (λ v. dot v x) d.balanced)
    (weighed_le rows rights u x d.one_each d.at_least_zero m)

pub no_solution : NoSolution
no_solution n rows rights u d p x m =
    not_lt_of_le (dot rights u) zero_ℚ
    (subst (λ (y : ℚ). dot rights u ≤ℚ y) (dot_comm (zeros n) x ∙ dot-zeros x n) (weak_duality n rows rights (zeros n) u x d m)) p

-- ---- no row: b is 0, or minus b separates it
square_sum_nonneg : (b : List ℚ) → zero_ℚ ≤ℚ dot b b
square_sum_nonneg [] = le_refl zero_ℚ
square_sum_nonneg (x ∷ b) = add_nonneg (x *ℚ x) (dot b b) (square_nonneg x) (square_sum_nonneg b)

square_sum_zero : (n : ℕ) (b : List ℚ) → length b ≡ n → dot b b ≡ zero_ℚ → b ≡ zeros n
square_sum_zero zero [] h e = refl
square_sum_zero zero (x ∷ b) h e = absurd (omega arith)
square_sum_zero (suc n) [] h e = absurd (omega arith)
square_sum_zero (suc n) (x ∷ b) h e =
    let l : length b ≡ n = omega arith in
    ap₂ (λ a c. a ∷ c) (square_zero x (add_zero_left (x *ℚ x) (dot b b) (square_nonneg x) (square_sum_nonneg b) e))
    (square_sum_zero n b l (add_zero_right (x *ℚ x) (dot b b) (square_nonneg x) (square_sum_nonneg b) e))

no_row : (n : ℕ) (b : List ℚ) → length b ≡ n → IsGenerated n [] b ⊎ IsSeparated n [] b
no_row n b h = go (zero_or_positive (dot b b) (square_sum_nonneg b))
  where
    minus : List ℚ
    minus = scaled (neg_ℚ one_ℚ) b

    value : dot b minus ≡ neg_ℚ (dot b b)
    value = dot-scaled b (neg_ℚ one_ℚ) b ∙ neg_mul one_ℚ (dot b b) ∙ ap neg_ℚ (one_mul (dot b b))

    go : (dot b b ≡ zero_ℚ) ⊎ (zero_ℚ <ℚ dot b b) → IsGenerated n [] b ⊎ IsSeparated n [] b
    go (inl e) = inl (record { multipliers = []; one_each = refl; at_least_zero = nonneg-nil; combined = square_sum_zero n b h e })
    go (inr p) = inr (record {
      vector = minus;
      in_cone = record { wide = length-scaled (neg_ℚ one_ℚ) b ∙ h; within = All-nil (HoldsAt minus) };
      below = negative_of_neg (dot b minus) (subst (λ (x : ℚ). zero_ℚ <ℚ x) (sym (neg_neg (dot b b)) ∙ ap neg_ℚ (sym value)) p);
    })

-- ---- a further row e, at a vector z with e . z = -1
module _ (n : ℕ) (e z : List ℚ) (at_e : dot e z ≡ neg_ℚ one_ℚ) where
  -- a row changed by a multiple of e so that it is 0 at z
  unfoldable pub cleared : List ℚ → List ℚ
  cleared a = plus a (scaled (dot a z) e)

  pub cleared_value : (a x : List ℚ) → dot (cleared a) x ≡ dot a x +ℚ dot a z *ℚ dot e x
  unfolding cleared
  cleared_value a x = dot-plus_left a (scaled (dot a z) e) x ∙ ap (λ y. dot a x +ℚ y) (dot-scaled_left (dot a z) e x)

  pub cleared_width : length e ≡ n → (a : List ℚ) → length a ≡ n → length (cleared a) ≡ n
  unfolding cleared
  cleared_width h a k = length-plus n a _ k (length-scaled _ e ∙ h)

  -- the point of the line through x along z at which e is 0
  moved : List ℚ → List ℚ
  moved x = plus x (scaled (dot e x) z)

  moved_width : length z ≡ n → (x : List ℚ) → length x ≡ n → length (moved x) ≡ n
  unfolding moved
  moved_width h x k = length-plus n x _ k (length-scaled _ z ∙ h)

  moved_value : (a x : List ℚ) → dot a (moved x) ≡ dot (cleared a) x
  unfolding moved
  moved_value a x = dot-plus a x (scaled (dot e x) z) ∙ ap (λ y. dot a x +ℚ y) (dot-scaled a (dot e x) z ∙ mul_comm (dot e x) (dot a z)) ∙ sym
      (cleared_value a x)

  moved_zero : (x : List ℚ) → dot e (moved x) ≡ zero_ℚ
  moved_zero x = moved_value e x ∙ cleared_value e x ∙ ap (λ y. dot e x +ℚ y *ℚ dot e x) at_e
      ∙ ap (λ y. dot e x +ℚ y) (neg_mul one_ℚ (dot e x) ∙ ap neg_ℚ (one_mul (dot e x))) ∙ add_neg (dot e x)

  -- a combination of the changed rows is the combination of the rows and a multiple of e
  pub cleared_sum : (ls : List ℚ) (rows : List (List ℚ)) (x : List ℚ) → dot ls (values (map cleared rows) x) ≡ dot ls (values rows x) +ℚ dot ls
      (values rows z) *ℚ dot e x
  cleared_sum [] rows x = sym (zero_add _ ∙ zero_mul (dot e x))
  cleared_sum (l ∷ ls) [] x = sym (zero_add _ ∙ zero_mul (dot e x))
  cleared_sum (l ∷ ls) (a ∷ rows) x = ap₂ (λ p q. l *ℚ p +ℚ q) (cleared_value a x) (cleared_sum ls rows x) ∙ collect l (dot a x) (dot a z) (dot e x)
      (dot ls (values rows x)) (dot ls (values rows z))
    where
      collect : (l p q r s t : ℚ) → l *ℚ (p +ℚ q *ℚ r) +ℚ (s +ℚ t *ℚ r) ≡ (l *ℚ p +ℚ s) +ℚ (l *ℚ q +ℚ t) *ℚ r
      collect l p q r s t = simp ring_rules

-- ---- the step
module _ (n : ℕ) (e : List ℚ) (rows : List (List ℚ)) (b z : List ℚ) (at_e : dot e z ≡ neg_ℚ one_ℚ) (wide : AreWide n (e ∷ rows)) (width : length b ≡ n) (z_width : length z ≡ n)
    (holds : All (HoldsAt z) rows) (below : dot b z <ℚ zero_ℚ) where
  changed : List ℚ → List ℚ
  changed a = cleared n e z at_e a

  last : List ℚ → ℚ
  last ls = dot ls (values rows z) +ℚ neg_ℚ (dot b z)

  last_nonneg : (ls : List ℚ) → AtLeastZero ls → zero_ℚ ≤ℚ last ls
  unfolding last
  last_nonneg ls h = add_nonneg (dot ls (values rows z)) (neg_ℚ (dot b z)) (dot_nonneg ls (values rows z) h (values_nonneg rows z holds))
      (neg_nonneg (dot b z) (le_of_lt (dot b z) zero_ℚ below))

  solved : (p q s t y : ℚ) → p +ℚ y *ℚ q ≡ s +ℚ t *ℚ q → p ≡ (t +ℚ neg_ℚ y) *ℚ q +ℚ s
  solved p q s t y h = add_cancel p ((t +ℚ neg_ℚ y) *ℚ q +ℚ s) (y *ℚ q) (h ∙ sym (gather (neg_ℚ y) (add_neg y)))
    where
      gather : (m : ℚ) → y +ℚ m ≡ zero_ℚ → ((t +ℚ m) *ℚ q +ℚ s) +ℚ y *ℚ q ≡ s +ℚ t *ℚ q
      gather m k = regroup m ∙ ap (λ v. (s +ℚ t *ℚ q) +ℚ v *ℚ q) k ∙ ap (λ v. (s +ℚ t *ℚ q) +ℚ v) (zero_mul q) ∙ add_zero (s +ℚ t *ℚ q)
        where
          regroup : (m : ℚ) → ((t +ℚ m) *ℚ q +ℚ s) +ℚ y *ℚ q ≡ (s +ℚ t *ℚ q) +ℚ (y +ℚ m) *ℚ q
          regroup m = simp ring_rules

  -- b's combination of the changed rows, as a combination of e and the rows
  generated_back : IsGenerated n (map changed rows) (changed b) → IsGenerated n (e ∷ rows) b
  unfolding changed last
  generated_back g =
      generated_by_values n (e ∷ rows) b (last g.multipliers ∷ g.multipliers) wide width (ap suc (g.one_each ∙ length-map rows changed))
      (nonneg-cons (last g.multipliers) g.multipliers (last_nonneg g.multipliers g.at_least_zero) g.at_least_zero)
      (λ r. dot_comm r b
      ∙ solved (dot b r) (dot e r) (dot g.multipliers (values rows r)) (dot g.multipliers (values rows z)) (dot b z)
      (sym (cleared_value n e z at_e b r) ∙ ap (λ v. dot v r) g.combined ∙ dot-combination_left n g.multipliers (map changed rows) r
      ∙ cleared_sum n e z at_e g.multipliers rows r))

  separated_back : IsSeparated n (map changed rows) (changed b) → IsSeparated n (e ∷ rows) b
  unfolding changed
  separated_back s = record {
    vector = moved n e z at_e s.vector;
    in_cone = record {
      wide = moved_width n e z at_e z_width s.vector s.in_cone.wide;
      within = All-cons (HoldsAt (moved n e z at_e s.vector)) e rows (le_of_eq zero_ℚ _ (sym (moved_zero n e z at_e s.vector)))
          (All-weaker (λ a. HoldsAt s.vector (changed a)) (HoldsAt (moved n e z at_e s.vector))
          (λ a h. subst (λ (x : ℚ). zero_ℚ ≤ℚ x) (sym (moved_value n e z at_e a s.vector)) h) rows
          (all_from_map (HoldsAt s.vector) changed rows s.in_cone.within));
    };
    below = subst (λ (x : ℚ). x <ℚ zero_ℚ) (sym (moved_value n e z at_e b s.vector)) s.below;
  }

  changed_rows : AreWide n (map changed rows)
  unfolding changed
  changed_rows = wide-map n changed rows (cleared_width n e z at_e (wide-head n e rows wide)) (wide-tail n e rows wide)

  changed_width : length (changed b) ≡ n
  unfolding changed
  changed_width = cleared_width n e z at_e (wide-head n e rows wide) b width

  step : ((rows' : List (List ℚ)) (b' : List ℚ) → length rows' ≡ length rows → AreWide n rows' → length b' ≡ n →
      IsGenerated n rows' b' ⊎ IsSeparated n rows' b') → IsGenerated n (e ∷ rows) b ⊎ IsSeparated n (e ∷ rows) b
  step again = go (again (map changed rows) (changed b) (length-map rows changed) changed_rows changed_width)
    where
      go : IsGenerated n (map changed rows) (changed b) ⊎ IsSeparated n (map changed rows) (changed b) → IsGenerated n (e ∷ rows) b ⊎ IsSeparated n (e ∷ rows) b
      go (inl g) = inl (generated_back g)
      go (inr s) = inr (separated_back s)

-- z scaled so that e is -1 at it
module _ (n : ℕ) (e : List ℚ) (rows : List (List ℚ)) (b : List ℚ) (s : IsSeparated n rows b) (negative : dot e s.vector <ℚ zero_ℚ) where
  factor : ℚ
  factor = inverse_ℚ (neg_ℚ (dot e s.vector))

  factor_positive : zero_ℚ <ℚ factor
  unfolding factor
  factor_positive = inverse_positive (neg_ℚ (dot e s.vector)) (neg_positive (dot e s.vector) negative)

  unit : List ℚ
  unit = scaled factor s.vector

  unit_value : dot e unit ≡ neg_ℚ one_ℚ
  unfolding unit factor
  unit_value = dot-scaled e factor s.vector ∙ mul_comm factor (dot e s.vector) ∙ sym (neg_neg _)
      ∙ ap neg_ℚ (sym (neg_mul (dot e s.vector) factor) ∙ mul_inverse (neg_ℚ (dot e s.vector)) (neg_positive (dot e s.vector) negative))

  unit_width : length unit ≡ n
  unfolding unit
  unit_width = length-scaled factor s.vector ∙ s.in_cone.wide

  unit_holds : All (HoldsAt unit) rows
  unfolding unit
  unit_holds = All-weaker (HoldsAt s.vector) (HoldsAt unit)
      (λ r h. subst (λ (x : ℚ). zero_ℚ ≤ℚ x) (sym (dot-scaled r factor s.vector))
      (mul_nonneg factor (dot r s.vector) (le_of_lt zero_ℚ factor factor_positive) h)) rows s.in_cone.within

  unit_below : dot b unit <ℚ zero_ℚ
  unfolding unit
  unit_below = subst (λ (x : ℚ). x <ℚ zero_ℚ) (sym (dot-scaled b factor s.vector)) (mul_negative factor (dot b s.vector) factor_positive s.below)

farkas_by : (m n : ℕ) (rows : List (List ℚ)) (b : List ℚ) → length rows ≡ m → AreWide n rows → length b ≡ n → IsGenerated n rows b ⊎ IsSeparated n rows b
farkas_by zero n [] b l w h = no_row n b h
farkas_by zero n (e ∷ rows) b l w h = absurd (omega arith)
farkas_by (suc m) n [] b l w h = no_row n b h
farkas_by (suc m) n (e ∷ rows) b l w h = first (farkas_by m n rows b fewer (wide-tail n e rows w) h) (λ rows' b' k. farkas_by m n rows' b' (k ∙ fewer))
  where
    fewer : length rows ≡ m
    fewer = omega arith

    first : IsGenerated n rows b ⊎ IsSeparated n rows b →
        ((rows' : List (List ℚ)) (b' : List ℚ) → length rows' ≡ length rows → AreWide n rows' → length b' ≡ n →
        IsGenerated n rows' b' ⊎ IsSeparated n rows' b') → IsGenerated n (e ∷ rows) b ⊎ IsSeparated n (e ∷ rows) b
    first (inl g) again = inl (more_generators n e rows b w g)
    first (inr s) again = second (le_or_lt zero_ℚ (dot e s.vector))
      where
        second : (zero_ℚ ≤ℚ dot e s.vector) ⊎ (dot e s.vector <ℚ zero_ℚ) → IsGenerated n (e ∷ rows) b ⊎ IsSeparated n (e ∷ rows) b
        second (inl k) = inr (record {
          vector = s.vector;
          in_cone = record {
            wide = s.in_cone.wide;
            within = All-cons
                (HoldsAt s.vector) e rows k s.in_cone.within;
          };
          below = s.below;
        })
        second (inr k) = step n e rows b (unit n e rows b s k) (unit_value n e rows b s k) w h (unit_width n e rows b s k)
            (unit_holds n e rows b s k) (unit_below n e rows b s k) again

pub farkas : FarkasLemma
farkas n rows b w h = farkas_by (length rows) n rows b refl w h

pub cut_holds : CutHolds
cut_holds n rows rights objectives w u x y d h m e p =
    le_trans (dot rights u) (dot w (values objectives x)) (dot w y)
    (subst (λ (a : ℚ). dot rights u ≤ℚ a) (dot-combination_left n w objectives x) (weak_duality n rows rights (combination n w objectives) u x h m))
    (le_of_difference (dot w (values objectives x)) (dot w y) (dot w d) p (sym (ap (λ v. dot w v) e ∙ dot-plus w (values objectives x) d)))
