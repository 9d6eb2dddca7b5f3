-- The image of a polyhedron, widened by a convex cone, is convex.
use Rattle.std.proofs.Common.{◌≡◌, ℕ, List, [], ◌∷◌, length, refl, sym, ap, ap₂, ◌∙◌, subst, pos}
use Rattle.std.proofs.lemmas.List.{length-map}
use Rattle.exact_field.specs.Rational.{ℚ, zero_ℚ, one_ℚ, ◌+ℚ◌, ◌*ℚ◌, neg_ℚ, ◌≤ℚ◌}
use Rattle.exact_field.specs.Vector.{dot}
use Rattle.exact_field.specs.Ring.{v0, v1, ◌⊕◌, ◌⊗◌, ◌⊝◌, num}
use Rattle.exact_field.proofs.RingTool.{ring}
use Rattle.exact_field.proofs.Rationals.{rationals}
use Rattle.polyhedra.specs.Vectors.{zeros, plus, scaled, values}
use Rattle.polyhedra.specs.Farkas.{Meets}
use Rattle.polyhedra.specs.Hull.{IsConvex}
use Rattle.polyhedra.specs.Image.{IsConvexCone, IsImage, ImageIsConvex}
use Rattle.polyhedra.proofs.Laws.{add_zero, le_refl, le_of_lt, mul_nonneg}
use Rattle.polyhedra.proofs.Algebra.{zero_add, ring_rules}
use Rattle.polyhedra.proofs.Order.{add_le_both, difference_nonneg, le_of_eq, mul_le}
use Rattle.polyhedra.proofs.Linear.{dot-plus, dot-scaled, dot-zeros, length-plus, length-scaled, length-zeros, same_wide}

-- ---- solutions
mean_le : (l b p q : ℚ) → zero_ℚ ≤ℚ l → l ≤ℚ one_ℚ → b ≤ℚ p → b ≤ℚ q → b ≤ℚ (one_ℚ +ℚ neg_ℚ l) *ℚ p +ℚ l *ℚ q
mean_le l b p q h k s t =
    subst (λ (x : ℚ). x ≤ℚ (one_ℚ +ℚ neg_ℚ l) *ℚ p +ℚ l *ℚ q) (ring rationals (l ∷ b ∷ []) ((num (pos 1) ⊝ v0) ⊗ v1 ⊕ v0 ⊗ v1) v1 refl)
    (add_le_both ((one_ℚ +ℚ neg_ℚ l) *ℚ b) ((one_ℚ +ℚ neg_ℚ l) *ℚ p) (l *ℚ b) (l *ℚ q)
    (mul_le (one_ℚ +ℚ neg_ℚ l) b p (difference_nonneg l one_ℚ k) s) (mul_le l b q h t))

meets_mean : (l : ℚ) (rows : List (List ℚ)) (rights a b : List ℚ) → zero_ℚ ≤ℚ l → l ≤ℚ one_ℚ → Meets rows rights a → Meets rows rights b →
    Meets rows rights (plus (scaled (one_ℚ +ℚ neg_ℚ l) a) (scaled l b))
meets_mean l [] [] a b h k s t = tt
meets_mean l [] (c ∷ rights) a b h k s t = absurd s
meets_mean l (r ∷ rows) [] a b h k s t = absurd s
meets_mean l (r ∷ rows) (c ∷ rights) a b h k s t = (
  subst (λ (x : ℚ). c ≤ℚ x) (sym (dot-plus r (scaled (one_ℚ +ℚ neg_ℚ l) a) (scaled l b) ∙ ap₂ (λ x y. x +ℚ y) (dot-scaled r (one_ℚ +ℚ neg_ℚ l) a)
      (dot-scaled r l b)))
      (mean_le l c (dot r a) (dot r b) h k s.0 t.0),
  meets_mean l rows rights a b h k s.1 t.1,
)

meets_more : (rows : List (List ℚ)) (rights a b : List ℚ) → Meets rows rights a → Meets rows (zeros (length rows)) b → Meets rows rights (plus a b)
meets_more [] [] a b s t = tt
meets_more [] (c ∷ rights) a b s t = absurd s
meets_more (r ∷ rows) [] a b s t = absurd s
meets_more (r ∷ rows) (c ∷ rights) a b s t = (
  subst (λ (x : ℚ). c ≤ℚ x) (sym (dot-plus r a b)) (subst (λ (x : ℚ). x ≤ℚ dot r a +ℚ dot r b) (add_zero c)
      (add_le_both c (dot r a) zero_ℚ (dot r b) s.0 t.0)),
  meets_more rows rights a b s.1 t.1,
)

meets_zero : (n : ℕ) (rows : List (List ℚ)) → Meets rows (zeros (length rows)) (zeros n)
meets_zero n [] = tt
meets_zero n (r ∷ rows) = (le_of_eq zero_ℚ (dot r (zeros n)) (sym (dot-zeros r n)), meets_zero n rows)

meets_multiple : (s : ℚ) (rows : List (List ℚ)) (a : List ℚ) → zero_ℚ ≤ℚ s → Meets rows (zeros (length rows)) a → Meets rows (zeros (length rows)) (scaled s a)
meets_multiple s [] a h t = tt
meets_multiple s (r ∷ rows) a h t = (subst (λ (x : ℚ). zero_ℚ ≤ℚ x) (sym (dot-scaled r s a)) (mul_nonneg s (dot r a) h t.0), meets_multiple s rows a h t.1)

-- ---- the objectives are linear
values-plus : (rows : List (List ℚ)) (a b : List ℚ) → values rows (plus a b) ≡ plus (values rows a) (values rows b)
values-plus [] a b = refl
values-plus (r ∷ rows) a b = ap₂ (λ x y. x ∷ y) (dot-plus r a b) (values-plus rows a b)

values-scaled : (rows : List (List ℚ)) (s : ℚ) (a : List ℚ) → values rows (scaled s a) ≡ scaled s (values rows a)
values-scaled [] s a = refl
values-scaled (r ∷ rows) s a = ap₂ (λ x y. x ∷ y) (dot-scaled r s a) (values-scaled rows s a)

values-zeros : (rows : List (List ℚ)) (n : ℕ) → values rows (zeros n) ≡ zeros (length rows)
values-zeros [] n = refl
values-zeros (r ∷ rows) n = ap₂ (λ x y. x ∷ y) (dot-zeros r n) (values-zeros rows n)

length-values : (q : ℕ) (rows : List (List ℚ)) (a : List ℚ) → length rows ≡ q → length (values rows a) ≡ q
length-values q rows a h = length-map rows (λ r. dot r a) ∙ h

module _ (Cone : List ℚ → Type 0) (n q : ℕ) (rows : List (List ℚ)) (rights : List ℚ) (objectives : List (List ℚ)) (q_is : length objectives ≡ q) (cone : IsConvexCone q Cone) where
  value_width : (x : List ℚ) → length (values objectives x) ≡ q
  value_width x = length-values q objectives x q_is

  image_width : (bs : List ℚ) (y : List ℚ) → IsImage n rows bs objectives Cone y → length y ≡ q
  image_width bs y h = ap length h.same ∙ length-plus q (values objectives h.solution) h.beyond (value_width h.solution) (cone.wide h.beyond h.in_cone)

  -- a sum and a multiple of images
  sum_same : (x d u e y z : List ℚ) → y ≡ plus (values objectives x) d → z ≡ plus (values objectives u) e → length d ≡ q → length e ≡ q →
      plus y z ≡ plus (values objectives (plus x u)) (plus d e)
  sum_same x d u e y z h k s t =
      ap₂ (λ a b. plus a b) h k
      ∙ same_wide q (plus (plus (values objectives x) d) (plus (values objectives u) e)) (plus (values objectives (plus x u)) (plus d e))
      (length-plus q (plus (values objectives x) d) (plus (values objectives u) e) (length-plus q (values objectives x) d (value_width x) s)
      (length-plus q (values objectives u) e (value_width u) t))
      (length-plus q (values objectives (plus x u)) (plus d e) (value_width (plus x u)) (length-plus q d e s t))
      (λ r. dot-plus r (plus (values objectives x) d) (plus (values objectives u) e) ∙ ap₂ (λ a b. a +ℚ b) (dot-plus r (values objectives x) d)
      (dot-plus r (values objectives u) e)
      ∙ regroup (dot r (values objectives x)) (dot r d) (dot r (values objectives u)) (dot r e)
      ∙ sym (dot-plus r (values objectives (plus x u)) (plus d e) ∙ ap₂ (λ a b. a +ℚ b)
      (ap (λ v. dot r v) (values-plus objectives x u) ∙ dot-plus r (values objectives x) (values objectives u)) (dot-plus r d e)))
    where
      regroup : (a b c f : ℚ) → (a +ℚ b) +ℚ (c +ℚ f) ≡ (a +ℚ c) +ℚ (b +ℚ f)
      regroup a b c f = simp ring_rules

  multiple_same : (s : ℚ) (x d y : List ℚ) → y ≡ plus (values objectives x) d → length d ≡ q → scaled s y ≡ plus (values objectives (scaled s x)) (scaled s d)
  multiple_same s x d y h t =
      ap (λ v. scaled s v) h
      ∙ same_wide q (scaled s (plus (values objectives x) d)) (plus (values objectives (scaled s x)) (scaled s d))
      (length-scaled s (plus (values objectives x) d) ∙ length-plus q (values objectives x) d (value_width x) t)
      (length-plus q (values objectives (scaled s x)) (scaled s d) (value_width (scaled s x)) (length-scaled s d ∙ t))
      (λ r. dot-scaled r s (plus (values objectives x) d) ∙ ap (λ a. s *ℚ a) (dot-plus r (values objectives x) d)
      ∙ Rattle.polyhedra.proofs.Laws.mul_add s (dot r (values objectives x)) (dot r d)
      ∙ sym (dot-plus r (values objectives (scaled s x)) (scaled s d) ∙ ap₂ (λ a b. a +ℚ b)
      (ap (λ v. dot r v) (values-scaled objectives s x) ∙ dot-scaled r s (values objectives x)) (dot-scaled r s d)))

  more : (bs : List ℚ) (y d : List ℚ) → IsImage n rows bs objectives Cone y → IsImage n rows (zeros (length rows)) objectives Cone d →
      IsImage n rows bs objectives Cone (plus y d)
  more bs y d h k = record {
    solution = plus h.solution k.solution;
    wide = length-plus n h.solution k.solution h.wide k.wide;
    meets = meets_more rows bs h.solution k.solution h.meets k.meets;
    beyond = plus h.beyond k.beyond;
    in_cone = cone.sum h.beyond k.beyond h.in_cone k.in_cone;
    same = sum_same h.solution h.beyond k.solution k.beyond y d h.same k.same (cone.wide h.beyond h.in_cone) (cone.wide k.beyond k.in_cone);
  }

  mean_of : (l : ℚ) (a b : List ℚ) → zero_ℚ ≤ℚ l → l ≤ℚ one_ℚ → IsImage n rows rights objectives Cone a → IsImage n rows rights objectives Cone b →
      IsImage n rows rights objectives Cone (plus (scaled (one_ℚ +ℚ neg_ℚ l) a) (scaled l b))
  mean_of l a b p t h k =
      let m : ℚ = one_ℚ +ℚ neg_ℚ l in
      let m_nonneg : zero_ℚ ≤ℚ m = difference_nonneg l one_ℚ t in
      record {
        solution = plus (scaled m h.solution) (scaled l k.solution);
        wide = length-plus n (scaled m h.solution) (scaled l k.solution) (length-scaled m h.solution ∙ h.wide) (length-scaled l k.solution ∙ k.wide);
        meets = meets_mean l rows rights h.solution k.solution p t h.meets k.meets;
        beyond = plus (scaled m h.beyond) (scaled l k.beyond);
        in_cone = cone.sum (scaled m h.beyond) (scaled l k.beyond) (cone.multiple m h.beyond m_nonneg h.in_cone) (cone.multiple l k.beyond p k.in_cone);
        same = sum_same (scaled m h.solution) (scaled m h.beyond) (scaled l k.solution) (scaled l k.beyond) (scaled m a) (scaled l b)
            (multiple_same m h.solution h.beyond a h.same (cone.wide h.beyond h.in_cone))
            (multiple_same l k.solution k.beyond b k.same (cone.wide k.beyond k.in_cone))
            (length-scaled m h.beyond ∙ cone.wide h.beyond h.in_cone) (length-scaled l k.beyond ∙ cone.wide k.beyond k.in_cone);
      }

  convex : IsConvex q (IsImage n rows rights objectives Cone) (IsImage n rows (zeros (length rows)) objectives Cone)
  convex = record {
    wide = image_width rights;
    directions_wide = image_width (zeros (length rows));
    mean = mean_of;
    recedes = more rights;
    direction_zero = record {
      solution = zeros n;
      wide = length-zeros n;
      meets = meets_zero n rows;
      beyond = zeros q;
      in_cone = cone.zero;
      same = same_wide q (zeros q) (plus (values objectives (zeros n)) (zeros q)) (length-zeros q)
          (length-plus q (values objectives (zeros n)) (zeros q) (value_width (zeros n)) (length-zeros q))
          (λ r. sym (dot-plus r (values objectives (zeros n)) (zeros q) ∙ ap (λ x. x +ℚ dot r (zeros q))
          (ap (λ v. dot r v) (values-zeros objectives n) ∙ dot-zeros r (length objectives)) ∙ zero_add (dot r (zeros q))));
    };
    direction_sum = more (zeros (length rows));
    direction_multiple = λ s d p h. record {
      solution = scaled s h.solution;
      wide = length-scaled s h.solution ∙ h.wide;
      meets = meets_multiple s rows h.solution p h.meets;
      beyond = scaled s h.beyond;
      in_cone = cone.multiple s h.beyond p h.in_cone;
      same = multiple_same s h.solution h.beyond d h.same (cone.wide h.beyond h.in_cone);
    };
  }

pub image_is_convex : (Cone : List ℚ → Type 0) → ImageIsConvex Cone
image_is_convex Cone n q rows rights objectives q_is cone = convex Cone n q rows rights objectives q_is cone
