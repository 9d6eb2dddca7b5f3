-- Cones that are given by generators and described by rows: their rays, and members less one of their support.
use Rattle.std.proofs.Common.{◌≡◌, ℕ, suc, List, [], ◌∷◌, ◌++◌, length, All, Contains, refl, sym, ap, ap₂, ◌∙◌, subst, arith, ◌⊎◌, inl, inr}
use Rattle.std.proofs.lemmas.List.Elements.{All-head, All-tail}
use Rattle.exact_field.specs.Rational.{ℚ, zero_ℚ, ◌+ℚ◌, ◌*ℚ◌, ◌≤ℚ◌, ◌<ℚ◌}
use Rattle.exact_field.specs.Vector.{dot, sum_ℚ}
use Rattle.polyhedra.specs.Vectors.{AreWide, plus, scaled, values, combination, AtLeastZero}
use Rattle.polyhedra.specs.Cone.{IsGenerated, IsInCone}
use Rattle.polyhedra.specs.TightSets.{IsTight, LiesIn, AreApart, IsDoubleDescriptionPair}
use Rattle.polyhedra.proofs.Laws.{add_assoc, le_refl}
use Rattle.polyhedra.proofs.Algebra.{zero_add, zero_mul, add_mul, add_left_comm}
use Rattle.polyhedra.proofs.Order.{zero_or_positive, add_nonneg}
use Rattle.polyhedra.proofs.Linear.{dot_comm, dot-plus, dot-scaled, dot-combination, length-plus, length-scaled, length-combination, same_wide}
use Rattle.polyhedra.proofs.Lists.{HoldsAt, nonneg-nil, nonneg-cons, nonneg-head, nonneg-tail}
use Rattle.polyhedra.proofs.Members.{all_of_members, member_of, pairs_of_members}
use Rattle.polyhedra.proofs.TightRows.{same_vector_or_not}
use Rattle.polyhedra.proofs.Generated.{generated_value, generated_width, generated_zero, generated_plus, generated_scaled}
use Rattle.polyhedra.proofs.Support.{InSupport, support_listed, support_zero}

-- ---- cones within cones
combination_through : (n : ℕ) (gens gens' : List (List ℚ)) (ms : List ℚ) → AreWide n gens' → AtLeastZero ms → All (IsGenerated n gens') gens →
    IsGenerated n gens' (combination n ms gens)
combination_through n gens gens' [] wide h k = generated_zero n gens' wide
combination_through n [] gens' (m ∷ ms) wide h k = generated_zero n gens' wide
combination_through n (g ∷ gens) gens' (m ∷ ms) wide h k =
    generated_plus n gens' (scaled m g) (combination n ms gens) wide
    (generated_scaled n gens' m g wide (nonneg-head m ms h) (All-head (IsGenerated n gens') g gens k))
    (combination_through n gens gens' ms wide (nonneg-tail m ms h) (All-tail (IsGenerated n gens') g gens k))

pub generated_through : (n : ℕ) (gens gens' : List (List ℚ)) (z : List ℚ) → AreWide n gens' → All (IsGenerated n gens') gens → IsGenerated n gens z →
    IsGenerated n gens' z
generated_through n gens gens' z wide k g = subst (λ (v : List ℚ). IsGenerated n gens' v) (sym g.combined)
    (combination_through n gens gens' g.multipliers wide g.at_least_zero k)

-- a member of a cone of two lists is a sum of members of their cones
pub record IsSumOf (n : ℕ) (xs ys : List (List ℚ)) (z : List ℚ) : Type 0 where
  pub first : List ℚ
  pub second : List ℚ
  pub first_is : IsGenerated n xs first
  pub second_is : IsGenerated n ys second
  pub same : z ≡ plus first second

split_append : (n : ℕ) (xs ys : List (List ℚ)) (ms : List ℚ) → length ms ≡ length (xs ++ ys) → AtLeastZero ms →
    (us : List ℚ) × (bs : List ℚ) × (length us ≡ length xs) × (length bs ≡ length ys) × AtLeastZero us × AtLeastZero bs ×
    ((r : List ℚ) → dot ms (values (xs ++ ys) r) ≡ dot us (values xs r) +ℚ dot bs (values ys r))
split_append n [] ys ms l h = ([], ms, refl, l, nonneg-nil, h, λ r. sym (zero_add (dot ms (values ys r))))
split_append n (x ∷ xs) ys [] l h = absurd (omega arith)
split_append n (x ∷ xs) ys (m ∷ ms) l h =
    let s : (us : List ℚ) × (bs : List ℚ) × (length us ≡ length xs) × (length bs ≡ length ys) × AtLeastZero us × AtLeastZero bs ×
    ((r : List ℚ) → dot ms (values (xs ++ ys) r) ≡ dot us (values xs r) +ℚ dot bs (values ys r)) =
    split_append n xs ys ms (omega arith) (nonneg-tail m ms h) in (
      m ∷ s.0,
      s.1,
      ap suc s.2,
      s.3,
      nonneg-cons m s.0 (nonneg-head m ms h) s.4,
      s.5,
      λ r. ap (λ a. m *ℚ dot x r +ℚ a) (s.6 r) ∙ sym (add_assoc (m *ℚ dot x r) (dot s.0 (values xs r)) (dot s.1 (values ys r))),
    )

pub generated_append : (n : ℕ) (xs ys : List (List ℚ)) (z : List ℚ) → AreWide n xs → AreWide n ys → length z ≡ n → IsGenerated n (xs ++ ys) z →
    IsSumOf n xs ys z
generated_append n xs ys z xs_wide ys_wide width g =
    let s : (us : List ℚ) × (bs : List ℚ) × (length us ≡ length xs) × (length bs ≡ length ys) × AtLeastZero us × AtLeastZero bs ×
    ((r : List ℚ) → dot g.multipliers (values (xs ++ ys) r) ≡ dot us (values xs r) +ℚ dot bs (values ys r)) =
    split_append n xs ys g.multipliers g.one_each g.at_least_zero in
    record {
      first = combination n s.0 xs;
      second = combination n s.1 ys;
      first_is = record { multipliers = s.0; one_each = s.2; at_least_zero = s.4; combined = refl };
      second_is = record { multipliers = s.1; one_each = s.3; at_least_zero = s.5; combined = refl };
      same = same_wide n z (plus (combination n s.0 xs) (combination n s.1 ys)) width
          (length-plus n (combination n s.0 xs) (combination n s.1 ys) (length-combination n s.0 xs xs_wide) (length-combination n s.1 ys ys_wide))
          (λ r. generated_value n (xs ++ ys) z g r ∙ s.6 r
          ∙ sym (dot-plus r (combination n s.0 xs) (combination n s.1 ys) ∙ ap₂ (λ a b. a +ℚ b) (dot-combination n r s.0 xs) (dot-combination n r s.1 ys)));
    }

-- ---- a member less one of its support
pub record IsSplit (n : ℕ) (gens : List (List ℚ)) (z g : List ℚ) : Type 0 where
  pub factor : ℚ
  pub positive : zero_ℚ <ℚ factor
  pub others : List ℚ
  pub others_is : IsGenerated n gens others
  pub same : z ≡ plus (scaled factor g) others

split_values : (ms : List ℚ) (gens : List (List ℚ)) (g : List ℚ) → length ms ≡ length gens → AtLeastZero ms → InSupport ms gens g →
    (l : ℚ) × (ls : List ℚ) × (zero_ℚ <ℚ l) × (length ls ≡ length gens) × AtLeastZero ls ×
    ((r : List ℚ) → dot ms (values gens r) ≡ l *ℚ dot g r +ℚ dot ls (values gens r))
split_values [] gens g l h s = absurd s
split_values (m ∷ ms) [] g l h s = absurd s
split_values (m ∷ ms) (v ∷ gens) g l h s = go s (λ t. split_values ms gens g (omega arith) (nonneg-tail m ms h) t)
  where
    go : ((zero_ℚ <ℚ m) × (v ≡ g)) ⊎ InSupport ms gens g →
        (InSupport ms gens g → (q : ℚ) × (ls : List ℚ) × (zero_ℚ <ℚ q) × (length ls ≡ length gens) × AtLeastZero ls ×
        ((r : List ℚ) → dot ms (values gens r) ≡ q *ℚ dot g r +ℚ dot ls (values gens r))) →
        (q : ℚ) × (ls : List ℚ) × (zero_ℚ <ℚ q) × (length ls ≡ length (v ∷ gens)) × AtLeastZero ls ×
        ((r : List ℚ) → dot (m ∷ ms) (values (v ∷ gens) r) ≡ q *ℚ dot g r +ℚ dot ls (values (v ∷ gens) r))
    go (inl t) again = (
      m,
      zero_ℚ ∷ ms,
      t.0,
      l,
      nonneg-cons zero_ℚ ms (le_refl zero_ℚ) (nonneg-tail m ms h),
      λ r. ap (λ w. m *ℚ dot w r +ℚ dot ms (values gens r)) t.1
          ∙ ap (λ a. m *ℚ dot g r +ℚ a) (sym (ap (λ a. a +ℚ dot ms (values gens r)) (zero_mul (dot v r)) ∙ zero_add (dot ms (values gens r)))),
    )
    go (inr t) again =
        let u : (q : ℚ) × (ls : List ℚ) × (zero_ℚ <ℚ q) × (length ls ≡ length gens) × AtLeastZero ls ×
        ((r : List ℚ) → dot ms (values gens r) ≡ q *ℚ dot g r +ℚ dot ls (values gens r)) = again t in (
          u.0,
          m ∷ u.1,
          u.2,
          ap suc u.3,
          nonneg-cons m u.1 (nonneg-head m ms h) u.4,
          λ r. ap (λ a. m *ℚ dot v r +ℚ a) (u.5 r) ∙ add_left_comm (m *ℚ dot v r) (u.0 *ℚ dot g r) (dot u.1 (values gens r)),
        )

pub split_support : (n : ℕ) (gens : List (List ℚ)) (z g : List ℚ) → AreWide n gens → (s : IsGenerated n gens z) → InSupport s.multipliers gens g →
    IsSplit n gens z g
split_support n gens z g wide s m =
    let u : (q : ℚ) × (ls : List ℚ) × (zero_ℚ <ℚ q) × (length ls ≡ length gens) × AtLeastZero ls ×
    ((r : List ℚ) → dot s.multipliers (values gens r) ≡ q *ℚ dot g r +ℚ dot ls (values gens r)) =
    split_values s.multipliers gens g s.one_each s.at_least_zero m in
    let g_width : length g ≡ n = member_of (λ w. length w ≡ n) gens g wide.wide (support_listed s.multipliers gens g m) in
    record {
      factor = u.0;
      positive = u.2;
      others = combination n u.1 gens;
      others_is = record { multipliers = u.1; one_each = u.3; at_least_zero = u.4; combined = refl };
      same = same_wide n z (plus (scaled u.0 g) (combination n u.1 gens)) (generated_width n gens z wide s)
          (length-plus n (scaled u.0 g) (combination n u.1 gens) (length-scaled u.0 g ∙ g_width) (length-combination n u.1 gens wide))
          (λ r. generated_value n gens z s r ∙ u.5 r
          ∙ sym (dot-plus r (scaled u.0 g) (combination n u.1 gens) ∙ ap₂ (λ a b. a +ℚ b) (dot-scaled r u.0 g ∙ ap (λ x. u.0 *ℚ x) (dot_comm r g))
          (dot-combination n r u.1 gens)));
    }

-- ---- the rays of a described cone
-- where each vector of a support is g, a combination is a multiple of g
only_one : (ms : List ℚ) (gens : List (List ℚ)) (g r : List ℚ) → length ms ≡ length gens → AtLeastZero ms →
    ((v : List ℚ) → InSupport ms gens v → v ≡ g) → dot ms (values gens r) ≡ sum_ℚ ms *ℚ dot g r
only_one [] gens g r l h k = sym (zero_mul (dot g r))
only_one (m ∷ ms) [] g r l h k = absurd (omega arith)
only_one (m ∷ ms) (v ∷ gens) g r l h k =
    ap₂ (λ a b. a +ℚ b) (head_value (zero_or_positive m (nonneg-head m ms h))) (only_one ms gens g r (omega arith) (nonneg-tail m ms h) (λ w s. k w (inr s)))
    ∙ sym (add_mul m (sum_ℚ ms) (dot g r))
  where
    head_value : (m ≡ zero_ℚ) ⊎ (zero_ℚ <ℚ m) → m *ℚ dot v r ≡ m *ℚ dot g r
    head_value (inl e) = ap (λ a. a *ℚ dot v r) e ∙ zero_mul (dot v r) ∙ sym (ap (λ a. a *ℚ dot g r) e ∙ zero_mul (dot g r))
    head_value (inr p) = ap (λ w. m *ℚ dot w r) (k v (inl (p, refl)))

pub sum_nonneg : (ms : List ℚ) → AtLeastZero ms → zero_ℚ ≤ℚ sum_ℚ ms
sum_nonneg [] h = le_refl zero_ℚ
sum_nonneg (m ∷ ms) h = add_nonneg m (sum_ℚ ms) (nonneg-head m ms h) (sum_nonneg ms (nonneg-tail m ms h))

pub record IsOnRay (g a : List ℚ) : Type 0 where
  pub factor : ℚ
  pub at_least_zero : zero_ℚ ≤ℚ factor
  pub same : a ≡ scaled factor g

-- a combination whose support is g alone is on its ray
pub one_ray : (n : ℕ) (gens : List (List ℚ)) (a g : List ℚ) → AreWide n gens → length g ≡ n → (s : IsGenerated n gens a) →
    ((v : List ℚ) → InSupport s.multipliers gens v → v ≡ g) → IsOnRay g a
one_ray n gens a g wide width s k = record {
  factor = sum_ℚ s.multipliers;
  at_least_zero = sum_nonneg s.multipliers s.at_least_zero;
  same = same_wide n a (scaled (sum_ℚ s.multipliers) g) (generated_width n gens a wide s) (length-scaled (sum_ℚ s.multipliers) g ∙ width)
      (λ r. generated_value n gens a s r ∙ only_one s.multipliers gens g r s.one_each s.at_least_zero k
      ∙ sym (dot-scaled r (sum_ℚ s.multipliers) g ∙ ap (λ x. sum_ℚ s.multipliers *ℚ x) (dot_comm r g)));
}

module _ (n : ℕ) (rows gens : List (List ℚ)) (d : IsDoubleDescriptionPair n rows gens) where
  pub gens_same : (a b : List ℚ) → Contains gens a → Contains gens b → LiesIn rows a b → a ≡ b
  gens_same a b h k l = go (same_vector_or_not a b)
    where
      go : (a ≡ b) ⊎ (a ≡ b → ⊥) → a ≡ b
      go (inl e) = e
      go (inr e) = absurd ((pairs_of_members (AreApart rows) (λ x y m. record { first = m.second; second = m.first }) gens a b d.apart h k e).first l)

  pub in_support_lies : (z g : List ℚ) (s : IsGenerated n gens z) → InSupport s.multipliers gens g → LiesIn rows z g
  in_support_lies z g s m = all_of_members (λ r. IsTight r z → IsTight r g) rows (λ r c e.
      dot_comm r g ∙ support_zero s.multipliers gens g r s.at_least_zero
      (all_of_members (HoldsAt r) gens (λ v k. subst (λ (x : ℚ). zero_ℚ ≤ℚ x) (dot_comm r v)
      (member_of (HoldsAt v) rows r (member_of (IsInCone n rows) gens v d.inside k).within c)))
      (sym (generated_value n gens z s r) ∙ e) m)

  -- a member that is tight wherever a generator is is on its ray
  pub ray_of : (g a : List ℚ) → Contains gens g → IsInCone n rows a → LiesIn rows g a → IsOnRay g a
  ray_of g a c h l =
      let s : IsGenerated n gens a = d.generates a h in
      one_ray n gens a g d.generators_wide (member_of (IsInCone n rows) gens g d.inside c).wide s
      (λ v m. sym (gens_same g v c (support_listed s.multipliers gens v m)
      (all_of_members (λ r. IsTight r g → IsTight r v) rows
      (λ r k e. member_of (λ w. IsTight w a → IsTight w v) rows r (in_support_lies a v s m) k
      (member_of (λ w. IsTight w g → IsTight w a) rows r l k e)))))

  -- each combination lies in the cone
  pub generated_in : (z : List ℚ) → IsGenerated n gens z → IsInCone n rows z
  generated_in z g = record {
    wide = generated_width n gens z d.generators_wide g;
    within = all_of_members (HoldsAt z) rows (λ r c. Rattle.polyhedra.proofs.Farkas.generated_nonneg n gens r z
        (all_of_members (λ v. zero_ℚ ≤ℚ dot r v) gens (λ v k. member_of (HoldsAt v) rows r (member_of (IsInCone n rows) gens v d.inside k).within c)) g);
  }
