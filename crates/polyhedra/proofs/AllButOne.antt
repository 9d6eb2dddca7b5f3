-- Two generators that have all tight rows of one of them in common but one, e: no third generator g
-- is tight at the common rows. At g and at the other one, b, e is positive. So the difference of (e
-- g) b and (e b) g is tight wherever a is, and with a great enough multiple of a it is in the cone:
-- on the ray of a. So (e g) b + s a = (e b) g + t a for some s and t of at least 0: where s is at
-- most t, g is tight wherever b is, and otherwise b wherever g is.
use Rattle.std.proofs.Common.{◌≡◌, ℕ, ◌+◌, ◌≤◌, List, [], ◌∷◌, length, filter, All, Contains, refl, sym, ap, ap₂, ◌∙◌, subst, arith, ◌⊎◌, inl, inr, Bool, true, false, true≢false, cond, ◌&&◌}
use Rattle.std.proofs.lemmas.List.Elements.{All-nil, All-cons}
use Rattle.exact_field.specs.Rational.{ℚ, zero_ℚ, ◌+ℚ◌, ◌*ℚ◌, neg_ℚ, ◌≤ℚ◌, ◌<ℚ◌}
use Rattle.exact_field.specs.Vector.{dot}
use Rattle.exact_field.specs.Ring.{v0, v1, v2, v3, v4, v5, ◌⊕◌, ◌⊗◌, ◌⊝◌}
use Rattle.exact_field.proofs.RingTool.{ring}
use Rattle.exact_field.proofs.Rationals.{rationals}
use Rattle.polyhedra.specs.Vectors.{scaled}
use Rattle.polyhedra.specs.Cone.{IsInCone}
use Rattle.polyhedra.specs.TightSets.{IsTight, LiesIn, Covers, IsDoubleDescriptionPair}
use Rattle.polyhedra.specs.DoubleDescription.{is_zero}
use Rattle.polyhedra.specs.Generators.{tight_rows, common_rows, AllButOneAreUncovered}
use Rattle.polyhedra.proofs.Laws.{add_neg, le_of_lt, mul_nonneg}
use Rattle.polyhedra.proofs.Algebra.{zero_add, mul_zero, neg_mul}
use Rattle.polyhedra.proofs.Order.{zero_or_positive, le_or_lt, difference_nonneg, add_zero_left, product_zero}
use Rattle.polyhedra.proofs.Linear.{dot-scaled, length-plus, length-scaled}
use Rattle.polyhedra.proofs.Lists.{HoldsAt, Contains-here, Contains-there}
use Rattle.polyhedra.proofs.Members.{all_of_members, member_of}
use Rattle.polyhedra.proofs.Tests.{test_of_zero, true-list_all, zero_of_test}
use Rattle.polyhedra.proofs.Cones.{IsOnRay, gens_same, ray_of}
use Rattle.polyhedra.proofs.CoveredPairs.{moved, moved_value, moved_tight}
use Rattle.polyhedra.proofs.CommonRows.{enough}
use Rattle.polyhedra.proofs.NewPairs.{Free, free_test, free_holds}

-- ---- counting
module _ {X : Type 0} (first second : X → Bool) where
  both : X → Bool
  both x = first x && second x

  Within : X → Type 0
  Within x = first x ≡ true → second x ≡ true

  -- those that meet both tests are no more than those that meet the first
  fewer : (xs : List X) → length (filter both xs) ≤ length (filter first xs)
  unfolding both
  fewer [] = omega arith
  fewer (x ∷ xs) = go (first x) (second x) (fewer xs)
    where
      go : (t u : Bool) → length (filter both xs) ≤ length (filter first xs) →
          length (cond (t && u) (x ∷ filter both xs) (filter both xs)) ≤ length (cond t (x ∷ filter first xs) (filter first xs))
      go true true h = omega (arith, h)
      go true false h = omega (arith, h)
      go false u h = h

  -- where they are as many, each that meets the first meets the second
  none_more : (xs : List X) → length (filter first xs) ≤ length (filter both xs) → All Within xs
  unfolding both Within
  none_more [] h = All-nil Within
  none_more (x ∷ xs) h = go (first x) (second x) refl refl (none_more xs) (fewer xs) h
    where
      go : (t u : Bool) → first x ≡ t → second x ≡ u → (length (filter first xs) ≤ length (filter both xs) → All Within xs) →
          length (filter both xs) ≤ length (filter first xs) →
          length (cond t (x ∷ filter first xs) (filter first xs)) ≤ length (cond (t && u) (x ∷ filter both xs) (filter both xs)) → All Within (x ∷ xs)
      go true true e f again k h = All-cons Within x xs (λ _. f) (again (omega (arith, h)))
      go true false e f again k h = absurd (omega (arith, h, k))
      go false u e f again k h = All-cons Within x xs (λ g. absurd (true≢false (sym g ∙ e))) (again h)

  -- one element, that meets the first test and not the second, and no other such
  record IsOnly (xs : List X) : Type 0 where
    pub element : X
    pub listed : Contains xs element
    pub meets : first element ≡ true
    pub fails : second element ≡ false
    pub others : All (λ x. first x ≡ true → (second x ≡ true) ⊎ (x ≡ element)) xs

  one_more : (xs : List X) → length (filter first xs) ≤ length (filter both xs) + 1 → All Within xs ⊎ IsOnly xs
  unfolding both Within
  one_more [] h = inl (All-nil Within)
  one_more (x ∷ xs) h = go (first x) (second x) refl refl (one_more xs) h
    where
      later : first x ≡ true → second x ≡ true → All Within xs ⊎ IsOnly xs → All Within (x ∷ xs) ⊎ IsOnly (x ∷ xs)
      later e f (inl h) = inl (All-cons Within x xs (λ _. f) h)
      later e f (inr s) = inr (record {
        element = s.element;
        listed = Contains-there x xs s.element s.listed;
        meets = s.meets;
        fails = s.fails;
        others = All-cons (λ y. first y ≡ true → (second y ≡ true) ⊎ (y ≡ s.element)) x xs (λ _. inl f) s.others;
      })

      passed : first x ≡ false → All Within xs ⊎ IsOnly xs → All Within (x ∷ xs) ⊎ IsOnly (x ∷ xs)
      passed e (inl h) = inl (All-cons Within x xs (λ g. absurd (true≢false (sym g ∙ e))) h)
      passed e (inr s) = inr (record {
        element = s.element;
        listed = Contains-there x xs s.element s.listed;
        meets = s.meets;
        fails = s.fails;
        others = All-cons (λ y. first y ≡ true → (second y ≡ true) ⊎ (y ≡ s.element)) x xs (λ g. absurd (true≢false (sym g ∙ e))) s.others;
      })

      here : first x ≡ true → second x ≡ false → All Within xs → All Within (x ∷ xs) ⊎ IsOnly (x ∷ xs)
      here e f h = inr (record {
        element = x;
        listed = Contains-here x xs x refl;
        meets = e;
        fails = f;
        others = All-cons (λ y. first y ≡ true → (second y ≡ true) ⊎ (y ≡ x)) x xs (λ _. inr refl)
            (all_of_members (λ y. first y ≡ true → (second y ≡ true) ⊎ (y ≡ x)) xs (λ y c g. inl (member_of Within xs y h c g)));
      })

      go : (t u : Bool) → first x ≡ t → second x ≡ u → (length (filter first xs) ≤ length (filter both xs) + 1 → All Within xs ⊎ IsOnly xs) →
          length (cond t (x ∷ filter first xs) (filter first xs)) ≤ length (cond (t && u) (x ∷ filter both xs) (filter both xs)) + 1 →
          All Within (x ∷ xs) ⊎ IsOnly (x ∷ xs)
      go true true e f again h = later e f (again (omega (arith, h)))
      go true false e f again h = here e f (none_more xs (omega (arith, h)))
      go false u e f again h = passed e (again h)

-- the common rows, from the other side
common_turned : (rows : List (List ℚ)) (a b : List ℚ) → common_rows rows a b ≡ common_rows rows b a
common_turned [] a b = refl
common_turned (r ∷ rows) a b = go (is_zero (dot r a)) (is_zero (dot r b)) (common_turned rows a b)
  where
    go : (t u : Bool) → common_rows rows a b ≡ common_rows rows b a →
        cond (t && u) (r ∷ common_rows rows a b) (common_rows rows a b) ≡ cond (u && t) (r ∷ common_rows rows b a) (common_rows rows b a)
    go true true e = ap (λ list. r ∷ list) e
    go true false e = e
    go false true e = e
    go false false e = e

-- ---- a third generator that is tight at the common rows
module _ (n : ℕ) (rows gens : List (List ℚ)) (d : IsDoubleDescriptionPair n rows gens) (a b g : List ℚ) (a_listed : Contains gens a) (b_listed : Contains gens b) (g_listed : Contains gens g) (not_a : g ≡ a → ⊥) (not_b : g ≡ b → ⊥) (covered : Covers rows a b g) where
  value : (v r : List ℚ) → Contains gens v → Contains rows r → zero_ℚ ≤ℚ dot r v
  value v r h c = member_of (HoldsAt v) rows r (member_of (IsInCone n rows) gens v d.inside h).within c

  covered_at : (r : List ℚ) → Contains rows r → IsTight r a → IsTight r b → IsTight r g
  covered_at r c = member_of (λ w. IsTight w a → IsTight w b → IsTight w g) rows r covered c

  not_within : LiesIn rows a g → ⊥
  not_within h = not_a (sym (gens_same n rows gens d a g a_listed g_listed h))

  -- e is tight at a and not at b, and is the only such row
  module _ (e : List ℚ) (listed : Contains rows e) (tight : IsTight e a) (loose_there : IsTight e b → ⊥) (others : (r : List ℚ) → Contains rows r → IsTight r a → IsTight r b ⊎ (r ≡ e)) where
    at_b : zero_ℚ <ℚ dot e b
    at_b = go (zero_or_positive (dot e b) (value b e b_listed listed))
      where
        go : (dot e b ≡ zero_ℚ) ⊎ (zero_ℚ <ℚ dot e b) → zero_ℚ <ℚ dot e b
        go (inl h) = absurd (loose_there h)
        go (inr p) = p

    at_g : zero_ℚ <ℚ dot e g
    at_g = go (zero_or_positive (dot e g) (value g e g_listed listed))
      where
        within : dot e g ≡ zero_ℚ → LiesIn rows a g
        within h = all_of_members (λ r. IsTight r a → IsTight r g) rows (λ r c t. by r c t (others r c t))
          where
            by : (r : List ℚ) → Contains rows r → IsTight r a → IsTight r b ⊎ (r ≡ e) → IsTight r g
            by r c t (inl u) = covered_at r c t u
            by r c t (inr s) = ap (λ v. dot v g) s ∙ h

        go : (dot e g ≡ zero_ℚ) ⊎ (zero_ℚ <ℚ dot e g) → zero_ℚ <ℚ dot e g
        go (inl h) = absurd (not_within (within h))
        go (inr p) = p

    -- (e g) b - (e b) g
    difference : List ℚ
    difference = moved (scaled (dot e g) b) (neg_ℚ (dot e b)) g

    difference_value : (r : List ℚ) → dot r difference ≡ dot e g *ℚ dot r b +ℚ neg_ℚ (dot e b *ℚ dot r g)
    unfolding difference
    difference_value r = moved_value (scaled (dot e g) b) g r (neg_ℚ (dot e b))
        ∙ ap₂ (λ x y. x +ℚ y) (dot-scaled r (dot e g) b) (neg_mul (dot e b) (dot r g))

    at_e : dot e g *ℚ dot e b +ℚ neg_ℚ (dot e b *ℚ dot e g) ≡ zero_ℚ
    at_e = ring rationals (dot e g ∷ dot e b ∷ []) (v0 ⊗ v1 ⊝ v1 ⊗ v0) (v0 ⊝ v0) refl ∙ add_neg (dot e g)

    difference_tight : (r : List ℚ) → Contains rows r → IsTight r a → IsTight r difference
    difference_tight r c t = difference_value r ∙ by (others r c t)
      where
        by : IsTight r b ⊎ (r ≡ e) → dot e g *ℚ dot r b +ℚ neg_ℚ (dot e b *ℚ dot r g) ≡ zero_ℚ
        by (inl u) = ap₂ (λ x y. dot e g *ℚ x +ℚ neg_ℚ (dot e b *ℚ y)) u (covered_at r c t u)
            ∙ ap₂ (λ x y. x +ℚ neg_ℚ y) (mul_zero (dot e g)) (mul_zero (dot e b)) ∙ add_neg zero_ℚ
        by (inr s) = ap (λ v. dot e g *ℚ dot v b +ℚ neg_ℚ (dot e b *ℚ dot v g)) s ∙ at_e

    module _ (s : ℚ) (s_nonneg : zero_ℚ ≤ℚ s) (holds : All (HoldsAt (moved difference s a)) rows) where
      z : List ℚ
      z = moved difference s a

      z_in : IsInCone n rows z
      unfolding z difference
      z_in = record {
        wide = length-plus n difference (scaled s a)
            (length-plus n (scaled (dot e g) b) (scaled (neg_ℚ (dot e b)) g)
            (length-scaled (dot e g) b ∙ (member_of (IsInCone n rows) gens b d.inside b_listed).wide)
            (length-scaled (neg_ℚ (dot e b)) g ∙ (member_of (IsInCone n rows) gens g d.inside g_listed).wide))
            (length-scaled s a ∙ (member_of (IsInCone n rows) gens a d.inside a_listed).wide);
        within = holds;
      }

      on_ray : IsOnRay a z
      unfolding z
      on_ray = ray_of n rows gens d a z a_listed z_in
          (all_of_members (λ r. IsTight r a → IsTight r z) rows (λ r c t. moved_tight difference a r s (difference_tight r c t) t))

      same_value : (r : List ℚ) → (dot e g *ℚ dot r b +ℚ neg_ℚ (dot e b *ℚ dot r g)) +ℚ s *ℚ dot r a ≡ on_ray.factor *ℚ dot r a
      unfolding z
      same_value r = sym (moved_value difference a r s ∙ ap (λ q. q +ℚ s *ℚ dot r a) (difference_value r))
          ∙ ap (λ v. dot r v) on_ray.same ∙ dot-scaled r on_ray.factor a

      t : ℚ
      t = on_ray.factor

      contradiction : ⊥
      unfolding t
      contradiction = go (le_or_lt s t)
        where
          -- g is tight wherever b is
          g_tight : s ≤ℚ t → (r : List ℚ) → Contains rows r → IsTight r b → IsTight r g
          g_tight h r c u = product_zero (dot e b) (dot r g) at_b
              (add_zero_left (dot e b *ℚ dot r g) ((t +ℚ neg_ℚ s) *ℚ dot r a)
              (mul_nonneg (dot e b) (dot r g) (le_of_lt zero_ℚ (dot e b) at_b) (value g r g_listed c))
              (mul_nonneg (t +ℚ neg_ℚ s) (dot r a) (difference_nonneg s t h) (value a r a_listed c))
              (ring rationals (dot e b ∷ dot r g ∷ t ∷ s ∷ dot r a ∷ dot e g *ℚ dot r b ∷ [])
              (v0 ⊗ v1 ⊕ (v2 ⊝ v3) ⊗ v4) (v5 ⊕ (v2 ⊗ v4 ⊝ ((v5 ⊝ v0 ⊗ v1) ⊕ v3 ⊗ v4))) refl
              ∙ ap₂ (λ x y. x +ℚ (t *ℚ dot r a +ℚ neg_ℚ y)) (ap (λ x. dot e g *ℚ x) u ∙ mul_zero (dot e g)) (same_value r)
              ∙ zero_add (t *ℚ dot r a +ℚ neg_ℚ (t *ℚ dot r a)) ∙ add_neg (t *ℚ dot r a)))

          -- b is tight wherever g is
          b_tight : t <ℚ s → (r : List ℚ) → Contains rows r → IsTight r g → IsTight r b
          b_tight h r c u = product_zero (dot e g) (dot r b) at_g
              (add_zero_left (dot e g *ℚ dot r b) ((s +ℚ neg_ℚ t) *ℚ dot r a)
              (mul_nonneg (dot e g) (dot r b) (le_of_lt zero_ℚ (dot e g) at_g) (value b r b_listed c))
              (mul_nonneg (s +ℚ neg_ℚ t) (dot r a) (difference_nonneg t s (le_of_lt t s h)) (value a r a_listed c))
              (ring rationals (dot e g *ℚ dot r b ∷ s ∷ t ∷ dot r a ∷ dot e b *ℚ dot r g ∷ [])
              (v0 ⊕ (v1 ⊝ v2) ⊗ v3) ((((v0 ⊝ v4) ⊕ v1 ⊗ v3) ⊝ v2 ⊗ v3) ⊕ v4) refl
              ∙ ap₂ (λ x y. (x +ℚ neg_ℚ (t *ℚ dot r a)) +ℚ y) (same_value r) (ap (λ x. dot e b *ℚ x) u ∙ mul_zero (dot e b))
              ∙ ap (λ x. x +ℚ zero_ℚ) (add_neg (t *ℚ dot r a)) ∙ zero_add zero_ℚ))

          go : (s ≤ℚ t) ⊎ (t <ℚ s) → ⊥
          go (inl h) = not_b (sym (gens_same n rows gens d b g b_listed g_listed (all_of_members (λ r. IsTight r b → IsTight r g) rows (g_tight h))))
          go (inr h) = not_b (gens_same n rows gens d g b g_listed b_listed (all_of_members (λ r. IsTight r g → IsTight r b) rows (b_tight h)))

    none_third : ⊥
    none_third =
        let t : (s : ℚ) × (zero_ℚ ≤ℚ s) × All (HoldsAt (moved difference s a)) rows =
        enough difference a rows (member_of (IsInCone n rows) gens a d.inside a_listed).within
        (all_of_members (λ r. IsTight r a → IsTight r difference) rows difference_tight) in
        contradiction t.0 t.1 t.2

  at_row : List ℚ → Bool
  at_row r = is_zero (dot r a)

  at_row_too : List ℚ → Bool
  at_row_too r = is_zero (dot r b)

  pub no_third : length (tight_rows rows a) ≤ length (common_rows rows a b) + 1 → ⊥
  unfolding at_row at_row_too both Within
  no_third few = go (one_more at_row at_row_too rows few)
    where
      go : All (λ r. at_row r ≡ true → at_row_too r ≡ true) rows ⊎ IsOnly at_row at_row_too rows → ⊥
      go (inl h) = not_within (all_of_members (λ r. IsTight r a → IsTight r g) rows (λ r c t. covered_at r c t
          (zero_of_test (dot r b) (member_of (λ q. at_row q ≡ true → at_row_too q ≡ true) rows r h c (test_of_zero (dot r a) t)))))
      go (inr s) = none_third s.element s.listed (zero_of_test (dot s.element a) s.meets)
          (λ t. true≢false (sym (test_of_zero (dot s.element b) t) ∙ s.fails))
          (λ r c t. by r (member_of (λ q. at_row q ≡ true → (at_row_too q ≡ true) ⊎ (q ≡ s.element)) rows r s.others c (test_of_zero (dot r a) t)))
        where
          by : (r : List ℚ) → (at_row_too r ≡ true) ⊎ (r ≡ s.element) → IsTight r b ⊎ (r ≡ s.element)
          by r (inl h) = inl (zero_of_test (dot r b) h)
          by r (inr h) = inr h

covers_turned : (rows : List (List ℚ)) (a b g : List ℚ) → Covers rows a b g → Covers rows b a g
covers_turned rows a b g h = all_of_members (λ r. IsTight r b → IsTight r a → IsTight r g) rows
    (λ r c t u. member_of (λ q. IsTight q a → IsTight q b → IsTight q g) rows r h c u t)

pub all_but_one_are_uncovered : AllButOneAreUncovered
all_but_one_are_uncovered n rows gens pair d p m few = true-list_all (free_test rows pair) gens
    (all_of_members (λ v. free_test rows pair v ≡ true) gens (λ g c. free_holds rows pair g (free g c few)))
  where
    free : (g : List ℚ) → Contains gens g → (length (tight_rows rows pair.plus_side) ≤ length (common_rows rows pair.plus_side pair.minus_side) + 1)
        ⊎ (length (tight_rows rows pair.minus_side) ≤ length (common_rows rows pair.plus_side pair.minus_side) + 1) → Free rows pair g
    free g c (inl h) x y k = no_third n rows gens d pair.plus_side pair.minus_side g p m c x y k h
    free g c (inr h) x y k = no_third n rows gens d pair.minus_side pair.plus_side g m p c y x (covers_turned rows pair.plus_side pair.minus_side g k)
        (subst (λ (list : List (List ℚ)). length (tight_rows rows pair.minus_side) ≤ length list + 1) (common_turned rows pair.plus_side pair.minus_side) h)
