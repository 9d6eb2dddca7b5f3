-- The support of a combination: the vectors with a positive multiplier, and what their values show.
use Rattle.std.proofs.Common.{◌≡◌, List, [], ◌∷◌, All, Contains, refl, sym, ap, ap₂, ◌∙◌, subst, ◌⊎◌, inl, inr}
use Rattle.std.proofs.lemmas.List.Elements.{All-head, All-tail}
use Rattle.exact_field.specs.Rational.{ℚ, zero_ℚ, one_ℚ, ◌+ℚ◌, ◌*ℚ◌, neg_ℚ, ◌≤ℚ◌, ◌<ℚ◌}
use Rattle.exact_field.specs.Vector.{dot}
use Rattle.polyhedra.specs.Vectors.{scaled, values, AtLeastZero}
use Rattle.polyhedra.proofs.Laws.{add_comm, add_neg, le_refl, le_of_lt, mul_nonneg, le_trans}
use Rattle.polyhedra.proofs.Lists.{nonneg-head, nonneg-tail, HoldsAt, values_nonneg, Contains-here, Contains-there}
use Rattle.polyhedra.proofs.Algebra.{zero_add, zero_mul, mul_zero, one_mul, neg_mul, neg_neg, neg_zero}
use Rattle.polyhedra.proofs.Order.{Sign, negative, none, positive, sign_of, zero_or_positive, le_or_lt, lt_irrefl, not_zero_of_positive, add_nonneg, add_positive, add_positive_right, mul_positive, mul_negative, product_zero, add_zero_left, add_zero_right, neg_positive, negative_of_neg, not_lt_of_le, le_of_eq, lt_of_lt_of_le, lt_of_le_of_lt, le_of_difference, add_le_right, add_le_both}
use Rattle.polyhedra.proofs.Linear.{dot-scaled}

-- a sum of products of numbers of at least 0
pub dot_nonneg : (ms xs : List ℚ) → AtLeastZero ms → AtLeastZero xs → zero_ℚ ≤ℚ dot ms xs
dot_nonneg [] xs h k = le_refl zero_ℚ
dot_nonneg (m ∷ ms) [] h k = le_refl zero_ℚ
dot_nonneg (m ∷ ms) (x ∷ xs) h k =
    add_nonneg (m *ℚ x) (dot ms xs) (mul_nonneg m x (nonneg-head m ms h) (nonneg-head x xs k)) (dot_nonneg ms xs (nonneg-tail m ms h) (nonneg-tail x xs k))

-- g is one of the vectors, with a positive multiplier
abbrev pub InSupport : List ℚ → List (List ℚ) → List ℚ → Type 0
InSupport [] vs g = ⊥
InSupport (m ∷ ms) [] g = ⊥
InSupport (m ∷ ms) (v ∷ vs) g = ((zero_ℚ <ℚ m) × (v ≡ g)) ⊎ InSupport ms vs g

pub support_listed : (ms : List ℚ) (vs : List (List ℚ)) (g : List ℚ) → InSupport ms vs g → Contains vs g
support_listed [] vs g h = absurd h
support_listed (m ∷ ms) [] g h = absurd h
support_listed (m ∷ ms) (v ∷ vs) g (inl h) = Contains-here v vs g h.1
support_listed (m ∷ ms) (v ∷ vs) g (inr h) = Contains-there v vs g (support_listed ms vs g h)

-- where a sum of numbers of at least 0 is 0, each is 0: the values of the support
pub support_zero : (ms : List ℚ) (vs : List (List ℚ)) (g r : List ℚ) → AtLeastZero ms → All (HoldsAt r) vs →
    dot ms (values vs r) ≡ zero_ℚ → InSupport ms vs g → dot g r ≡ zero_ℚ
support_zero [] vs g r h k e s = absurd s
support_zero (m ∷ ms) [] g r h k e s = absurd s
support_zero (m ∷ ms) (v ∷ vs) g r h k e s = go s (support_zero ms vs g r (nonneg-tail m ms h) (All-tail (HoldsAt r) v vs k)
    (add_zero_right (m *ℚ dot v r) (dot ms (values vs r)) first others e))
  where
    first : zero_ℚ ≤ℚ m *ℚ dot v r
    first = mul_nonneg m (dot v r) (nonneg-head m ms h) (All-head (HoldsAt r) v vs k)

    others : zero_ℚ ≤ℚ dot ms (values vs r)
    others = dot_nonneg ms (values vs r) (nonneg-tail m ms h) (values_nonneg vs r (All-tail (HoldsAt r) v vs k))

    go : ((zero_ℚ <ℚ m) × (v ≡ g)) ⊎ InSupport ms vs g → (InSupport ms vs g → dot g r ≡ zero_ℚ) → dot g r ≡ zero_ℚ
    go (inl t) again = subst (λ (w : List ℚ). dot w r ≡ zero_ℚ) t.1
        (product_zero m (dot v r) t.0 (add_zero_left (m *ℚ dot v r) (dot ms (values vs r)) first others e))
    go (inr t) again = again t

-- a positive sum has a positive value in its support
pub support_positive : (ms : List ℚ) (vs : List (List ℚ)) (r : List ℚ) → AtLeastZero ms → zero_ℚ <ℚ dot ms (values vs r) →
    (g : List ℚ) × InSupport ms vs g × (zero_ℚ <ℚ dot g r)
support_positive [] vs r h p = absurd (lt_irrefl zero_ℚ p)
support_positive (m ∷ ms) [] r h p = absurd (lt_irrefl zero_ℚ p)
support_positive (m ∷ ms) (v ∷ vs) r h p = go (zero_or_positive m (nonneg-head m ms h)) (sign_of (dot v r)) (support_positive ms vs r (nonneg-tail m ms h))
  where
    rest : m *ℚ dot v r ≤ℚ zero_ℚ → zero_ℚ <ℚ dot ms (values vs r)
    rest k = lt_of_lt_of_le zero_ℚ _ _ p (subst (λ (x : ℚ). m *ℚ dot v r +ℚ dot ms (values vs r) ≤ℚ x) (zero_add (dot ms (values vs r)))
        (add_le_right (m *ℚ dot v r) zero_ℚ (dot ms (values vs r)) k))

    later : ((g : List ℚ) × InSupport ms vs g × (zero_ℚ <ℚ dot g r)) → (g : List ℚ) × InSupport (m ∷ ms) (v ∷ vs) g × (zero_ℚ <ℚ dot g r)
    later (g, s, q) = (g, inr s, q)

    go : (m ≡ zero_ℚ) ⊎ (zero_ℚ <ℚ m) → Sign (dot v r) → (zero_ℚ <ℚ dot ms (values vs r) → (g : List ℚ) × InSupport ms vs g × (zero_ℚ <ℚ dot g r)) →
        (g : List ℚ) × InSupport (m ∷ ms) (v ∷ vs) g × (zero_ℚ <ℚ dot g r)
    go (inl e) s again = later (again (rest (le_of_eq (m *ℚ dot v r) zero_ℚ (ap (λ x. x *ℚ dot v r) e ∙ zero_mul (dot v r)))))
    go (inr q) (positive s) again = (v, inl (q, refl), s)
    go (inr q) (none s) again = later (again (rest (le_of_eq (m *ℚ dot v r) zero_ℚ (ap (λ x. m *ℚ x) s ∙ mul_zero m))))
    go (inr q) (negative s) again = later (again (rest (le_of_lt (m *ℚ dot v r) zero_ℚ (mul_negative m (dot v r) q s))))

opposite : List ℚ → List ℚ
opposite r = scaled (neg_ℚ one_ℚ) r

opposite_value : (g r : List ℚ) → dot g (opposite r) ≡ neg_ℚ (dot g r)
unfolding opposite
opposite_value g r = dot-scaled g (neg_ℚ one_ℚ) r ∙ neg_mul one_ℚ (dot g r) ∙ ap neg_ℚ (one_mul (dot g r))

opposite_sum : (ms : List ℚ) (vs : List (List ℚ)) (r : List ℚ) → dot ms (values vs (opposite r)) ≡ neg_ℚ (dot ms (values vs r))
opposite_sum [] vs r = sym neg_zero
opposite_sum (m ∷ ms) [] r = sym neg_zero
opposite_sum (m ∷ ms) (v ∷ vs) r =
    ap₂ (λ a b. m *ℚ a +ℚ b) (opposite_value v r) (opposite_sum ms vs r)
    ∙ ap (λ a. a +ℚ neg_ℚ (dot ms (values vs r))) (Rattle.polyhedra.proofs.Algebra.mul_neg m (dot v r))
    ∙ sym (Rattle.polyhedra.proofs.Algebra.neg_add (m *ℚ dot v r) (dot ms (values vs r)))

-- a negative sum has a negative value in its support
pub support_negative : (ms : List ℚ) (vs : List (List ℚ)) (r : List ℚ) → AtLeastZero ms → dot ms (values vs r) <ℚ zero_ℚ →
    (g : List ℚ) × InSupport ms vs g × (dot g r <ℚ zero_ℚ)
support_negative ms vs r h p = back (support_positive ms vs (opposite r) h
    (subst (λ (x : ℚ). zero_ℚ <ℚ x) (sym (opposite_sum ms vs r)) (neg_positive (dot ms (values vs r)) p)))
  where
    back : ((g : List ℚ) × InSupport ms vs g × (zero_ℚ <ℚ dot g (opposite r))) → (g : List ℚ) × InSupport ms vs g × (dot g r <ℚ zero_ℚ)
    back (g, s, q) = (g, s, negative_of_neg (dot g r) (subst (λ (x : ℚ). zero_ℚ <ℚ x) (opposite_value g r) q))

-- a sum of at most 0 with a positive value in its support has a negative one too
pub support_opposite : (ms : List ℚ) (vs : List (List ℚ)) (g r : List ℚ) → AtLeastZero ms → dot ms (values vs r) ≤ℚ zero_ℚ → InSupport ms vs g →
    zero_ℚ <ℚ dot g r →
    (m : List ℚ) × InSupport ms vs m × (dot m r <ℚ zero_ℚ)
support_opposite [] vs g r h k s p = absurd s
support_opposite (m ∷ ms) [] g r h k s p = absurd s
support_opposite (m ∷ ms) (v ∷ vs) g r h k s p = go s (zero_or_positive m (nonneg-head m ms h)) (sign_of (dot v r))
    (λ e t. support_opposite ms vs g r (nonneg-tail m ms h) e t p)
  where
    total : ℚ
    total = dot ms (values vs r)

    -- the rest is at most 0 where the first is at least 0, and negative where the first is positive
    rest : zero_ℚ ≤ℚ m *ℚ dot v r → total ≤ℚ zero_ℚ
    rest q = le_trans total (m *ℚ dot v r +ℚ total) zero_ℚ (le_of_difference total (m *ℚ dot v r +ℚ total) (m *ℚ dot v r) q (add_comm total (m *ℚ dot v r))) k

    below : zero_ℚ <ℚ m *ℚ dot v r → total <ℚ zero_ℚ
    below q = lt_of_lt_of_le total (m *ℚ dot v r +ℚ total) zero_ℚ
        (Rattle.polyhedra.proofs.Order.lt_of_difference total (m *ℚ dot v r +ℚ total) (m *ℚ dot v r) q (add_comm total (m *ℚ dot v r))) k

    later : ((g : List ℚ) × InSupport ms vs g × (dot g r <ℚ zero_ℚ)) → (g : List ℚ) × InSupport (m ∷ ms) (v ∷ vs) g × (dot g r <ℚ zero_ℚ)
    later (u, t, q) = (u, inr t, q)

    go : ((zero_ℚ <ℚ m) × (v ≡ g)) ⊎ InSupport ms vs g → (m ≡ zero_ℚ) ⊎ (zero_ℚ <ℚ m) → Sign (dot v r) →
        (total ≤ℚ zero_ℚ → InSupport ms vs g → (w : List ℚ) × InSupport ms vs w × (dot w r <ℚ zero_ℚ)) →
        (w : List ℚ) × InSupport (m ∷ ms) (v ∷ vs) w × (dot w r <ℚ zero_ℚ)
    go (inl t) w s again = later (support_negative ms vs r (nonneg-tail m ms h)
        (below (mul_positive m (dot v r) t.0 (subst (λ (u : List ℚ). zero_ℚ <ℚ dot u r) (sym t.1) p))))
    go (inr t) (inr q) (negative s) again = (v, inl (q, refl), s)
    go (inr t) (inl e) s again = later (again (rest (le_of_eq zero_ℚ _ (sym (ap (λ x. x *ℚ dot v r) e ∙ zero_mul (dot v r))))) t)
    go (inr t) (inr q) (none s) again = later (again (rest (le_of_eq zero_ℚ _ (sym (ap (λ x. m *ℚ x) s ∙ mul_zero m)))) t)
    go (inr t) (inr q) (positive s) again = later (again (rest (le_of_lt zero_ℚ _ (mul_positive m (dot v r) q s))) t)

-- a sum of at least 0 with a negative value in its support has a positive one too
pub support_opposite_negative : (ms : List ℚ) (vs : List (List ℚ)) (g r : List ℚ) → AtLeastZero ms → zero_ℚ ≤ℚ dot ms (values vs r) →
    InSupport ms vs g → dot g r <ℚ zero_ℚ →
    (p : List ℚ) × InSupport ms vs p × (zero_ℚ <ℚ dot p r)
support_opposite_negative ms vs g r h k s p =
    back (support_opposite ms vs g (opposite r) h
    (subst (λ (x : ℚ). x ≤ℚ zero_ℚ) (sym (opposite_sum ms vs r))
    (le_of_difference (neg_ℚ (dot ms (values vs r))) zero_ℚ (dot ms (values vs r)) k (add_comm _ _ ∙ add_neg (dot ms (values vs r))))) s
    (subst (λ (x : ℚ). zero_ℚ <ℚ x) (sym (opposite_value g r)) (neg_positive (dot g r) p)))
  where
    back : ((m : List ℚ) × InSupport ms vs m × (dot m (opposite r) <ℚ zero_ℚ)) → (p : List ℚ) × InSupport ms vs p × (zero_ℚ <ℚ dot p r)
    back (m, t, q) = (m, t, subst (λ (x : ℚ). zero_ℚ <ℚ x) (ap neg_ℚ (opposite_value m r) ∙ neg_neg (dot m r)) (neg_positive (dot m (opposite r)) q))
