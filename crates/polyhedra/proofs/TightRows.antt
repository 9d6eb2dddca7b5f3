-- How many rows are not tight at a vector, and tests that are decided over a list of rows.
use Rattle.std.proofs.Common.{◌≡◌, ℕ, zero, suc, List, [], ◌∷◌, All, Contains, refl, sym, ap, ◌∙◌, subst, arith, ◌⊎◌, inl, inr, Bool, true, false, true≢false, cond, ◌&&◌, ◌<◌, ◌≤◌}
use Rattle.std.proofs.lemmas.List.Elements.{All-head, All-tail}
use Rattle.exact_field.specs.Rational.{ℚ, zero_ℚ, ◌<ℚ◌}
use Rattle.exact_field.specs.Vector.{dot}
use Rattle.polyhedra.specs.TightSets.{IsTight, LiesIn, Covers}
use Rattle.polyhedra.specs.DoubleDescription.{is_zero}
use Rattle.polyhedra.proofs.Order.{zero_or_positive, same_or_not}
use Rattle.polyhedra.proofs.Lists.{HoldsAt, Contains-cases, Contains-nil}
use Rattle.polyhedra.proofs.Members.{all_or_not, member_of}
use Rattle.polyhedra.proofs.LeastQuotient.{IsPositiveSomewhere}
use Rattle.polyhedra.proofs.Tests.{test_of_other, test_of_zero, zero_of_test}

-- the number of rows that are not tight at z
abbrev pub loose : List (List ℚ) → List ℚ → ℕ
loose [] z = 0
loose (r ∷ rows) z = cond (is_zero (dot r z)) (loose rows z) (suc (loose rows z))

step_le : (t u : Bool) (a b : ℕ) → (t ≡ true → u ≡ true) → b ≤ a → cond u b (suc b) ≤ cond t a (suc a)
step_le true true a b h k = k
step_le true false a b h k = absurd (true≢false (sym (h refl)))
step_le false true a b h k = omega arith
step_le false false a b h k = omega arith

step_lt : (t u : Bool) (a b : ℕ) → (t ≡ true → u ≡ true) → b < a → cond u b (suc b) < cond t a (suc a)
step_lt true true a b h k = k
step_lt true false a b h k = absurd (true≢false (sym (h refl)))
step_lt false true a b h k = omega arith
step_lt false false a b h k = omega arith

step_here : (t u : Bool) (a b : ℕ) → t ≡ false → u ≡ true → b ≤ a → cond u b (suc b) < cond t a (suc a)
step_here true u a b e f k = absurd (true≢false e)
step_here false true a b e f k = omega arith
step_here false false a b e f k = absurd (true≢false (sym f))

abbrev TightToo : List ℚ → List ℚ → List ℚ → Type 0
TightToo z v r = IsTight r z → IsTight r v

test_too : (z v r : List ℚ) → TightToo z v r → is_zero (dot r z) ≡ true → is_zero (dot r v) ≡ true
test_too z v r h e = test_of_zero (dot r v) (h (zero_of_test (dot r z) e))

pub loose-le : (rows : List (List ℚ)) (z v : List ℚ) → LiesIn rows z v → loose rows v ≤ loose rows z
loose-le [] z v h = omega arith
loose-le (r ∷ rows) z v h = step_le (is_zero (dot r z)) (is_zero (dot r v)) (loose rows z) (loose rows v)
    (test_too z v r (All-head (TightToo z v) r rows h)) (loose-le rows z v (All-tail (TightToo z v) r rows h))

-- one row more is tight at v
pub loose-lt : (rows : List (List ℚ)) (z v row : List ℚ) → LiesIn rows z v → Contains rows row → (IsTight row z → ⊥) → IsTight row v →
    loose rows v < loose rows z
loose-lt [] z v row h c p t = absurd (Contains-nil row c)
loose-lt (r ∷ rows) z v row h c p t = go (Contains-cases r rows row c) (λ k. loose-lt rows z v row (All-tail (TightToo z v) r rows h) k p t)
  where
    go : (r ≡ row) ⊎ Contains rows row → (Contains rows row → loose rows v < loose rows z) → loose (r ∷ rows) v < loose (r ∷ rows) z
    go (inl e) again = step_here (is_zero (dot r z)) (is_zero (dot r v)) (loose rows z) (loose rows v)
        (test_of_other (dot r z) (λ f. p (sym (ap (λ w. dot w z) e) ∙ f)))
        (test_of_zero (dot r v) (ap (λ w. dot w v) e ∙ t))
        (loose-le rows z v (All-tail (TightToo z v) r rows h))
    go (inr k) again = step_lt (is_zero (dot r z)) (is_zero (dot r v)) (loose rows z) (loose rows v)
        (test_too z v r (All-head (TightToo z v) r rows h)) (again k)

-- ---- what is decided over the rows
decided : {P Q : Type 0} → P ⊎ (P → ⊥) → Q ⊎ (Q → ⊥) → (P → Q) ⊎ ((P → Q) → ⊥)
decided (inl p) (inl q) = inl (λ _. q)
decided (inl p) (inr q) = inr (λ f. q (f p))
decided (inr p) q = inl (λ x. absurd (p x))

-- a row that is tight at a and not at b
pub record IsApartAt (rows : List (List ℚ)) (a b : List ℚ) : Type 0 where
  pub row : List ℚ
  pub listed : Contains rows row
  pub tight : IsTight row a
  pub loose_there : IsTight row b → ⊥

pub lies_or_not : (rows : List (List ℚ)) (a b : List ℚ) → LiesIn rows a b ⊎ IsApartAt rows a b
lies_or_not rows a b = go (all_or_not (TightToo a b) (λ r. decided (same_or_not (dot r a) zero_ℚ) (same_or_not (dot r b) zero_ℚ)) rows)
  where
    at_row : (r : List ℚ) → Contains rows r → (TightToo a b r → ⊥) → IsTight r a ⊎ (IsTight r a → ⊥) → IsApartAt rows a b
    at_row r c bad (inl t) = record { row = r; listed = c; tight = t; loose_there = λ u. bad (λ _. u) }
    at_row r c bad (inr t) = absurd (bad (λ u. absurd (t u)))

    go : All (TightToo a b) rows ⊎ ((r : List ℚ) × Contains rows r × (TightToo a b r → ⊥)) → LiesIn rows a b ⊎ IsApartAt rows a b
    go (inl h) = inl h
    go (inr (r, c, bad)) = inr (at_row r c bad (same_or_not (dot r a) zero_ℚ))

pub covers_or_not : (rows : List (List ℚ)) (a b g : List ℚ) → Covers rows a b g ⊎ (Covers rows a b g → ⊥)
covers_or_not rows a b g = go (all_or_not (λ r. IsTight r a → IsTight r b → IsTight r g)
    (λ r. decided (same_or_not (dot r a) zero_ℚ) (decided (same_or_not (dot r b) zero_ℚ) (same_or_not (dot r g) zero_ℚ))) rows)
  where
    go : Covers rows a b g ⊎ ((r : List ℚ) × Contains rows r × ((IsTight r a → IsTight r b → IsTight r g) → ⊥)) → Covers rows a b g ⊎ (Covers rows a b g → ⊥)
    go (inl h) = inl h
    go (inr (r, c, bad)) = inr (λ h. bad (member_of (λ w. IsTight w a → IsTight w b → IsTight w g) rows r h c))

-- each row is tight at z, or one is positive there
pub tight_or_positive : (rows : List (List ℚ)) (z : List ℚ) → All (HoldsAt z) rows → All (λ r. IsTight r z) rows ⊎ IsPositiveSomewhere rows z
tight_or_positive rows z h = go (all_or_not (λ r. IsTight r z) (λ r. same_or_not (dot r z) zero_ℚ) rows)
  where
    at_row : (r : List ℚ) → Contains rows r → (IsTight r z → ⊥) → (dot r z ≡ zero_ℚ) ⊎ (zero_ℚ <ℚ dot r z) → IsPositiveSomewhere rows z
    at_row r c bad (inl e) = absurd (bad e)
    at_row r c bad (inr p) = record { row = r; listed = c; positive = p }

    go : All (λ r. IsTight r z) rows ⊎ ((r : List ℚ) × Contains rows r × (IsTight r z → ⊥)) → All (λ r. IsTight r z) rows ⊎ IsPositiveSomewhere rows z
    go (inl t) = inl t
    go (inr (r, c, bad)) = inr (at_row r c bad (zero_or_positive (dot r z) (member_of (HoldsAt z) rows r h c)))

pub same_vector_or_not : (u v : List ℚ) → (u ≡ v) ⊎ (u ≡ v → ⊥)
same_vector_or_not [] [] = inl refl
same_vector_or_not [] (y ∷ v) = inr (λ e. cc)
same_vector_or_not (x ∷ u) [] = inr (λ e. cc)
same_vector_or_not (x ∷ u) (y ∷ v) = go (same_or_not x y) (same_vector_or_not u v)
  where
    go : (x ≡ y) ⊎ (x ≡ y → ⊥) → (u ≡ v) ⊎ (u ≡ v → ⊥) → (x ∷ u ≡ y ∷ v) ⊎ (x ∷ u ≡ y ∷ v → ⊥)
    go (inl e) (inl f) = inl (Rattle.std.proofs.Common.ap₂ (λ a b. a ∷ b) e f)
    go (inr e) f = inr (λ h. e (cc))
    go (inl e) (inr f) = inr (λ h. f (cc))
