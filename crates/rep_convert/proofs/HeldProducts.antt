-- The steps of a product of two vectors are held where each product and each sum so far is.
use Rattle.std.proofs.Common.{◌≡◌, ℕ, suc, ◌-◌, ◌<◌, Bool, true, false, ◌||◌, if◌then◌else◌, IsTrue, List, [], ◌∷◌, length, take, zip, All, slice_index_or, refl, sym, ap, ap₂, ◌∙◌, subst, arith, ◌⊎◌, inl, inr}
use Rattle.std.proofs.lemmas.List.Elements.{All-nil, All-cons}
use Rattle.exact_field.specs.Rational.{ℚ, zero_ℚ, ◌+ℚ◌, ◌*ℚ◌}
use Rattle.exact_field.specs.Vector.{dot, entry}
use Rattle.exact_field.specs.declared.op.Op.TheVariants as op
use Rattle.frac128.specs.Sparse.{is_zero}
use Rattle.polyhedra.proofs.Algebra.{mul_zero, zero_add, zero_mul}
use Rattle.polyhedra.proofs.Laws.{add_assoc, add_zero}
use Rattle.polyhedra.proofs.Tests.{either_true, or_left, or_right}
use Rattle.lin_rows.specs.Sums.{AreHeld, partial}
use Rattle.log_rules.specs.Events.{dot_steps, sum_from}
use Rattle.log_rules.specs.Events.Event.{step}
use Rattle.log_rules.proofs.PassedTests.{zero_number, zero_passes}
use Rattle.rep_conv.specs.Events.{IsHeldStep}

-- each product at a place where neither vector is 0 is held, and each sum after a total
abbrev AreHeldAfter : (ℚ → Bool) → ℚ → List ℚ → List ℚ → Type 0
AreHeldAfter holds total xs ys = (j : ℕ) → j < length xs → (slice_index_or xs j zero_ℚ ≡ zero_ℚ → ⊥) → (slice_index_or ys j zero_ℚ ≡ zero_ℚ → ⊥) →
    IsTrue (holds (slice_index_or xs j zero_ℚ *ℚ slice_index_or ys j zero_ℚ)) × IsTrue (holds (total +ℚ dot (take (suc j) xs) (take (suc j) ys)))

no_product : (x y : ℚ) → ((x ≡ zero_ℚ) ⊎ (y ≡ zero_ℚ)) → x *ℚ y ≡ zero_ℚ
no_product x y (inl e) = ap (λ a. a *ℚ y) e ∙ zero_mul y
no_product x y (inr e) = ap (λ b. x *ℚ b) e ∙ mul_zero x

shorter : (x y : ℚ) (xs ys : List ℚ) → length (x ∷ xs) ≡ length (y ∷ ys) → length xs ≡ length ys
shorter x y xs ys h = omega (arith, h)

sum_held : (holds : ℚ → Bool) (total : ℚ) (xs ys : List ℚ) → length xs ≡ length ys → AreHeldAfter holds total xs ys →
    All (IsHeldStep holds) (sum_from total (zip xs ys))
sum_held holds total [] ys same h = All-nil (IsHeldStep holds)
sum_held holds total (x ∷ xs) [] same h = absurd (omega (arith, same))
sum_held holds total (x ∷ xs) (y ∷ ys) same h = go (is_zero x || is_zero y) refl (λ t k. sum_held holds t xs ys (shorter x y xs ys same) k)
  where
    -- the rest after the total with this product
    rest : AreHeldAfter holds (total +ℚ x *ℚ y) xs ys
    rest j l u v =
        let held = h (suc j) (omega (arith, l)) u v in
        (held.0, subst (λ (q : ℚ). IsTrue (holds q)) (sym (add_assoc total (x *ℚ y) (dot (take (suc j) xs) (take (suc j) ys)))) held.1)

    same_total : ((x ≡ zero_ℚ) ⊎ (y ≡ zero_ℚ)) → total +ℚ x *ℚ y ≡ total
    same_total e = ap (λ q. total +ℚ q) (no_product x y e) ∙ add_zero total

    zero_of : ((is_zero x ≡ true) ⊎ (is_zero y ≡ true)) → (x ≡ zero_ℚ) ⊎ (y ≡ zero_ℚ)
    zero_of (inl e) = inl (zero_number x e)
    zero_of (inr e) = inr (zero_number y e)

    no : (b : Bool) → b ≡ true → b ≡ false → ⊥
    no b e f = cc

    go : (b : Bool) → (is_zero x || is_zero y) ≡ b → ((t : ℚ) → AreHeldAfter holds t xs ys → All (IsHeldStep holds) (sum_from t (zip xs ys))) →
        All (IsHeldStep holds) (if b then sum_from total (zip xs ys) else step op.Mul x y ∷ step op.Add total (x *ℚ y) ∷ sum_from (total +ℚ x *ℚ y) (zip xs ys))
    go true e again = again total (subst (λ (t : ℚ). AreHeldAfter holds t xs ys) (same_total (zero_of (either_true (is_zero x) (is_zero y) e))) rest)
    go false e again =
        let first = h 0 (omega arith) (λ z. no (is_zero x || is_zero y) (or_left (is_zero x) (is_zero y) (zero_passes x z)) e) (λ z. no (is_zero x || is_zero y) (or_right (is_zero x) (is_zero y) (zero_passes y z)) e) in
        All-cons (IsHeldStep holds) (step op.Mul x y) (step op.Add total (x *ℚ y) ∷ sum_from (total +ℚ x *ℚ y) (zip xs ys)) first.0
        (All-cons (IsHeldStep holds) (step op.Add total (x *ℚ y)) (sum_from (total +ℚ x *ℚ y) (zip xs ys)) (subst (λ (q : ℚ). IsTrue (holds (total +ℚ q))) (add_zero (x *ℚ y)) first.1)
        (again (total +ℚ x *ℚ y) rest))

pub product_held : (holds : ℚ → Bool) (xs ys : List ℚ) → length xs ≡ length ys → AreHeld holds xs ys (length xs) → All (IsHeldStep holds) (dot_steps xs ys)
product_held holds xs ys same h = sum_held holds zero_ℚ xs ys same (λ j l u v.
    let here : suc j - 1 ≡ j = omega arith in
    let x : entry xs (suc j) ≡ slice_index_or xs j zero_ℚ = ap (λ i. slice_index_or xs i zero_ℚ) here in
    let y : entry ys (suc j) ≡ slice_index_or ys j zero_ℚ = ap (λ i. slice_index_or ys i zero_ℚ) here in
    let held = h (suc j) (omega arith) (omega (arith, l)) (λ z. u (sym x ∙ z)) (λ z. v (sym y ∙ z)) in
    (subst (λ (q : ℚ). IsTrue (holds q)) (ap₂ (λ a b. a *ℚ b) x y) held.0, subst (λ (q : ℚ). IsTrue (holds q)) (sym (zero_add (partial xs ys (suc j)))) held.1))
