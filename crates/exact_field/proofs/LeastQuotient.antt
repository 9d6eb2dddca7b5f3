-- The least value over a list, and the least quotient: the greatest multiple that can be taken off.
use Rattle.std.specs.Prelude.{◌≡◌, ◌⊎◌, refl, List, [], ◌∷◌, All, Contains}
use Rattle.std.proofs.Common.{arith, sym, ◌∙◌, subst, inl, inr}
use Rattle.std.proofs.lemmas.List.Elements.{All-nil, All-cons, All-head, All-tail, All-weaker, Contains-append_right}
use Rattle.exact_field.specs.LeastQuotient.{IsLeastAt, IsGreatestStep}
use Rattle.exact_field.specs.Rational.{ℚ, zero_ℚ, ◌*ℚ◌, ◌-ℚ◌, ◌/ℚ◌, neg_ℚ, ◌≤ℚ◌, ◌<ℚ◌}
use Rattle.exact_field.specs.Ring.{◌⊕◌, ◌⊗◌, ⊖, ◌⊝◌, v0, v1, v2}
use Rattle.exact_field.proofs.Rationals.{rationals, div-mul_ℚ}
use Rattle.exact_field.proofs.Inequalities.{lt-not-le, mul-nonpositive, le_refl_ℚ, le_trans_ℚ, le_total_ℚ, le_or_lt, lt-le_ℚ, le_from_difference, difference_from_le, le_of_same, add-nonnegative, mul-nonnegative, mul-le-mul_nonnegative, neg-nonnegative, positive-not-zero, div-nonnegative, div-le}
use Rattle.exact_field.proofs.RingTool.{ring}

contains_first : {A : Type 0} (x : A) (xs : List A) → Contains (x ∷ xs) x
contains_first x xs = (0, omega arith, refl)

contains_later : {A : Type 0} (x y : A) (xs : List A) → Contains xs y → Contains (x ∷ xs) y
contains_later x y xs h = Contains-append_right (x ∷ []) xs y h

-- ---- the least value

least_of_two : {A : Type 0} (f : A → ℚ) (x : A) (xs : List A) (y : A) → IsLeastAt f xs y → (f x ≤ℚ f y) ⊎ (f y ≤ℚ f x) → (z : A) × IsLeastAt f (x ∷ xs) z
least_of_two f x xs y h (inl k) = (
  x,
  record {
    member = contains_first x xs;
    least =
        All-cons (λ z. f x ≤ℚ f z) x xs (le_refl_ℚ (f x))
        (All-weaker (λ z. f y ≤ℚ f z) (λ z. f x ≤ℚ f z) (λ z l. le_trans_ℚ (f x) (f y) (f z) k l) xs h.least);
  },
)
least_of_two f x xs y h (inr k) =
    (y, record { member = contains_later x y xs h.member; least = All-cons (λ z. f y ≤ℚ f z) x xs k h.least })

-- a list that is not empty has an element at which f is least
pub least_element : {A : Type 0} (f : A → ℚ) (x : A) (xs : List A) → (z : A) × IsLeastAt f (x ∷ xs) z
least_element f x [] =
    (x, record { member = contains_first x []; least = All-cons (λ z. f x ≤ℚ f z) x [] (le_refl_ℚ (f x)) (All-nil (λ z. f x ≤ℚ f z)) })
least_element f x (y ∷ ys) =
    let r = least_element f y ys in
    least_of_two f x (y ∷ ys) r.0 r.1 (le_total_ℚ (f x) (f r.0))

-- ---- the greatest step

-- a step that is nonnegative and no greater than a step that stays at least 0 stays so too
shorter_stays_by : (a b e c : ℚ) → zero_ℚ ≤ℚ a → zero_ℚ ≤ℚ c → c ≤ℚ e → zero_ℚ ≤ℚ a -ℚ e *ℚ b → (zero_ℚ ≤ℚ b) ⊎ (b ≤ℚ zero_ℚ) → zero_ℚ ≤ℚ a -ℚ c *ℚ b
shorter_stays_by a b e c ha hc k h (inl hb) =
    difference_from_le (c *ℚ b) a (le_trans_ℚ (c *ℚ b) (e *ℚ b) a (mul-le-mul_nonnegative c e b hb k) (le_from_difference (e *ℚ b) a h))
shorter_stays_by a b e c ha hc k h (inr hb) =
    subst (λ (x : ℚ). zero_ℚ ≤ℚ x) (ring rationals (a ∷ b ∷ c ∷ []) (v0 ⊕ v2 ⊗ ⊖ v1) (v0 ⊝ v2 ⊗ v1) refl)
    (add-nonnegative a (c *ℚ neg_ℚ b) ha (mul-nonnegative c (neg_ℚ b) hc (neg-nonnegative b hb)))

pub shorter_stays : (a b e c : ℚ) → zero_ℚ ≤ℚ a → zero_ℚ ≤ℚ c → c ≤ℚ e → zero_ℚ ≤ℚ a -ℚ e *ℚ b → zero_ℚ ≤ℚ a -ℚ c *ℚ b
shorter_stays a b e c ha hc k h = shorter_stays_by a b e c ha hc k h (le_total_ℚ zero_ℚ b)

-- where b is at most 0, each nonnegative step stays
any_stays : (a b c : ℚ) → zero_ℚ ≤ℚ a → zero_ℚ ≤ℚ c → b ≤ℚ zero_ℚ → zero_ℚ ≤ℚ a -ℚ c *ℚ b
any_stays a b c ha hc hb =
    subst (λ (x : ℚ). zero_ℚ ≤ℚ x) (ring rationals (a ∷ b ∷ c ∷ []) (v0 ⊕ v2 ⊗ ⊖ v1) (v0 ⊝ v2 ⊗ v1) refl)
    (add-nonnegative a (c *ℚ neg_ℚ b) ha (mul-nonnegative c (neg_ℚ b) hc (neg-nonnegative b hb)))

-- the quotient is the step to 0
quotient_reaches : (a b : ℚ) → zero_ℚ <ℚ b → a ≡ a /ℚ b *ℚ b
quotient_reaches a b h = sym (div-mul_ℚ a b (positive-not-zero b h))

quotient_stays : (a b : ℚ) → zero_ℚ <ℚ b → zero_ℚ ≤ℚ a -ℚ a /ℚ b *ℚ b
quotient_stays a b h = difference_from_le (a /ℚ b *ℚ b) a (le_of_same (a /ℚ b *ℚ b) a (sym (quotient_reaches a b h)))

-- g is positive nowhere, or there is a greatest step
abbrev Steps : {A : Type 0} → (A → ℚ) → (A → ℚ) → List A → Type 0
Steps f g xs = All (λ x. g x ≤ℚ zero_ℚ) xs ⊎ ((e : ℚ) × IsGreatestStep f g xs e)

first_step : {A : Type 0} (f g : A → ℚ) (x : A) (xs : List A) → zero_ℚ ≤ℚ f x → All (λ y. zero_ℚ ≤ℚ f y) xs → All (λ y. g y ≤ℚ zero_ℚ) xs → zero_ℚ <ℚ g x → IsGreatestStep f g (x ∷ xs) (f x /ℚ g x)
first_step f g x xs hx hs none h =
    let e : ℚ = f x /ℚ g x in
    let he : zero_ℚ ≤ℚ e = div-nonnegative (f x) (g x) hx h in
    record {
      nonnegative = he;
      stays =
          All-cons (λ y. zero_ℚ ≤ℚ f y -ℚ e *ℚ g y) x xs (quotient_stays (f x) (g x) h)
          (λ k d l. any_stays (f _) (g _) e (hs k d l) he (none k d l));
      reached = (x, contains_first x xs, h, quotient_reaches (f x) (g x) h);
    }

shorter_step : {A : Type 0} (f g : A → ℚ) (x : A) (xs : List A) (e : ℚ) → zero_ℚ ≤ℚ f x → All (λ y. zero_ℚ ≤ℚ f y) xs → IsGreatestStep f g xs e → zero_ℚ <ℚ g x → f x ≤ℚ e *ℚ g x → IsGreatestStep f g (x ∷ xs) (f x /ℚ g x)
shorter_step f g x xs e hx hs was h k =
    let c : ℚ = f x /ℚ g x in
    let hc : zero_ℚ ≤ℚ c = div-nonnegative (f x) (g x) hx h in
    let below : c ≤ℚ e = div-le e (f x) (g x) h ∙ k in
    record {
      nonnegative = hc;
      stays =
          All-cons (λ y. zero_ℚ ≤ℚ f y -ℚ c *ℚ g y) x xs (quotient_stays (f x) (g x) h)
          (λ k d l. shorter_stays (f _) (g _) e c (hs k d l) hc below (was.stays k d l));
      reached = (x, contains_first x xs, h, quotient_reaches (f x) (g x) h);
    }

same_step : {A : Type 0} (f g : A → ℚ) (x : A) (xs : List A) (e : ℚ) → IsGreatestStep f g xs e → zero_ℚ ≤ℚ f x -ℚ e *ℚ g x → IsGreatestStep f g (x ∷ xs) e
same_step f g x xs e was h =
    record {
      nonnegative = was.nonnegative;
      stays = All-cons (λ y. zero_ℚ ≤ℚ f y -ℚ e *ℚ g y) x xs h was.stays;
      reached = (was.reached.0, contains_later x was.reached.0 xs was.reached.1, was.reached.2, was.reached.3);
    }

compared_step : {A : Type 0} (f g : A → ℚ) (x : A) (xs : List A) (e : ℚ) → zero_ℚ ≤ℚ f x → All (λ y. zero_ℚ ≤ℚ f y) xs → IsGreatestStep f g xs e → zero_ℚ <ℚ g x → (f x ≤ℚ e *ℚ g x) ⊎ (e *ℚ g x ≤ℚ f x) → (c : ℚ) × IsGreatestStep f g (x ∷ xs) c
compared_step f g x xs e hx hs was h (inl k) = (f x /ℚ g x, shorter_step f g x xs e hx hs was h k)
compared_step f g x xs e hx hs was h (inr k) = (e, same_step f g x xs e was (difference_from_le (e *ℚ g x) (f x) k))

next_steps : {A : Type 0} (f g : A → ℚ) (x : A) (xs : List A) → zero_ℚ ≤ℚ f x → All (λ y. zero_ℚ ≤ℚ f y) xs → (g x ≤ℚ zero_ℚ) ⊎ (zero_ℚ <ℚ g x) → Steps f g xs → Steps f g (x ∷ xs)
next_steps f g x xs hx hs (inl h) (inl none) = inl (All-cons (λ y. g y ≤ℚ zero_ℚ) x xs h none)
next_steps f g x xs hx hs (inl h) (inr was) = inr (was.0, same_step f g x xs was.0 was.1 (any_stays (f x) (g x) was.0 hx was.1.nonnegative h))
next_steps f g x xs hx hs (inr h) (inl none) = inr (f x /ℚ g x, first_step f g x xs hx hs none h)
next_steps f g x xs hx hs (inr h) (inr was) = inr (compared_step f g x xs was.0 hx hs was.1 h (le_total_ℚ (f x) (was.0 *ℚ g x)))

-- where f is nonnegative: g is positive nowhere, or there is a greatest step
pub steps : {A : Type 0} (f g : A → ℚ) (xs : List A) → All (λ x. zero_ℚ ≤ℚ f x) xs → All (λ x. g x ≤ℚ zero_ℚ) xs ⊎ ((e : ℚ) × IsGreatestStep f g xs e)
steps f g [] h = inl (All-nil (λ x. g x ≤ℚ zero_ℚ))
steps f g (x ∷ xs) h =
    next_steps f g x xs (All-head (λ y. zero_ℚ ≤ℚ f y) x xs h) (All-tail (λ y. zero_ℚ ≤ℚ f y) x xs h) (le_or_lt (g x) zero_ℚ)
    (steps f g xs (All-tail (λ y. zero_ℚ ≤ℚ f y) x xs h))

step-positive_by : (a b e : ℚ) → zero_ℚ <ℚ a → zero_ℚ <ℚ b → a ≡ e *ℚ b → (e ≤ℚ zero_ℚ) ⊎ (zero_ℚ <ℚ e) → zero_ℚ <ℚ e
step-positive_by a b e ha hb same (inr h) = h
step-positive_by a b e ha hb same (inl h) =
    absurd (lt-not-le zero_ℚ a ha (subst (λ (x : ℚ). x ≤ℚ zero_ℚ) (sym same) (mul-nonpositive e b h (lt-le_ℚ zero_ℚ b hb))))

-- a step that takes a positive number to 0 is positive
pub step-positive : (a b e : ℚ) → zero_ℚ <ℚ a → zero_ℚ <ℚ b → a ≡ e *ℚ b → zero_ℚ <ℚ e
step-positive a b e ha hb same = step-positive_by a b e ha hb same (le_or_lt e zero_ℚ)
