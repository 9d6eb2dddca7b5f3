-- The greatest multiple of a vector that can be taken off another while every row stays at least 0: a least quotient.
use Rattle.std.proofs.Common.{◌≡◌, ℕ, List, [], ◌∷◌, length, All, Contains, refl, sym, ap, ap₂, ◌∙◌, subst, ◌⊎◌, inl, inr}
use Rattle.std.proofs.lemmas.List.Elements.{All-nil, All-cons, All-head, All-tail, All-weaker}
use Rattle.exact_field.specs.Rational.{ℚ, zero_ℚ, ◌+ℚ◌, ◌*ℚ◌, neg_ℚ, inverse_ℚ, ◌≤ℚ◌, ◌<ℚ◌}
use Rattle.exact_field.specs.Vector.{dot}
use Rattle.polyhedra.specs.TightSets.{IsTight, LiesIn}
use Rattle.std.proofs.Common.{pos}
use Rattle.exact_field.specs.Ring.{v0, v1, ◌⊕◌, ◌⊗◌, ◌⊝◌, num}
use Rattle.exact_field.proofs.RingTool.{ring}
use Rattle.exact_field.proofs.Rationals.{rationals}
use Rattle.polyhedra.specs.Vectors.{plus, scaled}
use Rattle.polyhedra.proofs.Linear.{dot-plus, dot-scaled, length-plus, length-scaled}
use Rattle.polyhedra.proofs.Laws.{add_neg, le_trans, le_of_lt, mul_comm}
use Rattle.polyhedra.proofs.Lists.{HoldsAt, Contains-here, Contains-there}
use Rattle.polyhedra.proofs.Algebra.{mul_zero, neg_mul}
use Rattle.polyhedra.proofs.Order.{difference_nonneg, le_or_lt, zero_or_positive, not_zero_of_positive, mul_positive, inverse_positive, le_of_eq, mul_le, mul_inverse_cancel}

-- some row is positive at g
pub record IsPositiveSomewhere (rows : List (List ℚ)) (g : List ℚ) : Type 0 where
  pub row : List ℚ
  pub listed : Contains rows row
  pub positive : zero_ℚ <ℚ dot row g

-- e is the greatest number for which each row is at e times g at most what it is at z
pub record IsLeastQuotient (rows : List (List ℚ)) (z g : List ℚ) : Type 0 where
  pub quotient : ℚ
  pub above_zero : zero_ℚ <ℚ quotient
  pub bound : All (λ r. quotient *ℚ dot r g ≤ℚ dot r z) rows
  pub row : List ℚ
  pub listed : Contains rows row
  pub positive : zero_ℚ <ℚ dot row g
  pub reached : quotient *ℚ dot row g ≡ dot row z

abbrev Below : List ℚ → List ℚ → ℚ → List ℚ → Type 0
Below z g e r = e *ℚ dot r g ≤ℚ dot r z

-- the quotient of one row
module _ (z g r : List ℚ) (positive : zero_ℚ <ℚ dot r g) (at_z : zero_ℚ <ℚ dot r z) where
  own : ℚ
  own = inverse_ℚ (dot r g) *ℚ dot r z

  own_positive : zero_ℚ <ℚ own
  unfolding own
  own_positive = mul_positive (inverse_ℚ (dot r g)) (dot r z) (inverse_positive (dot r g) positive) at_z

  own_reached : own *ℚ dot r g ≡ dot r z
  unfolding own
  own_reached = mul_comm (inverse_ℚ (dot r g) *ℚ dot r z) (dot r g) ∙ mul_inverse_cancel (dot r g) (dot r z) positive

-- a smaller factor keeps the bounds
smaller : (z g : List ℚ) (e d : ℚ) (rows : List (List ℚ)) → d ≤ℚ e → All (HoldsAt g) rows → All (Below z g e) rows → All (Below z g d) rows
smaller z g e d [] h k b = All-nil (Below z g d)
smaller z g e d (r ∷ rows) h k b = All-cons (Below z g d) r rows
    (le_trans (d *ℚ dot r g) (e *ℚ dot r g) (dot r z)
    (subst (λ (x : ℚ). x ≤ℚ e *ℚ dot r g) (mul_comm (dot r g) d)
    (subst (λ (x : ℚ). dot r g *ℚ d ≤ℚ x) (mul_comm (dot r g) e) (mul_le (dot r g) d e (All-head (HoldsAt g) r rows k) h)))
    (All-head (Below z g e) r rows b))
    (smaller z g e d rows h (All-tail (HoldsAt g) r rows k) (All-tail (Below z g e) r rows b))

-- where every row is 0 at g each factor will do
free : (z g : List ℚ) (e : ℚ) (rows : List (List ℚ)) → All (HoldsAt z) rows → All (λ r. IsTight r g) rows → All (Below z g e) rows
free z g e [] h k = All-nil (Below z g e)
free z g e (r ∷ rows) h k = All-cons (Below z g e) r rows
    (subst (λ (x : ℚ). x ≤ℚ dot r z) (sym (ap (λ x. e *ℚ x) (All-head (λ r'. IsTight r' g) r rows k) ∙ mul_zero e)) (All-head (HoldsAt z) r rows h))
    (free z g e rows (All-tail (HoldsAt z) r rows h) (All-tail (λ r'. IsTight r' g) r rows k))

-- every row is 0 at g, or there is a least quotient
least : (z g : List ℚ) (rows : List (List ℚ)) → All (HoldsAt z) rows → All (HoldsAt g) rows → LiesIn rows z g → All
    (λ r. IsTight r g) rows ⊎ IsLeastQuotient rows z g
least z g [] h k l = inl (All-nil (λ r. IsTight r g))
least z g (r ∷ rows) h k l = go (zero_or_positive (dot r g) (All-head (HoldsAt g) r rows k))
    (least z g rows (All-tail (HoldsAt z) r rows h) (All-tail (HoldsAt g) r rows k) (All-tail Within r rows l))
  where
    Within : List ℚ → Type 0
    Within r' = IsTight r' z → IsTight r' g

    -- the row is positive at z, since it is at g
    at_z : zero_ℚ <ℚ dot r g → zero_ℚ <ℚ dot r z
    at_z p = by (zero_or_positive (dot r z) (All-head (HoldsAt z) r rows h))
      where
        by : (dot r z ≡ zero_ℚ) ⊎ (zero_ℚ <ℚ dot r z) → zero_ℚ <ℚ dot r z
        by (inl e) = absurd (not_zero_of_positive (dot r g) p (All-head Within r rows l e))
        by (inr q) = q

    mine : (p : zero_ℚ <ℚ dot r g) → All (Below z g (own z g r p (at_z p))) rows → IsLeastQuotient (r ∷ rows) z g
    mine p b = record {
      quotient = own z g r p (at_z p);
      above_zero = own_positive z g r p (at_z p);
      bound = All-cons (Below z g (own z g r p (at_z p))) r rows (le_of_eq _ _ (own_reached z g r p (at_z p))) b;
      row = r;
      listed = Contains-here r rows r refl;
      positive = p;
      reached = own_reached z g r p (at_z p);
    }

    theirs : (q : IsLeastQuotient rows z g) → q.quotient *ℚ dot r g ≤ℚ dot r z → IsLeastQuotient (r ∷ rows) z g
    theirs q b = record {
      quotient = q.quotient;
      above_zero = q.above_zero;
      bound = All-cons (Below z g q.quotient) r rows b q.bound;
      row = q.row;
      listed = Contains-there r rows q.row q.listed;
      positive = q.positive;
      reached = q.reached;
    }

    compared : (p : zero_ℚ <ℚ dot r g) (q : IsLeastQuotient rows z g) → (own z g r p (at_z p) ≤ℚ q.quotient) ⊎ (q.quotient <ℚ own z g r p (at_z p)) →
        IsLeastQuotient (r ∷ rows) z g
    compared p q (inl m) = mine p (smaller z g q.quotient (own z g r p (at_z p)) rows m (All-tail (HoldsAt g) r rows k) q.bound)
    compared p q (inr m) = theirs q
        (All-head (Below z g q.quotient) r []
        (smaller z g (own z g r p (at_z p)) q.quotient (r ∷ []) (le_of_lt q.quotient (own z g r p (at_z p)) m)
        (All-cons (HoldsAt g) r [] (All-head (HoldsAt g) r rows k) (All-nil (HoldsAt g)))
        (All-cons (Below z g (own z g r p (at_z p))) r [] (le_of_eq _ _ (own_reached z g r p (at_z p))) (All-nil (Below z g (own z g r p (at_z p)))))))

    go : (dot r g ≡ zero_ℚ) ⊎ (zero_ℚ <ℚ dot r g) → All (λ r'. IsTight r' g) rows ⊎ IsLeastQuotient rows z g → All (λ r'. IsTight r' g)
        (r ∷ rows) ⊎ IsLeastQuotient (r ∷ rows) z g
    go (inl e) (inl a) = inl (All-cons (λ r'. IsTight r' g) r rows e a)
    go (inl e) (inr q) = inr (theirs q (subst (λ (x : ℚ). x ≤ℚ dot r z) (sym (ap (λ x. q.quotient *ℚ x) e ∙ mul_zero q.quotient))
        (All-head (HoldsAt z) r rows h)))
    go (inr p) (inl a) = inr (mine p (free z g (own z g r p (at_z p)) rows (All-tail (HoldsAt z) r rows h) a))
    go (inr p) (inr q) = inr (compared p q (le_or_lt (own z g r p (at_z p)) q.quotient))

pub least_quotient : (z g : List ℚ) (rows : List (List ℚ)) → All (HoldsAt z) rows → All (HoldsAt g) rows → LiesIn rows z g →
    IsPositiveSomewhere rows g → IsLeastQuotient rows z g
least_quotient z g rows h k l s = go (least z g rows h k l)
  where
    go : All (λ r. IsTight r g) rows ⊎ IsLeastQuotient rows z g → IsLeastQuotient rows z g
    go (inl a) = absurd (not_zero_of_positive (dot s.row g) s.positive
        (Rattle.std.proofs.lemmas.List.Elements.All-contains (λ r. IsTight r g) rows s.row a s.listed))
    go (inr q) = q

-- ---- what is left
-- z less e times g
pub less : List ℚ → ℚ → List ℚ → List ℚ
less z e g = plus z (scaled (neg_ℚ e) g)

pub less_value : (z g r : List ℚ) (e : ℚ) → dot r (less z e g) ≡ dot r z +ℚ neg_ℚ (e *ℚ dot r g)
unfolding less
less_value z g r e = dot-plus r z (scaled (neg_ℚ e) g) ∙ ap (λ x. dot r z +ℚ x) (dot-scaled r (neg_ℚ e) g ∙ neg_mul e (dot r g))

pub less_back : (z g r : List ℚ) (e : ℚ) → dot r z ≡ dot r (less z e g) +ℚ e *ℚ dot r g
less_back z g r e = sym (ap (λ x. x +ℚ e *ℚ dot r g) (less_value z g r e)
    ∙ ring rationals (dot r z ∷ e *ℚ dot r g ∷ []) ((v0 ⊝ v1) ⊕ v1) v0 refl)

pub less_width : (n : ℕ) (z g : List ℚ) (e : ℚ) → length z ≡ n → length g ≡ n → length (less z e g) ≡ n
unfolding less
less_width n z g e h k = length-plus n z _ h (length-scaled (neg_ℚ e) g ∙ k)

pub less_tight : (z g r : List ℚ) (e : ℚ) → IsTight r z → IsTight r g → IsTight r (less z e g)
less_tight z g r e h k = less_value z g r e ∙ ap₂ (λ x y. x +ℚ neg_ℚ (e *ℚ y)) h k ∙ ring rationals (e ∷ []) (num (pos 0) ⊝ v0 ⊗ num (pos 0)) (num (pos 0)) refl

pub less_holds : (z g : List ℚ) (e : ℚ) (rows : List (List ℚ)) → All (λ r. e *ℚ dot r g ≤ℚ dot r z) rows → All (HoldsAt (less z e g)) rows
less_holds z g e rows h = All-weaker (λ r. e *ℚ dot r g ≤ℚ dot r z) (HoldsAt (less z e g))
    (λ r k. subst (λ (x : ℚ). zero_ℚ ≤ℚ x) (sym (less_value z g r e)) (difference_nonneg (e *ℚ dot r g) (dot r z) k)) rows h

pub less_reached : (z g r : List ℚ) (e : ℚ) → e *ℚ dot r g ≡ dot r z → IsTight r (less z e g)
less_reached z g r e h = less_value z g r e ∙ ap (λ x. dot r z +ℚ neg_ℚ x) h ∙ add_neg (dot r z)
