-- Two sums a + t b and g + u b, where g covers a and b: the first less the greatest multiple of the second has more tight
-- rows, and some row is positive at it.
use Rattle.std.proofs.Common.{◌≡◌, ℕ, List, [], ◌∷◌, All, Contains, refl, sym, ap, ap₂, ◌∙◌, subst, ◌⊎◌, inl, inr, ◌<◌}
use Rattle.exact_field.specs.Rational.{ℚ, zero_ℚ, ◌+ℚ◌, ◌*ℚ◌, neg_ℚ, ◌≤ℚ◌, ◌<ℚ◌}
use Rattle.exact_field.specs.Vector.{dot}
use Rattle.exact_field.specs.Ring.{v0, v1, v2, v3, v4, v5, ◌⊕◌, ◌⊗◌, ◌⊝◌}
use Rattle.exact_field.proofs.RingTool.{ring}
use Rattle.exact_field.proofs.Rationals.{rationals}
use Rattle.polyhedra.specs.Vectors.{plus, scaled}
use Rattle.polyhedra.specs.Cone.{IsInCone}
use Rattle.polyhedra.specs.TightSets.{IsTight, LiesIn, Covers, AreApart}
use Rattle.polyhedra.proofs.Laws.{add_neg, add_zero, mul_comm, le_of_lt, mul_nonneg}
use Rattle.polyhedra.proofs.Algebra.{zero_add, mul_zero}
use Rattle.polyhedra.proofs.Order.{le_or_lt, zero_or_positive, add_nonneg, add_positive, add_zero_left, add_zero_right, product_zero, mul_positive, mul_le, lt_irrefl, lt_of_lt_of_le, lt_of_difference, difference_nonneg, not_zero_of_positive}
use Rattle.polyhedra.proofs.Linear.{dot-plus, dot-scaled, length-plus, length-scaled}
use Rattle.polyhedra.proofs.Lists.{HoldsAt}
use Rattle.polyhedra.proofs.Members.{all_of_members, member_of}
use Rattle.polyhedra.proofs.TightRows.{loose, loose-lt, IsApartAt, lies_or_not, tight_or_positive}
use Rattle.polyhedra.proofs.LeastQuotient.{IsPositiveSomewhere, IsLeastQuotient, least_quotient, less, less_value, less_width, less_tight, less_holds, less_reached}

-- a + t b
abbrev pub moved : List ℚ → ℚ → List ℚ → List ℚ
moved a t b = plus a (scaled t b)

pub moved_value : (a b r : List ℚ) (t : ℚ) → dot r (moved a t b) ≡ dot r a +ℚ t *ℚ dot r b
moved_value a b r t = dot-plus r a (scaled t b) ∙ ap (λ x. dot r a +ℚ x) (dot-scaled r t b)

pub moved_nonneg : (a b r : List ℚ) (t : ℚ) → zero_ℚ <ℚ t → zero_ℚ ≤ℚ dot r a → zero_ℚ ≤ℚ dot r b → zero_ℚ ≤ℚ dot r (moved a t b)
moved_nonneg a b r t p h k = subst (λ (x : ℚ). zero_ℚ ≤ℚ x) (sym (moved_value a b r t))
    (add_nonneg (dot r a) (t *ℚ dot r b) h (mul_nonneg t (dot r b) (le_of_lt zero_ℚ t p) k))

pub moved_tight : (a b r : List ℚ) (t : ℚ) → IsTight r a → IsTight r b → IsTight r (moved a t b)
moved_tight a b r t h k = moved_value a b r t ∙ ap₂ (λ x y. x +ℚ t *ℚ y) h k ∙ zero_add (t *ℚ zero_ℚ) ∙ mul_zero t

-- a row that is tight at a + t b is tight at both
pub moved_tight_left : (a b r : List ℚ) (t : ℚ) → zero_ℚ <ℚ t → zero_ℚ ≤ℚ dot r a → zero_ℚ ≤ℚ dot r b → IsTight r (moved a t b) → IsTight r a
moved_tight_left a b r t p h k e = add_zero_left (dot r a) (t *ℚ dot r b) h (mul_nonneg t (dot r b) (le_of_lt zero_ℚ t p) k) (sym (moved_value a b r t) ∙ e)

pub moved_tight_right : (a b r : List ℚ) (t : ℚ) → zero_ℚ <ℚ t → zero_ℚ ≤ℚ dot r a → zero_ℚ ≤ℚ dot r b → IsTight r (moved a t b) → IsTight r b
moved_tight_right a b r t p h k e = product_zero t (dot r b) p
    (add_zero_right (dot r a) (t *ℚ dot r b) h (mul_nonneg t (dot r b) (le_of_lt zero_ℚ t p) k) (sym (moved_value a b r t) ∙ e))

pub moved_in : (n : ℕ) (rows : List (List ℚ)) (a b : List ℚ) (t : ℚ) → zero_ℚ <ℚ t → IsInCone n rows a → IsInCone n rows b → IsInCone n rows (moved a t b)
moved_in n rows a b t p h k = record {
  wide = length-plus n a (scaled t b) h.wide (length-scaled t b ∙ k.wide);
  within = all_of_members (HoldsAt (moved a t b)) rows
      (λ r c. moved_nonneg a b r t p (member_of (HoldsAt a) rows r h.within c) (member_of (HoldsAt b) rows r k.within c));
}

-- what the shrinking gives
pub record IsShrunk (n : ℕ) (rows : List (List ℚ)) (x y v : List ℚ) : Type 0 where
  pub in_cone : IsInCone n rows v
  pub lies : LiesIn rows x v
  pub fewer : loose rows v < loose rows x
  pub somewhere : IsPositiveSomewhere rows v
  pub zero_where : (r : List ℚ) → IsTight r x → IsTight r y → IsTight r v

module _ (n : ℕ) (rows : List (List ℚ)) (a b g : List ℚ) (t u : ℚ) (t_positive : zero_ℚ <ℚ t) (u_positive : zero_ℚ <ℚ u)
    (a_in : IsInCone n rows a) (b_in : IsInCone n rows b) (g_in : IsInCone n rows g) (covers : Covers rows a b g) (apart : AreApart rows a g) where
  value_a : (r : List ℚ) → Contains rows r → zero_ℚ ≤ℚ dot r a
  value_a r c = member_of (HoldsAt a) rows r a_in.within c

  value_b : (r : List ℚ) → Contains rows r → zero_ℚ ≤ℚ dot r b
  value_b r c = member_of (HoldsAt b) rows r b_in.within c

  value_g : (r : List ℚ) → Contains rows r → zero_ℚ ≤ℚ dot r g
  value_g r c = member_of (HoldsAt g) rows r g_in.within c

  -- each row that is tight at the first sum is tight at the second
  sums_lie : LiesIn rows (moved a t b) (moved g u b)
  sums_lie = all_of_members (λ r. IsTight r (moved a t b) → IsTight r (moved g u b)) rows (λ r c e.
      let at_a : IsTight r a = moved_tight_left a b r t t_positive (value_a r c) (value_b r c) e in
      let at_b : IsTight r b = moved_tight_right a b r t t_positive (value_a r c) (value_b r c) e in
      moved_tight g b r u (member_of (λ w. IsTight w a → IsTight w b → IsTight w g) rows r covers c at_a at_b) at_b)

  -- a row that is tight at a and not at g
  edge : IsApartAt rows a g
  edge = go (lies_or_not rows a g)
    where
      go : LiesIn rows a g ⊎ IsApartAt rows a g → IsApartAt rows a g
      go (inl h) = absurd (apart.first h)
      go (inr s) = s

  at_edge : zero_ℚ <ℚ dot edge.row g
  at_edge = go (zero_or_positive (dot edge.row g) (value_g edge.row edge.listed))
    where
      go : (dot edge.row g ≡ zero_ℚ) ⊎ (zero_ℚ <ℚ dot edge.row g) → zero_ℚ <ℚ dot edge.row g
      go (inl e) = absurd (edge.loose_there e)
      go (inr p) = p

  second_somewhere : IsPositiveSomewhere rows (moved g u b)
  second_somewhere = record {
    row = edge.row;
    listed = edge.listed;
    positive = subst (λ (x : ℚ). zero_ℚ <ℚ x) (sym (moved_value g b edge.row u))
        (add_positive (dot edge.row g) (u *ℚ dot edge.row b) at_edge
        (mul_nonneg u (dot edge.row b) (le_of_lt zero_ℚ u u_positive) (value_b edge.row edge.listed)));
  }

  least : IsLeastQuotient rows (moved a t b) (moved g u b)
  least = least_quotient (moved a t b) (moved g u b) rows (moved_in n rows a b t t_positive a_in b_in).within
      (moved_in n rows g b u u_positive g_in b_in).within sums_lie second_somewhere

  -- were no row positive at the difference, e = t - quotient u would be positive, and a would be tight wherever g is
  module _ (all_tight : (r : List ℚ) → Contains rows r → dot r a +ℚ t *ℚ dot r b ≡ least.quotient *ℚ (dot r g +ℚ u *ℚ dot r b)) where
    gap : ℚ
    gap = t +ℚ neg_ℚ (least.quotient *ℚ u)

    gap_nonneg : zero_ℚ ≤ℚ gap
    unfolding gap
    gap_nonneg = go (le_or_lt (least.quotient *ℚ u) t)
      where
        d : List ℚ
        d = edge.row

        at_b : t *ℚ dot d b ≡ least.quotient *ℚ (dot d g +ℚ u *ℚ dot d b)
        at_b = sym (ap (λ x. x +ℚ t *ℚ dot d b) edge.tight ∙ zero_add (t *ℚ dot d b)) ∙ all_tight d edge.listed

        go : (least.quotient *ℚ u ≤ℚ t) ⊎ (t <ℚ least.quotient *ℚ u) → zero_ℚ ≤ℚ t +ℚ neg_ℚ (least.quotient *ℚ u)
        go (inl h) = difference_nonneg (least.quotient *ℚ u) t h
        go (inr h) = absurd (lt_irrefl ((least.quotient *ℚ u) *ℚ dot d b)
            (lt_of_lt_of_le ((least.quotient *ℚ u) *ℚ dot d b) (t *ℚ dot d b) ((least.quotient *ℚ u) *ℚ dot d b)
            (lt_of_difference ((least.quotient *ℚ u) *ℚ dot d b) (t *ℚ dot d b) (least.quotient *ℚ dot d g)
            (mul_positive least.quotient (dot d g) least.above_zero at_edge)
            (ring rationals (least.quotient ∷ u ∷ dot d b ∷ dot d g ∷ []) ((v0 ⊗ v1) ⊗ v2 ⊕ v0 ⊗ v3) (v0 ⊗ (v3 ⊕ v1 ⊗ v2)) refl ∙ sym at_b))
            (subst (λ (x : ℚ). x ≤ℚ (least.quotient *ℚ u) *ℚ dot d b) (mul_comm (dot d b) t)
            (subst (λ (x : ℚ). dot d b *ℚ t ≤ℚ x) (mul_comm (dot d b) (least.quotient *ℚ u))
            (mul_le (dot d b) t (least.quotient *ℚ u) (value_b d edge.listed) (le_of_lt t (least.quotient *ℚ u) h))))))

    lies_back : LiesIn rows g a
    unfolding gap
    lies_back = all_of_members (λ r. IsTight r g → IsTight r a) rows (λ r c e.
        add_zero_left (dot r a) (gap *ℚ dot r b) (value_a r c) (mul_nonneg gap (dot r b) gap_nonneg (value_b r c))
        (ring rationals (dot r a ∷ t ∷ least.quotient ∷ u ∷ dot r b ∷ dot r g ∷ [])
        (v0 ⊕ (v1 ⊝ v2 ⊗ v3) ⊗ v4) (((v0 ⊕ v1 ⊗ v4) ⊝ v2 ⊗ (v5 ⊕ v3 ⊗ v4)) ⊕ v2 ⊗ v5) refl
        ∙ ap₂ (λ x y. (x +ℚ neg_ℚ (least.quotient *ℚ (dot r g +ℚ u *ℚ dot r b))) +ℚ least.quotient *ℚ y) (all_tight r c) e
        ∙ ap₂ (λ x y. x +ℚ y) (add_neg (least.quotient *ℚ (dot r g +ℚ u *ℚ dot r b))) (mul_zero least.quotient)
        ∙ add_zero zero_ℚ))

  pub shrunk : List ℚ
  shrunk = less (moved a t b) least.quotient (moved g u b)

  shrunk_somewhere : IsPositiveSomewhere rows shrunk
  unfolding shrunk
  shrunk_somewhere = go (tight_or_positive rows shrunk (less_holds (moved a t b) (moved g u b) least.quotient rows least.bound))
    where
      go : All (λ r. IsTight r shrunk) rows ⊎ IsPositiveSomewhere rows shrunk → IsPositiveSomewhere rows shrunk
      go (inl h) = absurd (apart.second (lies_back (λ r c.
          let e : dot r (moved a t b) +ℚ neg_ℚ (least.quotient *ℚ dot r (moved g u b)) ≡ zero_ℚ = sym
          (less_value (moved a t b) (moved g u b) r least.quotient) ∙ member_of (λ w. IsTight w shrunk) rows r h c in
          sym (moved_value a b r t)
          ∙ ring rationals (dot r (moved a t b) ∷ least.quotient *ℚ dot r (moved g u b) ∷ []) v0 ((v0 ⊝ v1) ⊕ v1) refl
          ∙ ap (λ x. x +ℚ least.quotient *ℚ dot r (moved g u b)) e
          ∙ zero_add (least.quotient *ℚ dot r (moved g u b))
          ∙ ap (λ x. least.quotient *ℚ x) (moved_value g b r u))))
      go (inr p) = p

  pub shrunk_is : IsShrunk n rows (moved a t b) (moved g u b) shrunk
  unfolding shrunk
  shrunk_is = record {
    in_cone = record {
      wide = less_width n (moved a t b) (moved g u b) least.quotient (moved_in n rows a b t t_positive a_in b_in).wide
          (moved_in n rows g b u u_positive g_in b_in).wide;
      within = less_holds (moved a t b) (moved g u b) least.quotient rows least.bound;
    };
    lies = lies_on;
    fewer = loose-lt rows (moved a t b) shrunk least.row lies_on least.listed
        (λ e. not_zero_of_positive (least.quotient *ℚ dot least.row (moved g u b))
        (mul_positive least.quotient (dot least.row (moved g u b)) least.above_zero least.positive) (least.reached ∙ e))
        (less_reached (moved a t b) (moved g u b) least.row least.quotient least.reached);
    somewhere = shrunk_somewhere;
    zero_where = λ r h k. less_tight (moved a t b) (moved g u b) r least.quotient h k;
  }
    where
      lies_on : LiesIn rows (moved a t b) shrunk
      lies_on = all_of_members (λ r. IsTight r (moved a t b) → IsTight r shrunk) rows
          (λ r c e. less_tight (moved a t b) (moved g u b) r least.quotient e
          (member_of (λ w. IsTight w (moved a t b) → IsTight w (moved g u b)) rows r sums_lie c e))
