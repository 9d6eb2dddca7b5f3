-- The places of the lines stand before the last entry.
use Rattle.std.proofs.Common.{◌≡◌, ℕ, zero, suc, ◌-◌, ◌<◌, ◌≤◌, Bool, true, false, cond, List, [], ◌∷◌, length, take, All, Contains, slice_index_or, refl, sym, ap, ◌∙◌, subst, arith, pos}
use Rattle.std.specs.List.{list_all}
use Rattle.exact_field.specs.Rational.{ℚ, zero_ℚ, one_ℚ, ◌+ℚ◌, ◌*ℚ◌, neg_ℚ}
use Rattle.exact_field.specs.Vector.{dot, entry}
use Rattle.exact_field.specs.Ring.{v0, ◌⊕◌, ◌⊗◌, ⊖, num}
use Rattle.exact_field.proofs.RingTool.{ring}
use Rattle.exact_field.proofs.Rationals.{rationals}
use Rattle.lineality.specs.Lines.{leading_place}
use Rattle.lineality.proofs.Places.{place_is}
use Rattle.polyhedra.specs.Vectors.{zeros}
use Rattle.polyhedra.specs.TightSets.{IsTight}
use Rattle.polyhedra.specs.DoubleDescription.{is_zero, leading}
use Rattle.polyhedra.specs.Exactness.{homogenised, level}
use Rattle.polyhedra.proofs.Laws.{zero_lt_one}
use Rattle.polyhedra.proofs.Algebra.{neg_neg, neg_zero}
use Rattle.polyhedra.proofs.Order.{not_zero_of_positive}
use Rattle.polyhedra.proofs.Linear.{dot_comm}
use Rattle.polyhedra.proofs.Lists.{HasWidth, Contains-here}
use Rattle.polyhedra.proofs.Members.{all_of_members, member_of}
use Rattle.polyhedra.proofs.Tests.{both_true, both_hold, test_of_zero}
use Rattle.polyhedra.proofs.Homogenised.{dot-homogenised, level_value}
use Rattle.representations.specs.Lined.{places_of}
use Rattle.representations.specs.Needed.{held_by_all}
use Rattle.representations.proofs.Places.{places_are_readers}
use Rattle.rep_conv.specs.Rows.{text_rows, rows_from, rows_under, has_rows}
use Rattle.rep_conv.specs.Laws.{LinesStand}
use Rattle.rep_text.specs.declared.rep.Rep.{Rep}
use Rattle.rep_conv.proofs.Ends.{by_parts, front_width}
use Rattle.rep_conv.proofs.SameSets.{zero_dot, pointed, point_in}

-- ---- the place of a vector whose front is not 0
leading_none : (f : List ℚ) (t : ℚ) → list_all is_zero f ≡ true → t ≡ zero_ℚ → leading (homogenised f t) ≡ zero_ℚ
leading_none [] t h e = ap (λ b. cond b zero_ℚ t) (test_of_zero t e)
leading_none (x ∷ f) t h e =
    let parts = both_true (is_zero x) (list_all is_zero f) h in
    ap (λ b. cond b (leading (homogenised f t)) x) parts.0 ∙ leading_none f t parts.1 e

place_inside : (f : List ℚ) (t : ℚ) → (list_all is_zero f ≡ true → ⊥) → leading_place (homogenised f t) ≤ length f
place_inside [] t h = absurd (h refl)
place_inside (x ∷ f) t h = go (is_zero x) refl (λ k. place_inside f t k)
  where
    go : (b : Bool) → is_zero x ≡ b → ((list_all is_zero f ≡ true → ⊥) → leading_place (homogenised f t) ≤ length f) →
        cond b (suc (leading_place (homogenised f t))) 1 ≤ suc (length f)
    go true e again = let k = again (λ n. h (both_hold (is_zero x) (list_all is_zero f) e n)) in omega (arith, k)
    go false e again = omega arith

zero_front : (n j : ℕ) (m : ℚ) → j < n → slice_index_or (homogenised (zeros n) m) j zero_ℚ ≡ zero_ℚ
zero_front zero j m h = absurd (omega arith)
zero_front (suc n) zero m h = refl
zero_front (suc n) (suc j) m h = zero_front n j m (omega arith)

-- ---- the place of a line
-- t ≥ 0 is tight at it
under_level : (w : ℕ) (f : List ℚ) (t : ℚ) → length f ≡ w → IsTight (level w) (homogenised f t) → t ≡ zero_ℚ
under_level w f t l tight = sym (level_value w f t l) ∙ tight

-- an equation that holds at a point has a normal
at_point : (w : ℕ) (p f : List ℚ) (t : ℚ) → length p ≡ w → length f ≡ w → IsTight (homogenised p (neg_ℚ one_ℚ)) (homogenised f t) → list_all is_zero f ≡ true → t ≡ zero_ℚ
at_point w p f t k l tight none =
    let height : neg_ℚ t ≡ zero_ℚ =
    ring rationals (t ∷ []) (⊖ v0) (num (pos 0) ⊕ ⊖ (num (pos 1)) ⊗ v0) refl
    ∙ ap (λ x. x +ℚ neg_ℚ one_ℚ *ℚ t) (sym (dot_comm p f ∙ zero_dot f p none))
    ∙ sym (dot-homogenised p f (neg_ℚ one_ℚ) t (k ∙ sym l)) ∙ tight in
    sym (neg_neg t) ∙ ap neg_ℚ height ∙ neg_zero

module _ (rep : Rep) (rows : has_rows rep ≡ true) where
  no_height : (f : List ℚ) (t : ℚ) → length f ≡ rep.width → All (λ r. IsTight r (homogenised f t)) (text_rows rep) → list_all is_zero f ≡ true → t ≡ zero_ℚ
  no_height f t l tight none = go rep.gens refl
    where
      go : (b : Bool) → rep.gens ≡ b → t ≡ zero_ℚ
      go true e =
          let p = point_in rep e (pointed rep e rows) in
          at_point rep.width p.0 f t p.1 l (member_of (λ r. IsTight r (homogenised f t)) (text_rows rep) (homogenised p.0 (neg_ℚ one_ℚ)) tight p.2) none
      go false e = under_level rep.width f t l (member_of (λ r. IsTight r (homogenised f t)) (text_rows rep) (level rep.width) tight
          (subst (λ (rs : List (List ℚ)). Contains rs (level rep.width)) (sym (ap (λ b. rows_under b rep) e)) (Contains-here (level rep.width) (rows_from rep) (level rep.width) refl)))

  place_within : (d : List ℚ) → length d ≡ suc rep.width → leading d ≡ one_ℚ → All (λ r. IsTight r d) (text_rows rep) → leading_place d ≤ rep.width
  place_within d width one tight =
      let parts : d ≡ homogenised (take rep.width d) (entry d (suc rep.width)) = by_parts rep.width d width in
      let front : length (take rep.width d) ≡ rep.width = front_width rep.width d width in
      let inside : leading_place (homogenised (take rep.width d) (entry d (suc rep.width))) ≤ length (take rep.width d) =
      place_inside (take rep.width d) (entry d (suc rep.width)) (λ none.
      not_zero_of_positive one_ℚ zero_lt_one (sym one ∙ ap leading parts
      ∙ leading_none (take rep.width d) (entry d (suc rep.width)) none
      (no_height (take rep.width d) (entry d (suc rep.width)) front (subst (λ (v : List ℚ). All (λ r. IsTight r v) (text_rows rep)) parts tight) none))) in
      let place = ap leading_place parts in
      omega (arith, inside, front, place)

  module _ (lines : List (List ℚ)) (h : LinesStand rep lines) where
    pub line_within : (d : List ℚ) → Contains lines d → leading_place d ≤ rep.width
    line_within d c = place_within d (member_of (HasWidth (suc rep.width)) lines d h.echelon.wide.wide c)
        (member_of (λ v. leading v ≡ one_ℚ) lines d h.echelon.leading_one c) (member_of (λ v. All (λ r. IsTight r v) (text_rows rep)) lines d h.corner c)

    -- so their readers read no last entry
    pub unread : All (λ r. dot r (held_by_all rep.width) ≡ zero_ℚ) (places_of (suc rep.width) lines)
    unread = ((places_are_readers (suc rep.width) lines h.echelon).reduced (held_by_all rep.width)).0
        (all_of_members (λ d. entry (held_by_all rep.width) (leading_place d) ≡ zero_ℚ) lines (λ d c.
        zero_front rep.width (leading_place d - 1) (neg_ℚ one_ℚ) (let place = place_is d in let within = line_within d c in omega (arith, place, within))))
