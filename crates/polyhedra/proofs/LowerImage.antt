-- The lower image's vertices are the facets, and it has one extreme direction.
use Rattle.std.proofs.Common.{◌≡◌, ℕ, suc, List, [], ◌∷◌, length, refl, sym, ap, ap₂, ◌∙◌, subst, pos}
use Rattle.exact_field.specs.Rational.{ℚ, zero_ℚ, one_ℚ, ◌+ℚ◌, ◌*ℚ◌, neg_ℚ, ◌≤ℚ◌, ◌<ℚ◌}
use Rattle.exact_field.specs.Vector.{dot}
use Rattle.exact_field.specs.Ring.{v0, v1, ◌⊕◌, ◌⊝◌, num}
use Rattle.exact_field.proofs.RingTool.{ring}
use Rattle.exact_field.proofs.Rationals.{rationals}
use Rattle.polyhedra.specs.Vectors.{plus}
use Rattle.polyhedra.specs.Inequality.{Inequality}
use Rattle.polyhedra.specs.Hull.{IsVertex, IsValid, IsValidAt, IsFacet}
use Rattle.polyhedra.specs.Exactness.{homogenised}
use Rattle.polyhedra.specs.LowerImage.{completed, IsInLowerImage, VerticesAreFacets}
use Rattle.polyhedra.proofs.Laws.{add_comm, mul_one}
use Rattle.polyhedra.proofs.Algebra.{cancel}
use Rattle.polyhedra.proofs.Linear.{dot_comm, dot-plus}
use Rattle.polyhedra.proofs.Homogenised.{dot-homogenised, plus-homogenised, homogenised-same, IsHomogenised, unhomogenised}

-- the last entry of a normal whose product with (c, 1) is 1
last_of : ℚ → ℚ
last_of a = one_ℚ +ℚ neg_ℚ a

-- what is normed is completed
normed_last : (n : ℕ) (c w : List ℚ) (t : ℚ) → length c ≡ n → length w ≡ n → dot (homogenised w t) (homogenised c one_ℚ) ≡ one_ℚ → t ≡ last_of (dot c w)
unfolding last_of
normed_last n c w t h k e =
    sym (cancel t (dot c w)) ∙ ap (λ x. x +ℚ neg_ℚ (dot c w))
    (add_comm t (dot c w) ∙ ap₂ (λ a b. a +ℚ b) (dot_comm c w) (sym (mul_one t)) ∙ sym (dot-homogenised w c t one_ℚ (k ∙ sym h)) ∙ e)

completed_normed : (n : ℕ) (c w : List ℚ) (bound : ℚ) → length c ≡ n → length w ≡ n → dot (completed c w bound).normal (homogenised c one_ℚ) ≡ one_ℚ
completed_normed n c w bound h k =
    dot-homogenised w c (one_ℚ +ℚ neg_ℚ (dot c w)) one_ℚ (k ∙ sym h)
    ∙ ap₂ (λ a b. a +ℚ b) (dot_comm w c) (mul_one (one_ℚ +ℚ neg_ℚ (dot c w)))
    ∙ ring rationals (dot c w ∷ []) (v0 ⊕ (num (pos 1) ⊝ v0)) (num (pos 1)) refl

-- the completed normal of a sum
completed_sum : (n : ℕ) (c u v w : List ℚ) → length c ≡ n → length u ≡ n → length v ≡ n → plus w w ≡ plus u v →
    (one_ℚ +ℚ neg_ℚ (dot c w)) +ℚ (one_ℚ +ℚ neg_ℚ (dot c w)) ≡ (one_ℚ +ℚ neg_ℚ (dot c u)) +ℚ (one_ℚ +ℚ neg_ℚ (dot c v))
completed_sum n c u v w h k l e =
    ring rationals (dot c w ∷ []) ((num (pos 1) ⊝ v0) ⊕ (num (pos 1) ⊝ v0)) (num (pos 2) ⊝ (v0 ⊕ v0)) refl
    ∙ ap (λ x. Rattle.exact_field.specs.Rational.whole (pos 2) +ℚ neg_ℚ x) (sym (dot-plus c w w) ∙ ap (λ x. dot c x) e ∙ dot-plus c u v)
    ∙ ring rationals (dot c u ∷ dot c v ∷ []) (num (pos 2) ⊝ (v0 ⊕ v1)) ((num (pos 1) ⊝ v0) ⊕ (num (pos 1) ⊝ v1)) refl

module _ (Set : List ℚ → Type 0) (n : ℕ) (c w : List ℚ) (bound : ℚ) (c_wide : length c ≡ n) (w_wide : length w ≡ n) where
  big : Inequality
  big = completed c w bound

  -- an inequality normed at (c, 1), as a member of the lower image
  record IsCompleted (e : Inequality) : Type 0 where
    front : List ℚ
    wide : length front ≡ n
    same : e ≡ completed c front e.bound

  as_completed : (e : Inequality) → IsValidAt (suc n) Set (homogenised c one_ℚ) e → IsCompleted e
  unfolding last_of
  as_completed e v =
      let u : IsHomogenised n e.normal = unhomogenised n e.normal v.wide in
      let last : u.last ≡ one_ℚ +ℚ neg_ℚ (dot c u.front) = normed_last n c u.front u.last c_wide u.wide (ap (λ x. dot x (homogenised c one_ℚ)) (sym u.same)
      ∙ v.normed) in
      record { front = u.front; wide = u.wide; same = λ i. record { normal = (u.same ∙ ap (λ t. homogenised u.front t) last) i; bound = e.bound } }

  in_lower : (e : Inequality) (v : IsValidAt (suc n) Set (homogenised c one_ℚ) e) (h : IsCompleted e) → IsInLowerImage n Set c (homogenised h.front e.bound)
  in_lower e v h = record {
    front = h.front;
    bound = e.bound;
    wide = h.wide;
    same = refl;
    valid = subst
        (λ (x : Inequality). IsValid (suc n) Set x) h.same v.valid;
  }

  to_facet : IsVertex (IsInLowerImage n Set c) (homogenised w bound) → IsFacet (suc n) Set (homogenised c one_ℚ) (completed c w bound)
  to_facet vertex = record {
    valid = record { valid = big_valid; normed = completed_normed n c w bound c_wide w_wide };
    no_midpoint = λ a b a_valid b_valid e f. (side a b a_valid b_valid e f, other_side a b a_valid b_valid e f);
  }
    where
      big_valid : IsValid (suc n) Set (completed c w bound)
      big_valid =
          let same : (w ≡ vertex.member.front) × (bound ≡ vertex.member.bound) = homogenised-same w vertex.member.front bound vertex.member.bound vertex.member.same in
          subst (λ (x : Inequality). IsValid (suc n) Set x) (ap₂ (λ p q. completed c p q) (sym same.0) (sym same.1)) vertex.member.valid

      ends : (a b : Inequality) (a_valid : IsValidAt (suc n) Set (homogenised c one_ℚ) a) (b_valid : IsValidAt (suc n) Set (homogenised c one_ℚ) b) →
          plus (completed c w bound).normal (completed c w bound).normal ≡ plus a.normal b.normal → bound +ℚ bound ≡ a.bound +ℚ b.bound →
          (homogenised (as_completed a a_valid).front a.bound ≡ homogenised w bound) × (homogenised (as_completed b b_valid).front b.bound ≡ homogenised w bound)
      ends a b a_valid b_valid e f =
          let p : IsCompleted a = as_completed a a_valid in
          let q : IsCompleted b = as_completed b b_valid in
          let fronts : plus w w ≡ plus p.front q.front =
          (homogenised-same (plus w w) (plus p.front q.front) ((one_ℚ +ℚ neg_ℚ (dot c w)) +ℚ (one_ℚ +ℚ neg_ℚ (dot c w)))
          ((one_ℚ +ℚ neg_ℚ (dot c p.front)) +ℚ (one_ℚ +ℚ neg_ℚ (dot c q.front)))
          (sym (plus-homogenised w w (one_ℚ +ℚ neg_ℚ (dot c w)) (one_ℚ +ℚ neg_ℚ (dot c w)) refl) ∙ e
          ∙ ap₂ (λ x y. plus x.normal y.normal) p.same q.same
          ∙ plus-homogenised p.front q.front (one_ℚ +ℚ neg_ℚ (dot c p.front)) (one_ℚ +ℚ neg_ℚ (dot c q.front)) (p.wide ∙ sym q.wide))).0 in
          vertex.no_midpoint (homogenised p.front a.bound) (homogenised q.front b.bound) (in_lower a a_valid p) (in_lower b b_valid q)
          (plus-homogenised w w bound bound refl ∙ ap₂ (λ x y. homogenised x y) fronts f ∙ sym (plus-homogenised p.front q.front a.bound b.bound (p.wide ∙ sym q.wide)))

      back : (a : Inequality) (p : IsCompleted a) → homogenised p.front a.bound ≡ homogenised w bound → a ≡ completed c w bound
      back a p e =
          let same : (p.front ≡ w) × (a.bound ≡ bound) = homogenised-same p.front w a.bound bound e in
          p.same ∙ ap₂ (λ x y. completed c x y) same.0 same.1

      side : (a b : Inequality) → IsValidAt (suc n) Set (homogenised c one_ℚ) a → IsValidAt (suc n) Set (homogenised c one_ℚ) b →
          plus (completed c w bound).normal (completed c w bound).normal ≡ plus a.normal b.normal → bound +ℚ bound ≡ a.bound +ℚ b.bound →
          a ≡ completed c w bound
      side a b a_valid b_valid e f = back a (as_completed a a_valid) (ends a b a_valid b_valid e f).0

      other_side : (a b : Inequality) → IsValidAt (suc n) Set (homogenised c one_ℚ) a → IsValidAt (suc n) Set (homogenised c one_ℚ) b →
          plus (completed c w bound).normal (completed c w bound).normal ≡ plus a.normal b.normal → bound +ℚ bound ≡ a.bound +ℚ b.bound →
          b ≡ completed c w bound
      other_side a b a_valid b_valid e f = back b (as_completed b b_valid) (ends a b a_valid b_valid e f).1

  to_vertex : IsFacet (suc n) Set (homogenised c one_ℚ) (completed c w bound) → IsVertex (IsInLowerImage n Set c) (homogenised w bound)
  to_vertex facet = record {
    member = record { front = w; bound = bound; wide = w_wide; same = refl; valid = facet.valid.valid };
    no_midpoint = λ a b a_in b_in e.
        let parts : (plus w w ≡ plus a_in.front b_in.front) × (bound +ℚ bound ≡ a_in.bound +ℚ b_in.bound) =
        homogenised-same (plus w w) (plus a_in.front b_in.front) (bound +ℚ bound) (a_in.bound +ℚ b_in.bound)
        (sym (plus-homogenised w w bound bound refl) ∙ e ∙ ap₂ (λ x y. plus x y) a_in.same b_in.same
        ∙ plus-homogenised a_in.front b_in.front a_in.bound b_in.bound (a_in.wide ∙ sym b_in.wide)) in
        let both : (completed c a_in.front a_in.bound ≡ completed c w bound) × (completed c b_in.front b_in.bound ≡ completed c w bound) =
        facet.no_midpoint (completed c a_in.front a_in.bound) (completed c b_in.front b_in.bound)
        (record { valid = a_in.valid; normed = completed_normed n c a_in.front a_in.bound c_wide a_in.wide })
        (record { valid = b_in.valid; normed = completed_normed n c b_in.front b_in.bound c_wide b_in.wide })
        (plus-homogenised w w (one_ℚ +ℚ neg_ℚ (dot c w)) (one_ℚ +ℚ neg_ℚ (dot c w)) refl
        ∙ ap₂ (λ x y. homogenised x y) parts.0 (completed_sum n c a_in.front b_in.front w c_wide a_in.wide b_in.wide parts.0)
        ∙ sym (plus-homogenised a_in.front b_in.front (one_ℚ +ℚ neg_ℚ (dot c a_in.front)) (one_ℚ +ℚ neg_ℚ (dot c b_in.front)) (a_in.wide ∙ sym b_in.wide)))
        parts.1 in
        (a_in.same ∙ down a_in.front a_in.bound both.0, b_in.same ∙ down b_in.front b_in.bound both.1);
  }
    where
      down : (u : List ℚ) (t : ℚ) → completed c u t ≡ completed c w bound → homogenised u t ≡ homogenised w bound
      down u t e = ap₂ (λ x y. homogenised x y) (homogenised-same u w (one_ℚ +ℚ neg_ℚ (dot c u)) (one_ℚ +ℚ neg_ℚ (dot c w)) (ap (λ x. x.normal) e)).0
          (ap (λ x. x.bound) e)

pub vertices_are_facets : (Set : List ℚ → Type 0) → VerticesAreFacets Set
vertices_are_facets Set n c w bound h k = (to_facet Set n c w bound h k, to_vertex Set n c w bound h k)
