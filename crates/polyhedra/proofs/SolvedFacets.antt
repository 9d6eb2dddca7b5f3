-- A solved set's named inequalities are exactly its facets.
use Rattle.std.proofs.Common.{◌≡◌, ℕ, suc, List, [], ◌∷◌, map, length, All, Contains, refl, sym, ap, ap₂, ◌∙◌, subst, ◌⊎◌, inl, inr}
use Rattle.std.proofs.lemmas.List.Elements.{All-weaker}
use Rattle.exact_field.specs.Rational.{ℚ, zero_ℚ, one_ℚ, ◌+ℚ◌, ◌*ℚ◌, neg_ℚ, ◌≤ℚ◌, ◌<ℚ◌}
use Rattle.exact_field.specs.Vector.{dot}
use Rattle.exact_field.specs.Ring.{v0, v1, v2, ◌⊕◌, ◌⊗◌, ◌⊝◌, num, ⊖}
use Rattle.exact_field.proofs.RingTool.{ring}
use Rattle.exact_field.proofs.Rationals.{rationals, add_left_cancel_ℚ}
use Rattle.std.proofs.Common.{pos}
use Rattle.polyhedra.specs.Vectors.{zeros, plus, scaled}
use Rattle.polyhedra.specs.Cone.{IsGenerated, IsInCone}
use Rattle.polyhedra.specs.Farkas.{IsSeparated}
use Rattle.polyhedra.specs.TightSets.{IsTight, LiesIn}
use Rattle.polyhedra.specs.Inequality.{Inequality}
use Rattle.polyhedra.specs.Hull.{IsValidAt, IsFacet}
use Rattle.polyhedra.specs.Exactness.{homogenised, level, row_of, rows_of, IsOneOf, TightLiesIn, IsNamed, IsAccounted, IsSolved}
use Rattle.polyhedra.proofs.Laws.{add_zero, mul_comm, mul_one, le_refl, le_trans, le_of_lt, mul_nonneg, zero_lt_one}
use Rattle.polyhedra.proofs.Algebra.{zero_add, mul_zero, one_mul, neg_neg}
use Rattle.polyhedra.proofs.Order.{le_or_lt, add_nonneg, add_zero_left, mul_positive, mul_le, not_zero_of_positive, not_lt_of_le, le_of_difference, difference_nonneg}
use Rattle.polyhedra.proofs.Linear.{dot_comm, plus_comm, dot-plus, dot-scaled, dot-zeros, length-plus, length-scaled, length-zeros, same_wide}
use Rattle.polyhedra.proofs.Lists.{HoldsAt, Contains-here, Contains-there, Contains-cases}
use Rattle.polyhedra.proofs.Members.{all_of_members, member_of, Contains-map, Contains-map_source}
use Rattle.polyhedra.proofs.LeastQuotient.{IsLeastQuotient, least_quotient, less, less_value, less_back, less_width, less_tight, less_holds, less_reached}
use Rattle.polyhedra.proofs.Generated.{generated_value}
use Rattle.polyhedra.proofs.Support.{InSupport, support_listed, support_zero, support_positive}
use Rattle.polyhedra.proofs.Farkas.{farkas, generated_nonneg}
use Rattle.polyhedra.proofs.Homogenised.{length-homogenised, dot-homogenised, plus-homogenised, homogenised-same, IsHomogenised, unhomogenised, level_value, row_value_point}
use Rattle.polyhedra.proofs.Cones.{IsOnRay, one_ray}
use Rattle.polyhedra.proofs.Midpoints.{towards, towards_value, towards_width, towards_same}
use Rattle.polyhedra.proofs.Enclosed.{InK, cut_valid, point_in, valid_at_point, valid_at_direction, generator_at_cut, generator_at_level}

module _ (n : ℕ) (Set Directions : List ℚ → Type 0) (c : List ℚ) (cuts : List Inequality) (gens points directions : List (List ℚ)) (named : List Inequality)
    (s : IsSolved n Set Directions c cuts gens points directions named) where
  -- c as a direction: each row of a normed inequality is 1 at it
  probe : List ℚ
  probe = homogenised c zero_ℚ

  row_width : (e : Inequality) → IsValidAt n Set c e → length (row_of e) ≡ suc n
  row_width e v = length-homogenised n e.normal (neg_ℚ e.bound) v.wide

  row_probe : (e : Inequality) → IsValidAt n Set c e → dot (row_of e) probe ≡ one_ℚ
  unfolding probe
  row_probe e v = dot-homogenised e.normal c (neg_ℚ e.bound) zero_ℚ (v.wide ∙ sym s.c_wide) ∙ ap₂ (λ a b. a +ℚ b) v.normed (mul_zero (neg_ℚ e.bound))
      ∙ add_zero one_ℚ

  level_probe : dot (level n) probe ≡ zero_ℚ
  unfolding probe
  level_probe = level_value n c zero_ℚ s.c_wide

  -- inequalities with one row are one
  row_same : (a b : Inequality) → row_of a ≡ row_of b → a ≡ b
  row_same a b e =
      let p : (a.normal ≡ b.normal) × (neg_ℚ a.bound ≡ neg_ℚ b.bound) = homogenised-same a.normal b.normal (neg_ℚ a.bound) (neg_ℚ b.bound) e in
      let q : a.bound ≡ b.bound = sym (neg_neg a.bound) ∙ ap neg_ℚ p.1 ∙ neg_neg b.bound in
      λ i. record { normal = p.0 i; bound = q i }

  -- at least 0 at each generator
  Nonneg : List ℚ → Type 0
  Nonneg r = All (λ g. zero_ℚ ≤ℚ dot r g) gens

  valid_nonneg : (e : Inequality) → IsValidAt n Set c e → Nonneg (row_of e)
  unfolding Nonneg
  valid_nonneg e v = all_of_members (λ g. zero_ℚ ≤ℚ dot (row_of e) g) gens (λ g k. at g (member_of (IsOneOf points directions) gens g s.each k))
    where
      at : (g : List ℚ) → IsOneOf points directions g → zero_ℚ ≤ℚ dot (row_of e) g
      at g (inl (y, k, m)) = subst (λ (w : List ℚ). zero_ℚ ≤ℚ dot (row_of e) w) (sym m)
          (valid_at_point n Set Directions c cuts gens points directions s.enclosed e y v (member_of Set points y s.points_in k))
      at g (inr (d, k, m)) = subst (λ (w : List ℚ). zero_ℚ ≤ℚ dot (row_of e) w) (sym m)
          (valid_at_direction n Set Directions c cuts gens points directions s.enclosed e d v (member_of Directions directions d s.directions_in k))

  -- a row that is at least 0 at each generator and 1 at c is that of a valid inequality
  valid_from_row : (r : List ℚ) → length r ≡ suc n → Nonneg r → dot r probe ≡ one_ℚ → (e : Inequality) × IsValidAt n Set c e × (row_of e ≡ r)
  unfolding Nonneg probe InK
  valid_from_row r width h one =
      let u : IsHomogenised n r = unhomogenised n r width in
      let e : Inequality = record { normal = u.front; bound = neg_ℚ u.last } in
      let same : row_of e ≡ r = ap (λ t. homogenised u.front t) (neg_neg u.last) ∙ sym u.same in (
        e,
        record {
          valid = record {
            wide = u.wide;
            holds = λ y y_in.
                le_of_difference (neg_ℚ u.last) (dot u.front y) (dot (row_of e) (homogenised y one_ℚ))
                (generated_nonneg (suc n) gens (row_of e) (homogenised y one_ℚ) (subst (λ (v : List ℚ). All (λ g. zero_ℚ ≤ℚ dot v g) gens) (sym same) h)
                (s.described.generates (homogenised y one_ℚ) (point_in n Set Directions c cuts gens points directions s.enclosed y y_in)))
                (ap (λ x. neg_ℚ u.last +ℚ x) (row_value_point e y (u.wide ∙ sym (s.convex.wide y y_in)))
                ∙ ring rationals (neg_ℚ u.last ∷ dot u.front y ∷ []) (v0 ⊕ (v1 ⊝ v0)) v1 refl);
          };
          normed = sym (add_zero (dot u.front c)) ∙ ap (λ x. dot u.front c +ℚ x) (sym (mul_zero (neg_ℚ (neg_ℚ u.last)))) ∙ sym
              (dot-homogenised u.front c (neg_ℚ (neg_ℚ u.last)) zero_ℚ (u.wide ∙ sym s.c_wide)) ∙ ap (λ v. dot v (homogenised c zero_ℚ)) same ∙ one;
        },
        same,
      )

  -- ---- Farkas: a row that is at least 0 at each generator is a combination of the rows
  rows_nonneg : (g : List ℚ) → Contains gens g → All (HoldsAt g) (rows_of n cuts)
  rows_nonneg g k = (member_of (IsInCone (suc n) (rows_of n cuts)) gens g s.described.inside k).within

  from_rows : (r : List ℚ) → length r ≡ suc n → Nonneg r → IsGenerated (suc n) (rows_of n cuts) r
  unfolding Nonneg
  from_rows r width h = go (farkas (suc n) (rows_of n cuts) r s.described.rows_wide width)
    where
      go : IsGenerated (suc n) (rows_of n cuts) r ⊎ IsSeparated (suc n) (rows_of n cuts) r → IsGenerated (suc n) (rows_of n cuts) r
      go (inl g) = g
      go (inr t) = absurd (not_lt_of_le zero_ℚ (dot r t.vector) (generated_nonneg (suc n) gens r t.vector h (s.described.generates t.vector t.in_cone)) t.below)

  -- a row of a support is tight wherever the combination is
  support_tight : (r e : List ℚ) (g : IsGenerated (suc n) (rows_of n cuts) r) → InSupport g.multipliers (rows_of n cuts) e → TightLiesIn gens r e
  support_tight r e g m = all_of_members (λ v. dot r v ≡ zero_ℚ → dot e v ≡ zero_ℚ) gens (λ v k t.
      support_zero g.multipliers (rows_of n cuts) e v g.at_least_zero (rows_nonneg v k) (sym (generated_value (suc n) (rows_of n cuts) r g v)
      ∙ dot_comm v r ∙ t) m)

  tight_through : (a b d : List ℚ) → TightLiesIn gens a b → TightLiesIn gens b d → TightLiesIn gens a d
  tight_through a b d h k = all_of_members (λ v. dot a v ≡ zero_ℚ → dot d v ≡ zero_ℚ) gens
      (λ v m e. member_of (λ w. dot b w ≡ zero_ℚ → dot d w ≡ zero_ℚ) gens v k m (member_of (λ w. dot a w ≡ zero_ℚ → dot b w ≡ zero_ℚ) gens v h m e))

  -- the same with the generators in the place of rows
  as_rows : (a b : List ℚ) → TightLiesIn gens a b → LiesIn gens a b
  as_rows a b h = all_of_members (λ v. IsTight v a → IsTight v b) gens (λ v k e. dot_comm v b
      ∙ member_of (λ w. dot a w ≡ zero_ℚ → dot b w ≡ zero_ℚ) gens v h k (dot_comm a v ∙ e))

  as_values : (a : List ℚ) → Nonneg a → All (HoldsAt a) gens
  unfolding Nonneg
  as_values a h = All-weaker (λ v. zero_ℚ ≤ℚ dot a v) (HoldsAt a) (λ v k. subst (λ (x : ℚ). zero_ℚ ≤ℚ x) (dot_comm a v) k) gens h

  from_values : (a : List ℚ) → All (HoldsAt a) gens → Nonneg a
  unfolding Nonneg
  from_values a h = All-weaker (HoldsAt a) (λ v. zero_ℚ ≤ℚ dot a v) (λ v k. subst (λ (x : ℚ). zero_ℚ ≤ℚ x) (dot_comm v a) k) gens h

  -- the quotient of two rows over the generators
  row_quotient : (a b : List ℚ) → Nonneg a → Nonneg b → TightLiesIn gens a b → ((g : List ℚ) × Contains gens g × (zero_ℚ <ℚ dot b g)) → IsLeastQuotient gens a b
  row_quotient a b h k l p = least_quotient a b gens (as_values a h) (as_values b k) (as_rows a b l)
      (record { row = p.0; listed = p.1; positive = subst (λ (x : ℚ). zero_ℚ <ℚ x) (dot_comm b p.0) p.2 })

  row_nonneg : (r : List ℚ) → Contains (rows_of n cuts) r → Nonneg r
  unfolding Nonneg
  row_nonneg r k = all_of_members (λ g. zero_ℚ ≤ℚ dot r g) gens (λ g m. member_of (HoldsAt g) (rows_of n cuts) r (rows_nonneg g m) k)

  -- what a row of the list is
  which_row : (r : List ℚ) → Contains (rows_of n cuts) r → (level n ≡ r) ⊎ ((e : Inequality) × Contains cuts e × (row_of e ≡ r))
  which_row r k = go (Contains-cases (level n) (map row_of cuts) r k)
    where
      go : (level n ≡ r) ⊎ Contains (map row_of cuts) r → (level n ≡ r) ⊎ ((e : Inequality) × Contains cuts e × (row_of e ≡ r))
      go (inl e) = inl e
      go (inr m) = inr (Contains-map_source row_of cuts r m)

  cut_row_listed : (e : Inequality) → Contains cuts e → Contains (rows_of n cuts) (row_of e)
  cut_row_listed e k = Contains-there (level n) (map row_of cuts) (row_of e) (Contains-map row_of cuts e k)

  cut_is_valid : (e : Inequality) → Contains cuts e → IsValidAt n Set c e
  cut_is_valid e k = cut_valid n Set Directions c cuts gens points directions s.enclosed e k

  -- ---- a named inequality is a facet
  module _ (f : Inequality) (name : IsNamed n cuts gens f) where
    face : List ℚ
    face = row_of f

    f_valid : IsValidAt n Set c f
    f_valid = cut_is_valid f name.cut

    -- a row whose tight generators take in the face's has no other ones, and is not the level
    not_level : (r : List ℚ) → TightLiesIn gens face r → level n ≡ r → ⊥
    unfolding face
    not_level r h e = name.touches (subst (λ (v : List ℚ). TightLiesIn gens (row_of f) v) (sym e) h)

    largest : (r : List ℚ) → Contains (rows_of n cuts) r → TightLiesIn gens face r → TightLiesIn gens r face
    unfolding face
    largest r k h = member_of (λ v. TightLiesIn gens (row_of f) v → TightLiesIn gens v (row_of f)) (rows_of n cuts) r name.largest k h

    -- a cut with the face's tight generators is the face
    module _ (e : Inequality) (e_cut : Contains cuts e) (lies : TightLiesIn gens face (row_of e)) where
      q : IsLeastQuotient gens face (row_of e)
      unfolding face
      q = row_quotient face (row_of e) (valid_nonneg f f_valid) (valid_nonneg e (cut_is_valid e e_cut)) lies
          (generator_at_cut n Set Directions c cuts gens points directions s.enclosed e e_cut)

      rest : List ℚ
      rest = less face q.quotient (row_of e)

      rest_width : length rest ≡ suc n
      unfolding rest face
      rest_width = less_width (suc n) face (row_of e) q.quotient (row_width f f_valid) (row_width e (cut_is_valid e e_cut))

      rest_is : IsGenerated (suc n) (rows_of n cuts) rest
      unfolding rest
      rest_is = from_rows rest rest_width (from_values rest (less_holds face (row_of e) q.quotient gens q.bound))

      -- no row is in its support: it would be tight at one generator more than the face
      no_support : (r : List ℚ) → InSupport rest_is.multipliers (rows_of n cuts) r → ⊥
      unfolding rest
      no_support r m =
          let rest_lies : TightLiesIn gens rest r = support_tight rest r rest_is m in
          let face_lies : TightLiesIn gens face r = all_of_members (λ v. dot face v ≡ zero_ℚ → dot r v ≡ zero_ℚ) gens (λ v k t.
          member_of (λ w. dot rest w ≡ zero_ℚ → dot r w ≡ zero_ℚ) gens v rest_lies k
          (dot_comm rest v ∙ less_tight face (row_of e) v q.quotient (dot_comm v face ∙ t) (dot_comm v (row_of e)
          ∙ member_of (λ w. dot face w ≡ zero_ℚ → dot (row_of e) w ≡ zero_ℚ) gens v lies k t))) in
          let back : TightLiesIn gens r face = largest r (support_listed rest_is.multipliers (rows_of n cuts) r m) face_lies in
          let at_r : dot r q.row ≡ zero_ℚ = member_of (λ w. dot rest w ≡ zero_ℚ → dot r w ≡ zero_ℚ) gens q.row rest_lies q.listed (dot_comm rest q.row
          ∙ less_reached face (row_of e) q.row q.quotient q.reached) in
          let at_face : dot face q.row ≡ zero_ℚ = member_of (λ w. dot r w ≡ zero_ℚ → dot face w ≡ zero_ℚ) gens q.row back q.listed at_r in
          not_zero_of_positive (dot q.row (row_of e)) q.positive (dot_comm q.row (row_of e)
          ∙ member_of (λ w. dot face w ≡ zero_ℚ → dot (row_of e) w ≡ zero_ℚ) gens q.row lies q.listed at_face)

      rest_zero : (r : List ℚ) → dot r rest ≡ zero_ℚ
      unfolding rest
      rest_zero r =
          let ray : IsOnRay (zeros (suc n)) rest = one_ray (suc n) (rows_of n cuts) rest (zeros (suc n)) s.described.rows_wide
          (length-zeros (suc n)) rest_is (λ v m. absurd (no_support v m)) in
          ap (λ v. dot r v) ray.same ∙ dot-scaled r ray.factor (zeros (suc n)) ∙ ap (λ x. ray.factor *ℚ x) (dot-zeros r (suc n)) ∙ mul_zero ray.factor

      face_value : (r : List ℚ) → dot r face ≡ q.quotient *ℚ dot r (row_of e)
      unfolding rest
      face_value r = less_back face (row_of e) r q.quotient ∙ ap (λ x. x +ℚ q.quotient *ℚ dot r (row_of e)) (rest_zero r) ∙ zero_add
          (q.quotient *ℚ dot r (row_of e))

      quotient_one : q.quotient ≡ one_ℚ
      unfolding face
      quotient_one = sym (mul_one q.quotient) ∙ ap (λ x. q.quotient *ℚ x) (sym (row_probe e (cut_is_valid e e_cut)) ∙ dot_comm (row_of e) probe)
          ∙ sym (face_value probe) ∙ dot_comm probe (row_of f) ∙ row_probe f f_valid

      same_face : row_of e ≡ face
      unfolding face
      same_face = same_wide (suc n) (row_of e) face (row_width e (cut_is_valid e e_cut)) (row_width f f_valid) (λ r.
          sym (one_mul (dot r (row_of e))) ∙ ap (λ x. x *ℚ dot r (row_of e)) (sym quotient_one) ∙ sym (face_value r))

    -- each row whose tight generators take in the face's is the face
    only_face : (r : List ℚ) → Contains (rows_of n cuts) r → TightLiesIn gens face r → r ≡ face
    only_face r k h = go (which_row r k)
      where
        go : (level n ≡ r) ⊎ ((e : Inequality) × Contains cuts e × (row_of e ≡ r)) → r ≡ face
        go (inl e) = absurd (not_level r h e)
        go (inr (e, m, t)) = sym t ∙ same_face e m (subst (λ (v : List ℚ). TightLiesIn gens face v) (sym t) h)

    -- one of two valid inequalities whose midpoint it is
    side : (a b : Inequality) → IsValidAt n Set c a → IsValidAt n Set c b → plus face face ≡ plus (row_of a) (row_of b) → a ≡ f
    unfolding face
    side a b a_valid b_valid e =
        let a_nonneg : All (λ g. zero_ℚ ≤ℚ dot (row_of a) g) gens = nonneg_of a a_valid in
        let b_nonneg : All (λ g. zero_ℚ ≤ℚ dot (row_of b) g) gens = nonneg_of b b_valid in
        let lies : TightLiesIn gens face (row_of a) = all_of_members (λ v. dot face v ≡ zero_ℚ → dot (row_of a) v ≡ zero_ℚ) gens (λ v k t.
        add_zero_left (dot (row_of a) v) (dot (row_of b) v) (member_of (λ w. zero_ℚ ≤ℚ dot (row_of a) w) gens v a_nonneg k)
        (member_of (λ w. zero_ℚ ≤ℚ dot (row_of b) w) gens v b_nonneg k)
        (ap₂ (λ x y. x +ℚ y) (dot_comm (row_of a) v) (dot_comm (row_of b) v) ∙ sym (dot-plus v (row_of a) (row_of b)) ∙ ap (λ w. dot v w) (sym e)
        ∙ dot-plus v face face ∙ ap₂ (λ x y. x +ℚ y) (dot_comm v face ∙ t) (dot_comm v face ∙ t) ∙ add_zero zero_ℚ)) in
        let g : IsGenerated (suc n) (rows_of n cuts) (row_of a) = from_rows (row_of a) (row_width a a_valid) (valid_nonneg a a_valid) in
        let ray : IsOnRay face (row_of a) = one_ray (suc n) (rows_of n cuts) (row_of a) face s.described.rows_wide (row_width f f_valid) g
        (λ v m. only_face v (support_listed g.multipliers (rows_of n cuts) v m) (tight_through face (row_of a) v lies (support_tight (row_of a) v g m))) in
        let one : ray.factor ≡ one_ℚ =
        sym (mul_one ray.factor) ∙ ap (λ x. ray.factor *ℚ x) (sym (row_probe f f_valid) ∙ dot_comm (row_of f) probe) ∙ sym
        (dot-scaled probe ray.factor face) ∙ ap (λ v. dot probe v) (sym ray.same) ∙ dot_comm probe (row_of a) ∙ row_probe a a_valid in
        row_same a f (same_wide (suc n) (row_of a) face (row_width a a_valid) (row_width f f_valid) (λ r.
        ap (λ v. dot r v) ray.same ∙ dot-scaled r ray.factor face ∙ ap (λ x. x *ℚ dot r face) one ∙ one_mul (dot r face)))
      where
        nonneg_of : (x : Inequality) → IsValidAt n Set c x → All (λ g. zero_ℚ ≤ℚ dot (row_of x) g) gens
        nonneg_of x v = all_of_members (λ g. zero_ℚ ≤ℚ dot (row_of x) g) gens (λ g k.
            subst (λ (y : ℚ). zero_ℚ ≤ℚ y) (dot_comm g (row_of x)) (member_of (HoldsAt (row_of x)) gens g (as_values (row_of x) (valid_nonneg x v)) k))

    named_is_facet_of : IsFacet n Set c f
    unfolding face
    named_is_facet_of = record {
      valid = f_valid;
      no_midpoint = λ a b a_valid b_valid e h.
          let sums : plus (row_of f) (row_of f) ≡ plus (row_of a) (row_of b) =
          plus-homogenised f.normal f.normal (neg_ℚ f.bound) (neg_ℚ f.bound) refl
          ∙ ap₂ (λ v t. homogenised v t) e (ring rationals (f.bound ∷ []) (⊖ v0 ⊕ ⊖ v0) (⊖ (v0 ⊕ v0)) refl ∙ ap neg_ℚ h ∙ ring rationals
          (a.bound ∷ b.bound ∷ []) (⊖ (v0 ⊕ v1)) (⊖ v0 ⊕ ⊖ v1) refl)
          ∙ sym (plus-homogenised a.normal b.normal (neg_ℚ a.bound) (neg_ℚ b.bound) (a_valid.wide ∙ sym b_valid.wide)) in
          (side a b a_valid b_valid sums, side b a b_valid a_valid (sums ∙ plus_comm (row_of a) (row_of b)));
    }

  pub named_is_facet : (f : Inequality) → Contains named f → IsFacet n Set c f
  named_is_facet f k = named_is_facet_of f (member_of (IsNamed n cuts gens) named f s.names k)

  -- ---- a facet is named
  module _ (f : Inequality) (facet : IsFacet n Set c f) where
    big : List ℚ
    big = row_of f

    big_width : length big ≡ suc n
    unfolding big
    big_width = row_width f facet.valid

    big_nonneg : Nonneg big
    unfolding big
    big_nonneg = valid_nonneg f facet.valid

    big_probe : dot probe big ≡ one_ℚ
    unfolding big
    big_probe = dot_comm probe (row_of f) ∙ row_probe f facet.valid

    -- two rows whose midpoint the facet is: the first is the facet
    midpoint_same : (a b : List ℚ) → length a ≡ suc n → length b ≡ suc n → Nonneg a → Nonneg b → dot probe a ≡ one_ℚ → plus big big ≡ plus a b → a ≡ big
    unfolding big
    midpoint_same a b a_width b_width a_nonneg b_nonneg one e =
        let b_one : dot probe b ≡ one_ℚ =
        add_left_cancel_ℚ (dot probe a) (dot probe b) one_ℚ (sym (dot-plus probe a b) ∙ ap (λ v. dot probe v) (sym e) ∙ dot-plus probe big big
        ∙ ap₂ (λ x y. x +ℚ y) (big_probe ∙ sym one) big_probe) in
        let u : (x : Inequality) × IsValidAt n Set c x × (row_of x ≡ a) = valid_from_row a a_width a_nonneg (dot_comm a probe ∙ one) in
        let v : (x : Inequality) × IsValidAt n Set c x × (row_of x ≡ b) = valid_from_row b b_width b_nonneg (dot_comm b probe ∙ b_one) in
        let homogenised_sums : homogenised (plus f.normal f.normal) (neg_ℚ f.bound +ℚ neg_ℚ f.bound) ≡ homogenised (plus u.0.normal v.0.normal)
        (neg_ℚ u.0.bound +ℚ neg_ℚ v.0.bound) =
        sym (plus-homogenised f.normal f.normal (neg_ℚ f.bound) (neg_ℚ f.bound) refl) ∙ e ∙ ap₂ (λ x y. plus x y) (sym u.2) (sym v.2)
        ∙ plus-homogenised u.0.normal v.0.normal (neg_ℚ u.0.bound) (neg_ℚ v.0.bound) (u.1.wide ∙ sym v.1.wide) in
        let parts : (plus f.normal f.normal ≡ plus u.0.normal v.0.normal) × (neg_ℚ f.bound +ℚ neg_ℚ f.bound ≡ neg_ℚ u.0.bound +ℚ neg_ℚ v.0.bound) =
        homogenised-same (plus f.normal f.normal) (plus u.0.normal v.0.normal) (neg_ℚ f.bound +ℚ neg_ℚ f.bound) (neg_ℚ u.0.bound +ℚ neg_ℚ v.0.bound) homogenised_sums in
        let bounds : f.bound +ℚ f.bound ≡ u.0.bound +ℚ v.0.bound =
        ring rationals (f.bound ∷ []) (v0 ⊕ v0) (⊖ (⊖ v0 ⊕ ⊖ v0)) refl ∙ ap neg_ℚ parts.1 ∙ ring rationals (u.0.bound ∷ v.0.bound ∷ [])
        (⊖ (⊖ v0 ⊕ ⊖ v1)) (v0 ⊕ v1) refl in
        sym u.2 ∙ ap row_of (facet.no_midpoint u.0 v.0 u.1 v.1 parts.0 bounds).0

    -- a facet touches at a point
    not_at_level : TightLiesIn gens big (level n) → ⊥
    unfolding big Nonneg
    not_at_level lies =
        let up : (g : List ℚ) × Contains gens g × (zero_ℚ <ℚ dot (level n) g) = generator_at_level n Set Directions c cuts gens points directions s.enclosed in
        let q : IsLeastQuotient gens big (level n) = row_quotient big (level n) big_nonneg
        (row_nonneg (level n) (Contains-here (level n) (map row_of cuts) (level n) refl)) lies up in
        let level_width : length (level n) ≡ suc n = length-homogenised n (zeros n) one_ℚ (length-zeros n) in
        let low : List ℚ = less big q.quotient (level n) in
        let high : List ℚ = plus big (scaled q.quotient (level n)) in
        let low_width : length low ≡ suc n = less_width (suc n) big (level n) q.quotient big_width level_width in
        let high_width : length high ≡ suc n = length-plus (suc n) big (scaled q.quotient (level n)) big_width (length-scaled q.quotient (level n)
        ∙ level_width) in
        let low_nonneg : Nonneg low = from_values low (less_holds big (level n) q.quotient gens q.bound) in
        let high_nonneg : Nonneg high = from_values high (all_of_members (HoldsAt high) gens (λ v m.
        subst (λ (x : ℚ). zero_ℚ ≤ℚ x) (sym (dot-plus v big (scaled q.quotient (level n)) ∙ ap (λ x. dot v big +ℚ x) (dot-scaled v q.quotient (level n))))
        (add_nonneg (dot v big) (q.quotient *ℚ dot v (level n)) (member_of (HoldsAt big) gens v (as_values big big_nonneg) m)
        (mul_nonneg q.quotient (dot v (level n)) (le_of_lt zero_ℚ q.quotient q.above_zero)
        (member_of (HoldsAt (level n)) gens v (as_values (level n)
        (row_nonneg (level n) (Contains-here (level n) (map row_of cuts) (level n) refl))) m))))) in
        let low_probe : dot probe low ≡ one_ℚ =
        less_value big (level n) probe q.quotient ∙ ap₂ (λ x y. x +ℚ neg_ℚ (q.quotient *ℚ y)) big_probe (dot_comm probe (level n) ∙ level_probe)
        ∙ ring rationals (q.quotient ∷ []) (num (pos 1) ⊝ v0 ⊗ num (pos 0)) (num (pos 1)) refl in
        let sums : plus big big ≡ plus low high =
        same_wide (suc n) (plus big big) (plus low high) (length-plus (suc n) big big big_width big_width) (length-plus (suc n) low high low_width high_width)
        (λ r. dot-plus r big big
        ∙ ring rationals (dot r big ∷ q.quotient ∷ dot r (level n) ∷ []) (v0 ⊕ v0) ((v0 ⊝ v1 ⊗ v2) ⊕ (v0 ⊕ v1 ⊗ v2)) refl
        ∙ sym (dot-plus r low high ∙ ap₂ (λ x y. x +ℚ y) (less_value big (level n) r q.quotient) (dot-plus r big (scaled q.quotient (level n))
        ∙ ap (λ x. dot r big +ℚ x) (dot-scaled r q.quotient (level n))))) in
        let stays : low ≡ big = midpoint_same low high low_width high_width low_nonneg high_nonneg low_probe sums in
        let reached : dot q.row low ≡ zero_ℚ = less_reached big (level n) q.row q.quotient q.reached in
        not_zero_of_positive (q.quotient *ℚ dot q.row (level n)) (mul_positive q.quotient (dot q.row (level n)) q.above_zero q.positive) (q.reached
        ∙ ap (λ v. dot q.row v) (sym stays) ∙ reached)

    -- a cut whose tight generators take in the facet's is the facet
    within_same : (h : Inequality) → Contains cuts h → TightLiesIn gens big (row_of h) → h ≡ f
    unfolding big Nonneg
    within_same h k lies = by (le_or_lt q.quotient one_ℚ)
      where
        g : List ℚ
        g = row_of h

        h_valid : IsValidAt n Set c h
        h_valid = cut_is_valid h k

        g_width : length g ≡ suc n
        g_width = row_width h h_valid

        g_values : All (HoldsAt g) gens
        g_values = as_values g (valid_nonneg h h_valid)

        big_values : All (HoldsAt big) gens
        big_values = as_values big big_nonneg

        q : IsLeastQuotient gens big g
        q = row_quotient big g big_nonneg (valid_nonneg h h_valid) lies (generator_at_cut n Set Directions c cuts gens points directions s.enclosed h k)

        -- for a share of at most 1 and at most the quotient
        with_share : (l : ℚ) → zero_ℚ <ℚ l → l ≤ℚ one_ℚ → l ≤ℚ q.quotient → h ≡ f
        with_share l p small below =
            let near : List ℚ = towards l big g in
            let far : List ℚ = less (plus big (scaled l big)) l g in
            let twice_width : length (plus big (scaled l big)) ≡ suc n = length-plus (suc n) big (scaled l big) big_width (length-scaled l big ∙ big_width) in
            let near_width : length near ≡ suc n = towards_width (suc n) l big g big_width g_width in
            let far_width : length far ≡ suc n = less_width (suc n) (plus big (scaled l big)) g l twice_width g_width in
            let twice_value : (r : List ℚ) → dot r (plus big (scaled l big)) ≡ dot r big +ℚ l *ℚ dot r big = λ r. dot-plus r big (scaled l big) ∙ ap
            (λ x. dot r big +ℚ x) (dot-scaled r l big) in
            let near_nonneg : Nonneg near = from_values near (all_of_members (HoldsAt near) gens (λ v m.
            subst (λ (x : ℚ). zero_ℚ ≤ℚ x) (sym (towards_value l big g v))
            (add_nonneg ((one_ℚ +ℚ neg_ℚ l) *ℚ dot v big) (l *ℚ dot v g)
            (mul_nonneg (one_ℚ +ℚ neg_ℚ l) (dot v big) (difference_nonneg l one_ℚ small) (member_of (HoldsAt big) gens v big_values m))
            (mul_nonneg l (dot v g) (le_of_lt zero_ℚ l p) (member_of (HoldsAt g) gens v g_values m))))) in
            let far_nonneg : Nonneg far = from_values far (less_holds (plus big (scaled l big)) g l gens
            (all_of_members (λ v. l *ℚ dot v g ≤ℚ dot v (plus big (scaled l big))) gens (λ v m.
            le_trans (l *ℚ dot v g) (dot v big) (dot v (plus big (scaled l big)))
            (le_trans (l *ℚ dot v g) (q.quotient *ℚ dot v g) (dot v big)
            (subst (λ (x : ℚ). x ≤ℚ q.quotient *ℚ dot v g) (mul_comm (dot v g) l)
            (subst (λ (x : ℚ). dot v g *ℚ l ≤ℚ x) (mul_comm (dot v g) q.quotient)
            (mul_le (dot v g) l q.quotient (member_of (HoldsAt g) gens v g_values m) below)))
            (member_of (λ w. q.quotient *ℚ dot w g ≤ℚ dot w big) gens v q.bound m))
            (le_of_difference (dot v big) (dot v (plus big (scaled l big))) (l *ℚ dot v big)
            (mul_nonneg l (dot v big) (le_of_lt zero_ℚ l p) (member_of (HoldsAt big) gens v big_values m)) (sym (twice_value v)))))) in
            let near_probe : dot probe near ≡ one_ℚ =
            towards_value l big g probe ∙ ap₂ (λ x y. (one_ℚ +ℚ neg_ℚ l) *ℚ x +ℚ l *ℚ y) big_probe (dot_comm probe g ∙ row_probe h h_valid)
            ∙ ring rationals (l ∷ []) ((num (pos 1) ⊝ v0) ⊗ num (pos 1) ⊕ v0 ⊗ num (pos 1)) (num (pos 1)) refl in
            let sums : plus big big ≡ plus near far =
            same_wide (suc n) (plus big big) (plus near far) (length-plus (suc n) big big big_width big_width)
            (length-plus (suc n) near far near_width far_width)
            (λ r. dot-plus r big big
            ∙ ring rationals (dot r big ∷ l ∷ dot r g ∷ []) (v0 ⊕ v0) (((num (pos 1) ⊝ v1) ⊗ v0 ⊕ v1 ⊗ v2) ⊕ ((v0 ⊕ v1 ⊗ v0) ⊝ v1 ⊗ v2)) refl
            ∙ sym (dot-plus r near far ∙ ap₂ (λ x y. x +ℚ y) (towards_value l big g r) (less_value (plus big (scaled l big)) g r l
            ∙ ap (λ x. x +ℚ neg_ℚ (l *ℚ dot r g)) (twice_value r)))) in
            row_same h f (towards_same (suc n) l big g p big_width g_width (midpoint_same near far near_width far_width near_nonneg far_nonneg near_probe sums))

        by : (q.quotient ≤ℚ one_ℚ) ⊎ (one_ℚ <ℚ q.quotient) → h ≡ f
        by (inl m) = with_share q.quotient q.above_zero m (le_refl q.quotient)
        by (inr m) = with_share one_ℚ zero_lt_one (le_refl one_ℚ) (le_of_lt one_ℚ q.quotient m)

    -- the facet is a cut: one in its support is tight wherever it is
    is_cut : Contains cuts f
    unfolding big
    is_cut = start (from_rows big big_width big_nonneg)
      where
        start : IsGenerated (suc n) (rows_of n cuts) big → Contains cuts f
        start g = first (support_positive g.multipliers (rows_of n cuts) probe g.at_least_zero
            (subst (λ (x : ℚ). zero_ℚ <ℚ x) (sym big_probe ∙ generated_value (suc n) (rows_of n cuts) big g probe) zero_lt_one))
          where
            by_row : (r : List ℚ) → InSupport g.multipliers (rows_of n cuts) r → zero_ℚ <ℚ dot r probe → (level n ≡ r) ⊎
                ((e : Inequality) × Contains cuts e × (row_of e ≡ r)) → Contains cuts f
            by_row r m p (inl e) = absurd (not_zero_of_positive (dot r probe) p (ap (λ v. dot v probe) (sym e) ∙ level_probe))
            by_row r m p (inr (e, k, t)) =
                subst (λ (x : Inequality). Contains cuts x)
                (within_same e k (support_tight big (row_of e) g (subst (λ (v : List ℚ). InSupport g.multipliers (rows_of n cuts) v) (sym t) m))) k

            first : ((v : List ℚ) × InSupport g.multipliers (rows_of n cuts) v × (zero_ℚ <ℚ dot v probe)) → Contains cuts f
            first (v, m, p) = by_row v m p (which_row v (support_listed g.multipliers (rows_of n cuts) v m))

    pub facet_is_named_of : Contains named f
    unfolding big
    facet_is_named_of = go (member_of (IsAccounted n named gens) cuts f s.accounted is_cut).within
      where
        go : TightLiesIn gens (row_of f) (level n) ⊎ ((h : Inequality) × Contains named h × TightLiesIn gens (row_of f) (row_of h)) → Contains named f
        go (inl lies) = absurd (not_at_level lies)
        go (inr (h, k, lies)) = subst (λ (x : Inequality). Contains named x) (within_same h (member_of (IsNamed n cuts gens) named h s.names k).cut lies) k

  pub facet_is_named : (f : Inequality) → IsFacet n Set c f → Contains named f
  facet_is_named f facet = facet_is_named_of f facet
