-- The points of an enclosed set are exactly its vertices.
use Rattle.std.proofs.Common.{◌≡◌, ℕ, suc, List, map, length, Contains, refl, sym, ap, ap₂, ◌∙◌, subst}
use Rattle.exact_field.specs.Rational.{ℚ, zero_ℚ, one_ℚ, ◌+ℚ◌, ◌*ℚ◌, neg_ℚ, ◌≤ℚ◌, ◌<ℚ◌}
use Rattle.exact_field.specs.Vector.{dot}
use Rattle.polyhedra.specs.Vectors.{plus, scaled}
use Rattle.polyhedra.specs.Cone.{IsGenerated, IsInCone}
use Rattle.polyhedra.specs.TightSets.{IsTight, LiesIn}
use Rattle.polyhedra.specs.Inequality.{Inequality}
use Rattle.polyhedra.specs.Hull.{IsVertex, IsMultiple}
use Rattle.polyhedra.specs.Exactness.{homogenised, level, row_of, rows_of, IsEnclosed}
use Rattle.polyhedra.proofs.Laws.{add_comm, add_zero, mul_comm, mul_assoc, mul_one, le_refl, le_of_lt, mul_nonneg, le_antisymm, zero_lt_one}
use Rattle.polyhedra.proofs.Order.{add_nonneg, add_zero_left, mul_positive, le_of_difference, difference_nonneg}
use Rattle.polyhedra.proofs.Linear.{scaled-one, dot_comm, plus_comm, dot-plus, dot-scaled}
use Rattle.polyhedra.proofs.Lists.{HoldsAt, HasWidth, Contains-here}
use Rattle.polyhedra.proofs.Members.{all_of_members, member_of}
use Rattle.polyhedra.proofs.Generated.{generated_value, generated_plus, generated_scaled, generated_generator}
use Rattle.polyhedra.proofs.Support.{InSupport, support_listed, support_positive}
use Rattle.polyhedra.proofs.Homogenised.{length-homogenised, plus-homogenised, scaled-homogenised, homogenised-same, IsHomogenised, unhomogenised, level_value}
use Rattle.polyhedra.proofs.Cones.{IsSplit, split_support, IsOnRay, ray_of, generated_in}
use Rattle.polyhedra.proofs.Midpoints.{towards, away, towards_value, two_sides, towards_same}
use Rattle.polyhedra.proofs.Enclosed.{InK, points_wide, point_in, point_of, point_back}

module _ (n : ℕ) (Set Directions : List ℚ → Type 0) (c : List ℚ) (cuts : List Inequality) (gens points directions : List (List ℚ))
    (s : IsEnclosed n Set Directions c cuts gens points directions) where
  -- where two members of the cone sum to a multiple of g, each is tight wherever g is
  summands_lie : (g a b : List ℚ) → InK n Set Directions c cuts gens points directions s a →
      InK n Set Directions c cuts gens points directions s b →
      ((r : List ℚ) → IsTight r g → dot r (plus a b) ≡ zero_ℚ) → LiesIn (rows_of n cuts) g a
  unfolding InK
  summands_lie g a b h k e = all_of_members (λ r. IsTight r g → IsTight r a) (rows_of n cuts) (λ r m t.
      add_zero_left (dot r a) (dot r b) (member_of (HoldsAt a) (rows_of n cuts) r h.within m) (member_of (HoldsAt b) (rows_of n cuts) r k.within m)
      (sym (dot-plus r a b) ∙ e r t))

  on_ray : (y a : List ℚ) (t u : ℚ) → IsOnRay (homogenised y t) (homogenised a u) → IsMultiple y a × ((q : ℚ) × (a ≡ scaled q y) × (u ≡ q *ℚ t))
  on_ray y a t u h =
      let e : (a ≡ scaled h.factor y) × (u ≡ h.factor *ℚ t) = homogenised-same a (scaled h.factor y) u (h.factor *ℚ t) (h.same ∙ scaled-homogenised h.factor y t) in
      (record { factor = h.factor; same = e.0 }, (h.factor, e.0, e.1))

  -- ---- a listed point is a vertex
  vertex_side : (y a b : List ℚ) → Contains points y → Set a → Set b → plus y y ≡ plus a b → a ≡ y
  unfolding InK
  vertex_side y a b listed a_in b_in e =
      let y_width : length y ≡ n = member_of (HasWidth n) points y (points_wide n Set Directions c cuts gens points directions s).wide listed in
      let a_width : length a ≡ n = s.convex.wide a a_in in
      let b_width : length b ≡ n = s.convex.wide b b_in in
      let sums : plus (homogenised a one_ℚ) (homogenised b one_ℚ) ≡ plus (homogenised y one_ℚ) (homogenised y one_ℚ) =
      plus-homogenised a b one_ℚ one_ℚ (a_width ∙ sym b_width) ∙ ap (λ v. homogenised v (one_ℚ +ℚ one_ℚ)) (sym e) ∙ sym (plus-homogenised y y one_ℚ one_ℚ refl) in
      let a_in_cone : IsInCone (suc n) (rows_of n cuts) (homogenised a one_ℚ) = point_in n Set Directions c cuts gens points directions s a a_in in
      let b_in_cone : IsInCone (suc n) (rows_of n cuts) (homogenised b one_ℚ) = point_in n Set Directions c cuts gens points directions s b b_in in
      let ray : IsOnRay (homogenised y one_ℚ) (homogenised a one_ℚ) =
      ray_of (suc n) (rows_of n cuts) gens s.described (homogenised y one_ℚ) (homogenised a one_ℚ)
      (member_of (λ v. Contains gens (homogenised v one_ℚ)) points y s.point_listed listed) a_in_cone
      (summands_lie (homogenised y one_ℚ) (homogenised a one_ℚ) (homogenised b one_ℚ) a_in_cone b_in_cone
      (λ r t. ap (λ v. dot r v) sums ∙ dot-plus r (homogenised y one_ℚ) (homogenised y one_ℚ) ∙ ap₂ (λ p q. p +ℚ q) t t ∙ add_zero zero_ℚ)) in
      let q : (x : ℚ) × (a ≡ scaled x y) × (one_ℚ ≡ x *ℚ one_ℚ) = (on_ray y a one_ℚ one_ℚ ray).1 in
      q.1 ∙ ap (λ x. scaled x y) (sym (q.2 ∙ mul_one q.0)) ∙ scaled-one y

  pub listed_is_vertex : (y : List ℚ) → Contains points y → IsVertex Set y
  listed_is_vertex y listed = record {
    member = member_of Set points y s.points_in listed;
    no_midpoint = λ a b a_in b_in e. (vertex_side y a b listed a_in b_in e, vertex_side y b a listed b_in a_in (e ∙ plus_comm a b));
  }

  -- ---- a vertex is listed
  -- a vector of height 1 in the cone is a member's
  at_height_one : (z : List ℚ) → InK n Set Directions c cuts gens points directions s z → dot (level n) z ≡ one_ℚ → (a : List ℚ) × Set a ×
      (z ≡ homogenised a one_ℚ)
  unfolding InK
  at_height_one z h e =
      let u : IsHomogenised n z = unhomogenised n z h.wide in
      let height : u.last ≡ one_ℚ = sym (level_value n u.front u.last u.wide) ∙ ap (λ v. dot (level n) v) (sym u.same) ∙ e in
      let same : z ≡ homogenised u.front one_ℚ = u.same ∙ ap (λ t. homogenised u.front t) height in (
        u.front,
        point_back n Set Directions c cuts gens points directions s u.front u.wide
            (subst (λ (v : List ℚ). IsInCone (suc n) (rows_of n cuts) v) same h),
        same,
      )

  pub vertex_is_listed : (y : List ℚ) → IsVertex Set y → Contains points y
  unfolding InK
  vertex_is_listed y vertex = start (s.described.generates big big_in)
    where
      big : List ℚ
      big = homogenised y one_ℚ

      width : length y ≡ n
      width = s.convex.wide y vertex.member

      big_in : IsInCone (suc n) (rows_of n cuts) big
      big_in = point_in n Set Directions c cuts gens points directions s y vertex.member

      height : dot (level n) big ≡ one_ℚ
      height = level_value n y one_ℚ width

      with_split : (p : List ℚ) → Contains points p → IsSplit (suc n) gens big (homogenised p one_ℚ) → Contains points y
      with_split p listed t =
          let g : List ℚ = homogenised p one_ℚ in
          let p_width : length p ≡ n = member_of (HasWidth n) points p (points_wide n Set Directions c cuts gens points directions s).wide listed in
          let g_width : length g ≡ suc n = length-homogenised n p one_ℚ p_width in
          let big_width : length big ≡ suc n = length-homogenised n y one_ℚ width in
          let g_listed : Contains gens g = member_of (λ v. Contains gens (homogenised v one_ℚ)) points p s.point_listed listed in
          let others_in : IsInCone (suc n) (rows_of n cuts) t.others = generated_in (suc n) (rows_of n cuts) gens s.described t.others t.others_is in
          let level_others : zero_ℚ ≤ℚ dot (level n) t.others = member_of (HoldsAt t.others) (rows_of n cuts) (level n) others_in.within
          (Contains-here (level n) (map row_of cuts) (level n) refl) in
          let whole : t.factor +ℚ dot (level n) t.others ≡ one_ℚ =
          ap (λ x. x +ℚ dot (level n) t.others) (sym (mul_one t.factor) ∙ ap (λ x. t.factor *ℚ x) (sym (level_value n p one_ℚ p_width)) ∙ sym
          (dot-scaled (level n) t.factor g))
          ∙ sym (dot-plus (level n) (scaled t.factor g) t.others) ∙ ap (λ v. dot (level n) v) (sym t.same) ∙ height in
          let small : t.factor ≤ℚ one_ℚ = le_of_difference t.factor one_ℚ (dot (level n) t.others) level_others whole in
          let near : List ℚ = towards t.factor big g in
          let far : List ℚ = away t.factor g t.others in
          let near_is : IsGenerated (suc n) gens near =
          generated_plus (suc n) gens (scaled (one_ℚ +ℚ neg_ℚ t.factor) big) (scaled t.factor g) s.described.generators_wide
          (generated_scaled (suc n) gens (one_ℚ +ℚ neg_ℚ t.factor) big s.described.generators_wide (difference_nonneg t.factor one_ℚ small)
          (s.described.generates big big_in))
          (generated_scaled (suc n) gens t.factor g s.described.generators_wide (le_of_lt zero_ℚ t.factor t.positive)
          (generated_generator (suc n) gens g s.described.generators_wide g_listed)) in
          let far_is : IsGenerated (suc n) gens far =
          generated_plus (suc n) gens (scaled (t.factor *ℚ t.factor) g) (scaled (one_ℚ +ℚ t.factor) t.others) s.described.generators_wide
          (generated_scaled (suc n) gens (t.factor *ℚ t.factor) g s.described.generators_wide
          (le_of_lt zero_ℚ (t.factor *ℚ t.factor) (mul_positive t.factor t.factor t.positive t.positive))
          (generated_generator (suc n) gens g s.described.generators_wide g_listed))
          (generated_scaled (suc n) gens (one_ℚ +ℚ t.factor) t.others s.described.generators_wide
          (add_nonneg one_ℚ t.factor (le_of_lt zero_ℚ one_ℚ zero_lt_one) (le_of_lt zero_ℚ t.factor t.positive)) t.others_is) in
          let sides : plus big big ≡ plus near far = two_sides (suc n) t.factor big g t.others big_width g_width others_in.wide t.same in
          let near_height : dot (level n) near ≡ one_ℚ =
          towards_value t.factor big g (level n) ∙ ap₂ (λ x z. (one_ℚ +ℚ neg_ℚ t.factor) *ℚ x +ℚ t.factor *ℚ z) height (level_value n p one_ℚ p_width)
          ∙ ap₂ (λ x z. x +ℚ z) (mul_one (one_ℚ +ℚ neg_ℚ t.factor)) (mul_one t.factor) ∙ share_whole t.factor in
          let far_height : dot (level n) far ≡ one_ℚ =
          Rattle.exact_field.proofs.Rationals.add_left_cancel_ℚ (dot (level n) near) (dot (level n) far) one_ℚ
          (sym (dot-plus (level n) near far) ∙ ap (λ v. dot (level n) v) (sym sides) ∙ dot-plus (level n) big big ∙ ap₂ (λ x z. x +ℚ z)
          (height ∙ sym near_height) height) in
          let a : (v : List ℚ) × Set v × (near ≡ homogenised v one_ℚ) = at_height_one near
          (generated_in (suc n) (rows_of n cuts) gens s.described near near_is) near_height in
          let b : (v : List ℚ) × Set v × (far ≡ homogenised v one_ℚ) = at_height_one far
          (generated_in (suc n) (rows_of n cuts) gens s.described far far_is) far_height in
          let sum : plus y y ≡ plus a.0 b.0 =
          (homogenised-same (plus y y) (plus a.0 b.0) (one_ℚ +ℚ one_ℚ) (one_ℚ +ℚ one_ℚ)
          (sym (plus-homogenised y y one_ℚ one_ℚ refl) ∙ sides ∙ ap₂ (λ u v. plus u v) a.2 b.2 ∙ plus-homogenised a.0 b.0 one_ℚ one_ℚ
          (s.convex.wide a.0 a.1 ∙ sym (s.convex.wide b.0 b.1)))).0 in
          let stays : near ≡ big = a.2 ∙ ap (λ v. homogenised v one_ℚ) (vertex.no_midpoint a.0 b.0 a.1 b.1 sum).0 in
          let same : p ≡ y = (homogenised-same p y one_ℚ one_ℚ (towards_same (suc n) t.factor big g t.positive big_width g_width stays)).0 in
          subst (λ (v : List ℚ). Contains points v) same listed
        where
          share_whole : (l : ℚ) → (one_ℚ +ℚ neg_ℚ l) +ℚ l ≡ one_ℚ
          share_whole l = Rattle.polyhedra.proofs.Laws.add_assoc one_ℚ (neg_ℚ l) l ∙ ap (λ x. one_ℚ +ℚ x)
              (add_comm (neg_ℚ l) l ∙ Rattle.polyhedra.proofs.Laws.add_neg l) ∙ add_zero one_ℚ

      start : IsGenerated (suc n) gens big → Contains points y
      start g = first (support_positive g.multipliers gens (level n) g.at_least_zero
          (subst (λ (x : ℚ). zero_ℚ <ℚ x) (sym height ∙ generated_value (suc n) gens big g (level n)) zero_lt_one))
        where
          first : ((v : List ℚ) × InSupport g.multipliers gens v × (zero_ℚ <ℚ dot v (level n))) → Contains points y
          first (v, m, q) =
              let p : (x : List ℚ) × Contains points x × (v ≡ homogenised x one_ℚ) = point_of n Set Directions c cuts gens points directions s v
              (support_listed g.multipliers gens v m) (subst (λ (x : ℚ). zero_ℚ <ℚ x) (dot_comm v (level n)) q) in
              with_split p.0 p.1 (split_support (suc n) gens big (homogenised p.0 one_ℚ) s.described.generators_wide g
              (subst (λ (w : List ℚ). InSupport g.multipliers gens w) p.2 m))
