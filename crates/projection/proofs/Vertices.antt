-- A vertex of a convex set that lies in the hull of members and directions is one of these members.
use Rattle.std.proofs.Common.{◌≡◌, ℕ, suc, List, [], ◌∷◌, map, length, All, Contains, refl, sym, ap, ap₂, ◌∙◌, subst, arith}
use Rattle.std.proofs.lemmas.List.{length-map}
use Rattle.std.proofs.lemmas.List.Elements.{All-nil}
use Rattle.exact_field.specs.Rational.{ℚ, zero_ℚ, one_ℚ, ◌+ℚ◌, ◌*ℚ◌, neg_ℚ, ◌≤ℚ◌, ◌<ℚ◌}
use Rattle.exact_field.specs.Ring.{v0, v1, ◌⊕◌}
use Rattle.exact_field.specs.Vector.{dot, sum_ℚ}
use Rattle.exact_field.proofs.RingTool.{ring}
use Rattle.exact_field.proofs.Rationals.{rationals, add_left_cancel_ℚ}
use Rattle.polyhedra.specs.Cone.{IsGenerated}
use Rattle.polyhedra.specs.Exactness.{homogenised, level}
use Rattle.polyhedra.specs.Hull.{IsConvex, IsVertex}
use Rattle.polyhedra.specs.Vectors.{AreWide, AtLeastZero, plus, scaled, combination}
use Rattle.polyhedra.proofs.Laws.{add_comm, add_assoc, add_neg, add_zero, mul_one, le_of_lt, zero_lt_one}
use Rattle.polyhedra.proofs.Order.{add_nonneg, mul_positive, le_of_difference, difference_nonneg}
use Rattle.polyhedra.proofs.Linear.{dot-plus, dot-scaled, length-plus, length-scaled, length-combination, same_wide}
use Rattle.polyhedra.proofs.Lists.{HasWidth, nonneg-nil, wide-head, wide-tail}
use Rattle.polyhedra.proofs.Members.{all_of_members, member_of, Contains-map, Contains-map_source}
use Rattle.polyhedra.proofs.Generated.{generated_value, generated_width, generated_plus, generated_scaled, generated_generator}
use Rattle.polyhedra.proofs.Support.{InSupport, support_listed, support_positive}
use Rattle.polyhedra.proofs.Homogenised.{length-homogenised, plus-homogenised, scaled-homogenised, zeros-homogenised, homogenised-same, level_value}
use Rattle.polyhedra.proofs.Cones.{IsSplit, split_support, sum_nonneg}
use Rattle.polyhedra.proofs.ConvexSets.{member_from_parts, directions_sum}
use Rattle.polyhedra.proofs.Midpoints.{towards, away, towards_value, two_sides, towards_same}
use Rattle.representations.proofs.LinedCones.{raised_wide}
use Rattle.projection.proofs.Level.{plus-zeros}

-- a combination of raised points is raised to the sum of the multipliers
raised : (n : ℕ) (ms : List ℚ) (ps : List (List ℚ)) → length ms ≡ length ps → AreWide n ps →
    combination (suc n) ms (map (λ p. homogenised p one_ℚ) ps) ≡ homogenised (combination n ms ps) (sum_ℚ ms)
raised n [] ps l w = zeros-homogenised n
raised n (m ∷ ms) [] l w = absurd (omega arith)
raised n (m ∷ ms) (p ∷ ps) l w =
    ap₂ (λ a b. plus a b) (scaled-homogenised m p one_ℚ ∙ ap (homogenised (scaled m p)) (mul_one m)) (raised n ms ps (omega arith) (wide-tail n p ps w))
    ∙ plus-homogenised (scaled m p) (combination n ms ps) m (sum_ℚ ms)
    (length-scaled m p ∙ wide-head n p ps w ∙ sym (length-combination n ms ps (wide-tail n p ps w)))

module _ (n : ℕ) (Set Directions : List ℚ → Type 0) (convex : IsConvex n Set Directions) (ps : List (List ℚ)) (in_set : All Set ps) where
  wide : AreWide n ps
  wide = record { wide = all_of_members (HasWidth n) ps (λ p m. convex.wide p (member_of Set ps p in_set m)) }

  abbrev gens : List (List ℚ)
  gens = map (λ p. homogenised p one_ℚ) ps

  gens_wide : AreWide (suc n) gens
  gens_wide = raised_wide n one_ℚ ps wide

  pub mean_in : (ms : List ℚ) → length ms ≡ length ps → AtLeastZero ms → sum_ℚ ms ≡ one_ℚ → Set (combination n ms ps)
  mean_in ms l h e = subst Set (plus-zeros n (combination n ms ps) (length-combination n ms ps wide))
      (member_from_parts n Set Directions convex ms [] ps [] l h nonneg-nil in_set (All-nil Directions) e)

  at_height_one : (z : List ℚ) → IsGenerated (suc n) gens z → dot (level n) z ≡ one_ℚ → (a : List ℚ) × Set a × (z ≡ homogenised a one_ℚ)
  at_height_one z g e =
      let ms : List ℚ = g.multipliers in
      let each : length ms ≡ length ps = g.one_each ∙ length-map ps (λ p. homogenised p one_ℚ) in
      let is : z ≡ homogenised (combination n ms ps) (sum_ℚ ms) = g.combined ∙ raised n ms ps each wide in
      let total : sum_ℚ ms ≡ one_ℚ = sym (level_value n (combination n ms ps) (sum_ℚ ms) (length-combination n ms ps wide)) ∙ ap (dot (level n)) (sym is) ∙ e in (
        combination n ms ps,
        mean_in ms each g.at_least_zero total,
        is ∙ ap (homogenised (combination n ms ps)) total,
      )

  module _ (y : List ℚ) (vertex : IsVertex Set y) where
    width : length y ≡ n
    width = convex.wide y vertex.member

    abbrev big : List ℚ
    big = homogenised y one_ℚ

    big_width : length big ≡ suc n
    big_width = length-homogenised n y one_ℚ width

    height : dot (level n) big ≡ one_ℚ
    height = level_value n y one_ℚ width

    with_split : IsGenerated (suc n) gens big → (p : List ℚ) → Contains ps p → IsSplit (suc n) gens big (homogenised p one_ℚ) → Contains ps y
    with_split big_is p listed t =
        let g : List ℚ = homogenised p one_ℚ in
        let p_width : length p ≡ n = member_of (HasWidth n) ps p wide.wide listed in
        let g_width : length g ≡ suc n = length-homogenised n p one_ℚ p_width in
        let g_listed : Contains gens g = Contains-map (λ v. homogenised v one_ℚ) ps p listed in
        let others_width : length t.others ≡ suc n = generated_width (suc n) gens t.others gens_wide t.others_is in
        let level_others : zero_ℚ ≤ℚ dot (level n) t.others = nonneg_height t.others t.others_is in
        let whole : t.factor +ℚ dot (level n) t.others ≡ one_ℚ =
        ap (λ x. x +ℚ dot (level n) t.others) (sym (mul_one t.factor) ∙ ap (λ x. t.factor *ℚ x) (sym (level_value n p one_ℚ p_width)) ∙ sym
        (dot-scaled (level n) t.factor g))
        ∙ sym (dot-plus (level n) (scaled t.factor g) t.others) ∙ ap (λ v. dot (level n) v) (sym t.same) ∙ height in
        let small : t.factor ≤ℚ one_ℚ = le_of_difference t.factor one_ℚ (dot (level n) t.others) level_others whole in
        let near : List ℚ = towards t.factor big g in
        let far : List ℚ = away t.factor g t.others in
        let near_is : IsGenerated (suc n) gens near =
        generated_plus (suc n) gens (scaled (one_ℚ +ℚ neg_ℚ t.factor) big) (scaled t.factor g) gens_wide
        (generated_scaled (suc n) gens (one_ℚ +ℚ neg_ℚ t.factor) big gens_wide (difference_nonneg t.factor one_ℚ small) big_is)
        (generated_scaled (suc n) gens t.factor g gens_wide (le_of_lt zero_ℚ t.factor t.positive) (generated_generator (suc n) gens g gens_wide g_listed)) in
        let far_is : IsGenerated (suc n) gens far =
        generated_plus (suc n) gens (scaled (t.factor *ℚ t.factor) g) (scaled (one_ℚ +ℚ t.factor) t.others) gens_wide
        (generated_scaled (suc n) gens (t.factor *ℚ t.factor) g gens_wide (le_of_lt zero_ℚ (t.factor *ℚ t.factor) (mul_positive t.factor t.factor t.positive t.positive))
        (generated_generator (suc n) gens g gens_wide g_listed))
        (generated_scaled (suc n) gens (one_ℚ +ℚ t.factor) t.others gens_wide
        (add_nonneg one_ℚ t.factor (le_of_lt zero_ℚ one_ℚ zero_lt_one) (le_of_lt zero_ℚ t.factor t.positive)) t.others_is) in
        let sides : plus big big ≡ plus near far = two_sides (suc n) t.factor big g t.others big_width g_width others_width t.same in
        let near_height : dot (level n) near ≡ one_ℚ =
        towards_value t.factor big g (level n) ∙ ap₂ (λ x z. (one_ℚ +ℚ neg_ℚ t.factor) *ℚ x +ℚ t.factor *ℚ z) height (level_value n p one_ℚ p_width)
        ∙ ap₂ (λ x z. x +ℚ z) (mul_one (one_ℚ +ℚ neg_ℚ t.factor)) (mul_one t.factor) ∙ share_whole t.factor in
        let far_height : dot (level n) far ≡ one_ℚ =
        add_left_cancel_ℚ (dot (level n) near) (dot (level n) far) one_ℚ
        (sym (dot-plus (level n) near far) ∙ ap (λ v. dot (level n) v) (sym sides) ∙ dot-plus (level n) big big ∙ ap₂ (λ x z. x +ℚ z) (height ∙ sym near_height) height) in
        let a : (v : List ℚ) × Set v × (near ≡ homogenised v one_ℚ) = at_height_one near near_is near_height in
        let b : (v : List ℚ) × Set v × (far ≡ homogenised v one_ℚ) = at_height_one far far_is far_height in
        let sum : plus y y ≡ plus a.0 b.0 =
        (homogenised-same (plus y y) (plus a.0 b.0) (one_ℚ +ℚ one_ℚ) (one_ℚ +ℚ one_ℚ)
        (sym (plus-homogenised y y one_ℚ one_ℚ refl) ∙ sides ∙ ap₂ (λ u v. plus u v) a.2 b.2
        ∙ plus-homogenised a.0 b.0 one_ℚ one_ℚ (convex.wide a.0 a.1 ∙ sym (convex.wide b.0 b.1)))).0 in
        let stays : near ≡ big = a.2 ∙ ap (λ v. homogenised v one_ℚ) (vertex.no_midpoint a.0 b.0 a.1 b.1 sum).0 in
        let same : p ≡ y = (homogenised-same p y one_ℚ one_ℚ (towards_same (suc n) t.factor big g t.positive big_width g_width stays)).0 in
        subst (λ (v : List ℚ). Contains ps v) same listed
      where
        share_whole : (l : ℚ) → (one_ℚ +ℚ neg_ℚ l) +ℚ l ≡ one_ℚ
        share_whole l = add_assoc one_ℚ (neg_ℚ l) l ∙ ap (λ x. one_ℚ +ℚ x) (add_comm (neg_ℚ l) l ∙ add_neg l) ∙ add_zero one_ℚ

        nonneg_height : (z : List ℚ) → IsGenerated (suc n) gens z → zero_ℚ ≤ℚ dot (level n) z
        nonneg_height z h =
            let each : length h.multipliers ≡ length ps = h.one_each ∙ length-map ps (λ v. homogenised v one_ℚ) in
            subst (λ (q : ℚ). zero_ℚ ≤ℚ q)
            (sym (ap (dot (level n)) (h.combined ∙ raised n h.multipliers ps each wide)
            ∙ level_value n (combination n h.multipliers ps) (sum_ℚ h.multipliers) (length-combination n h.multipliers ps wide)))
            (sum_nonneg h.multipliers h.at_least_zero)

    -- of a mean of members
    mean_listed : (ms : List ℚ) → length ms ≡ length ps → AtLeastZero ms → sum_ℚ ms ≡ one_ℚ → y ≡ combination n ms ps → Contains ps y
    mean_listed ms l h e same = first (support_positive ms gens (level n) h
        (subst (λ (x : ℚ). zero_ℚ <ℚ x) (sym height ∙ generated_value (suc n) gens big big_is (level n)) zero_lt_one))
      where
        big_is : IsGenerated (suc n) gens big
        big_is = record {
          multipliers = ms;
          one_each = l ∙ sym (length-map ps (λ p. homogenised p one_ℚ));
          at_least_zero = h;
          combined = ap₂ (λ v t. homogenised v t) same (sym e) ∙ sym (raised n ms ps l wide);
        }

        first : ((v : List ℚ) × InSupport ms gens v × (zero_ℚ <ℚ dot v (level n))) → Contains ps y
        first (v, m, q) =
            let p : (x : List ℚ) × Contains ps x × (homogenised x one_ℚ ≡ v) = Contains-map_source (λ u. homogenised u one_ℚ) ps v (support_listed ms gens v m) in
            with_split big_is p.0 p.1 (split_support (suc n) gens big (homogenised p.0 one_ℚ) gens_wide big_is
            (subst (λ (w : List ℚ). InSupport ms gens w) (sym p.2) m))

    -- and of such a mean and directions
    pub vertex_listed : (ms ss : List ℚ) (ds : List (List ℚ)) → length ms ≡ length ps → AtLeastZero ms → sum_ℚ ms ≡ one_ℚ → AtLeastZero ss → All Directions ds →
        y ≡ plus (combination n ms ps) (combination n ss ds) → Contains ps y
    vertex_listed ms ss ds l h e h' in_directions same =
        let a : List ℚ = combination n ms ps in
        let d : List ℚ = combination n ss ds in
        let a_in : Set a = mean_in ms l h e in
        let d_in : Directions d = directions_sum n Set Directions convex ss ds h' in_directions in
        let dd_in : Directions (plus d d) = convex.direction_sum d d d_in d_in in
        let a_width : length a ≡ n = convex.wide a a_in in
        let dd_width : length (plus d d) ≡ n = convex.directions_wide (plus d d) dd_in in
        let middle : plus y y ≡ plus a (plus a (plus d d)) =
        same_wide n (plus y y) (plus a (plus a (plus d d))) (length-plus n y y width width)
        (length-plus n a (plus a (plus d d)) a_width (length-plus n a (plus d d) a_width dd_width))
        (λ r.
        let v : dot r y ≡ dot r a +ℚ dot r d = ap (dot r) same ∙ dot-plus r a d in
        dot-plus r y y ∙ ap₂ (λ p q. p +ℚ q) v v
        ∙ ring rationals (dot r a ∷ dot r d ∷ []) ((v0 ⊕ v1) ⊕ (v0 ⊕ v1)) (v0 ⊕ (v0 ⊕ (v1 ⊕ v1))) refl
        ∙ sym (dot-plus r a (plus a (plus d d)) ∙ ap (λ q. dot r a +ℚ q) (dot-plus r a (plus d d) ∙ ap (λ q. dot r a +ℚ q) (dot-plus r d d)))) in
        mean_listed ms l h e (sym (vertex.no_midpoint a (plus a (plus d d)) a_in (convex.recedes a (plus d d) a_in dd_in) middle).0)
