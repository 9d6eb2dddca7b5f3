-- A solved set: it is the slice at height 1 of the cone of the rows, its directions are that at height 0, and it has a point.
use Rattle.std.proofs.Common.{◌≡◌, ℕ, suc, List, [], ◌∷◌, ◌++◌, map, length, Contains, refl, sym, ap, ap₂, ◌∙◌, subst, arith, inl, inr}
use Rattle.std.proofs.lemmas.List.{length-map}
use Rattle.std.proofs.lemmas.List.Elements.{All-cons, All-map, All-weaker, All-append, Contains-append_left, Contains-append_right}
use Rattle.exact_field.specs.Rational.{ℚ, zero_ℚ, one_ℚ, ◌+ℚ◌, ◌*ℚ◌, neg_ℚ, ◌≤ℚ◌, ◌<ℚ◌}
use Rattle.exact_field.specs.Vector.{dot, sum_ℚ}
use Rattle.polyhedra.specs.Vectors.{AreWide, zeros, plus, scaled, values, combination, AtLeastZero}
use Rattle.polyhedra.specs.Cone.{IsGenerated, IsInCone}
use Rattle.polyhedra.specs.Inequality.{Inequality}
use Rattle.polyhedra.specs.Hull.{IsInHull, IsValidAt}
use Rattle.polyhedra.specs.Exactness.{homogenised, level, row_of, rows_of, IsOneOf, IsEnclosed}
use Rattle.polyhedra.proofs.Laws.{add_zero, mul_one, le_refl, le_of_lt, zero_lt_one}
use Rattle.polyhedra.proofs.Algebra.{zero_add, zero_mul, mul_zero, one_mul, mul_neg}
use Rattle.polyhedra.proofs.Order.{lt_of_difference, difference_nonneg, add_zero_left, not_zero_of_positive, lt_irrefl}
use Rattle.polyhedra.proofs.Linear.{dot_comm, dot-plus, dot-scaled, dot-zeros, dot-combination, length-plus, length-scaled, length-zeros, length-combination, same_wide}
use Rattle.polyhedra.proofs.Lists.{HoldsAt, HasWidth, nonneg-head, nonneg-tail}
use Rattle.polyhedra.proofs.Members.{all_of_members, member_of, Contains-map}
use Rattle.polyhedra.proofs.Generated.{generated_value, generated_generator}
use Rattle.polyhedra.proofs.Support.{InSupport, support_listed, support_positive}
use Rattle.polyhedra.proofs.Homogenised.{length-homogenised, plus-homogenised, scaled-homogenised, zeros-homogenised, homogenised-same, level_value, row_value_point, row_value_direction}
use Rattle.polyhedra.proofs.Cones.{generated_through, IsSumOf, generated_append, sum_nonneg}
use Rattle.polyhedra.proofs.ConvexSets.{above, member_from_parts, directions_sum, direction_value}

-- the combination of homogenised vectors of one height
homogenised_combination : (n : ℕ) (t : ℚ) (ms : List ℚ) (vs : List (List ℚ)) → length ms ≡ length vs → AreWide n vs → combination (suc n) ms
    (map (λ v. homogenised v t) vs) ≡ homogenised (combination n ms vs) (sum_ℚ ms *ℚ t)
homogenised_combination n t [] vs l w = zeros-homogenised n ∙ ap (λ x. homogenised (zeros n) x) (sym (zero_mul t))
homogenised_combination n t (m ∷ ms) [] l w = absurd (omega arith)
homogenised_combination n t (m ∷ ms) (v ∷ vs) l w =
    let rest_wide : AreWide n vs = Rattle.polyhedra.proofs.Lists.wide-tail n v vs w in
    ap₂ (λ a b. plus a b) (scaled-homogenised m v t) (homogenised_combination n t ms vs (omega arith) rest_wide)
    ∙ plus-homogenised (scaled m v) (combination n ms vs) (m *ℚ t) (sum_ℚ ms *ℚ t) (length-scaled m v ∙ Rattle.polyhedra.proofs.Lists.wide-head n v vs w
    ∙ sym (length-combination n ms vs rest_wide))
    ∙ ap (λ x. homogenised (plus (scaled m v) (combination n ms vs)) x) (sym (Rattle.polyhedra.proofs.Algebra.add_mul m (sum_ℚ ms) t))

-- where numbers of at least 0 sum to 0, their combinations are 0
combination_of_nothing : (n : ℕ) (ms : List ℚ) (vs : List (List ℚ)) → AreWide n vs → AtLeastZero ms → sum_ℚ ms ≡ zero_ℚ → (r : List ℚ) → dot ms
    (values vs r) ≡ zero_ℚ
combination_of_nothing n [] vs w h e r = refl
combination_of_nothing n (m ∷ ms) [] w h e r = refl
combination_of_nothing n (m ∷ ms) (v ∷ vs) w h e r =
    let m_zero : m ≡ zero_ℚ = add_zero_left m (sum_ℚ ms) (nonneg-head m ms h) (sum_nonneg ms (nonneg-tail m ms h)) e in
    let rest_zero : sum_ℚ ms ≡ zero_ℚ = sym (zero_add (sum_ℚ ms)) ∙ ap (λ x. x +ℚ sum_ℚ ms) (sym m_zero) ∙ e in
    ap₂ (λ a b. a *ℚ dot v r +ℚ b) m_zero (combination_of_nothing n ms vs (Rattle.polyhedra.proofs.Lists.wide-tail n v vs w) (nonneg-tail m ms h) rest_zero r)
    ∙ ap (λ x. x +ℚ zero_ℚ) (zero_mul (dot v r)) ∙ add_zero zero_ℚ

module _ (n : ℕ) (Set Directions : List ℚ → Type 0) (c : List ℚ) (cuts : List Inequality) (gens points directions : List (List ℚ))
    (s : IsEnclosed n Set Directions c cuts gens points directions) where
  unfoldable pub InK : List ℚ → Type 0
  InK z = IsInCone (suc n) (rows_of n cuts) z

  pub cut_valid : (e : Inequality) → Contains cuts e → IsValidAt n Set c e
  cut_valid e k = member_of (IsValidAt n Set c) cuts e s.cuts_valid k

  pub points_wide : AreWide n points
  points_wide = record { wide = all_of_members (HasWidth n) points (λ y k. s.convex.wide y (member_of Set points y s.points_in k)) }

  pub directions_wide : AreWide n directions
  directions_wide = record {
    wide = all_of_members (HasWidth n) directions
        (λ d k. s.convex.directions_wide d (member_of Directions directions d s.directions_in k));
  }

  -- a homogenised vector of at least height 0 that meets each cut
  pub homogenised_in : (y : List ℚ) (t : ℚ) → length y ≡ n → zero_ℚ ≤ℚ t → ((e : Inequality) → Contains cuts e → zero_ℚ ≤ℚ dot (row_of e) (homogenised y t)) →
      InK (homogenised y t)
  unfolding InK
  homogenised_in y t width h k = record {
    wide = length-homogenised n y t width;
    within = All-cons (HoldsAt (homogenised y t)) (level n) (map row_of cuts) (subst (λ (x : ℚ). zero_ℚ ≤ℚ x) (sym (level_value n y t width)) h)
        (All-map (HoldsAt (homogenised y t)) row_of cuts (all_of_members (λ e. HoldsAt (homogenised y t) (row_of e)) cuts k));
  }

  pub valid_at_point : (e : Inequality) (y : List ℚ) → IsValidAt n Set c e → Set y → zero_ℚ ≤ℚ dot (row_of e) (homogenised y one_ℚ)
  valid_at_point e y v h = subst (λ (x : ℚ). zero_ℚ ≤ℚ x) (sym (row_value_point e y (v.wide ∙ sym (s.convex.wide y h))))
      (difference_nonneg e.bound (dot e.normal y) (v.holds y h))

  pub point_in : (y : List ℚ) → Set y → InK (homogenised y one_ℚ)
  point_in y h = homogenised_in y one_ℚ (s.convex.wide y h) (le_of_lt zero_ℚ one_ℚ zero_lt_one) (λ e k. valid_at_point e y (cut_valid e k) h)

  -- ---- a large multiple of c meets each cut with room to spare
  pub top : ℚ
  top = (above cuts).0

  pub high : List ℚ
  high = homogenised (scaled top c) one_ℚ

  high_width : length (scaled top c) ≡ n
  high_width = length-scaled top c ∙ s.c_wide

  pub high_cut : (e : Inequality) → Contains cuts e → zero_ℚ <ℚ dot (row_of e) high
  unfolding high top
  high_cut e k =
      let v : IsValidAt n Set c e = cut_valid e k in
      lt_of_difference zero_ℚ (dot (row_of e) high) (top +ℚ neg_ℚ e.bound)
      (Rattle.exact_field.proofs.Inequalities.difference_from_lt e.bound top (member_of (λ f. f.bound <ℚ (above cuts).0) cuts e (above cuts).1 k))
      (zero_add (top +ℚ neg_ℚ e.bound)
      ∙ sym (row_value_point e (scaled top c) (v.wide ∙ sym high_width) ∙ ap (λ x. x +ℚ neg_ℚ e.bound)
      (dot-scaled e.normal top c ∙ ap (λ x. top *ℚ x) v.normed ∙ mul_one top)))

  high_in : InK high
  unfolding high top
  high_in = homogenised_in (scaled top c) one_ℚ high_width (le_of_lt zero_ℚ one_ℚ zero_lt_one) (λ e k. le_of_lt zero_ℚ (dot (row_of e) high) (high_cut e k))

  -- a row that is positive at a member of the cone is positive at a generator
  pub generator_at : (r z : List ℚ) → InK z → zero_ℚ <ℚ dot r z → (g : List ℚ) × Contains gens g × (zero_ℚ <ℚ dot r g)
  unfolding InK
  generator_at r z h p =
      let g : IsGenerated (suc n) gens z = s.described.generates z h in
      let t : (v : List ℚ) × InSupport g.multipliers gens v × (zero_ℚ <ℚ dot v r) = support_positive g.multipliers gens r g.at_least_zero
      (subst (λ (x : ℚ). zero_ℚ <ℚ x) (generated_value (suc n) gens z g r) p) in
      (t.0, support_listed g.multipliers gens t.0 t.1, subst (λ (x : ℚ). zero_ℚ <ℚ x) (dot_comm t.0 r) t.2)

  pub generator_at_cut : (e : Inequality) → Contains cuts e → (g : List ℚ) × Contains gens g × (zero_ℚ <ℚ dot (row_of e) g)
  generator_at_cut e k = generator_at (row_of e) high high_in (high_cut e k)

  pub generator_at_level : (g : List ℚ) × Contains gens g × (zero_ℚ <ℚ dot (level n) g)
  unfolding high top
  generator_at_level = generator_at (level n) high high_in (subst (λ (x : ℚ). zero_ℚ <ℚ x) (sym (level_value n (scaled top c) one_ℚ high_width)) zero_lt_one)

  -- a generator of positive height is a point
  pub point_of : (g : List ℚ) → Contains gens g → zero_ℚ <ℚ dot (level n) g → (y : List ℚ) × Contains points y × (g ≡ homogenised y one_ℚ)
  point_of g k p = go (member_of (IsOneOf points directions) gens g s.each k)
    where
      go : IsOneOf points directions g → (y : List ℚ) × Contains points y × (g ≡ homogenised y one_ℚ)
      go (inl h) = h
      go (inr h) = absurd (lt_irrefl zero_ℚ (subst (λ (x : ℚ). zero_ℚ <ℚ x)
          (ap (λ v. dot (level n) v) h.2 ∙ level_value n h.0 zero_ℚ (member_of (HasWidth n) directions h.0 directions_wide.wide h.1)) p))

  -- a generator of height 0 is a direction
  pub direction_of : (g : List ℚ) → Contains gens g → dot (level n) g ≡ zero_ℚ → (d : List ℚ) × Contains directions d × (g ≡ homogenised d zero_ℚ)
  direction_of g k e = go (member_of (IsOneOf points directions) gens g s.each k)
    where
      go : IsOneOf points directions g → (d : List ℚ) × Contains directions d × (g ≡ homogenised d zero_ℚ)
      go (inr h) = h
      go (inl h) = absurd (not_zero_of_positive one_ℚ zero_lt_one
          (sym (ap (λ v. dot (level n) v) h.2 ∙ level_value n h.0 one_ℚ (member_of (HasWidth n) points h.0 points_wide.wide h.1)) ∙ e))

  pub some_point : (y : List ℚ) × Contains points y
  some_point =
      let g : (v : List ℚ) × Contains gens v × (zero_ℚ <ℚ dot (level n) v) = generator_at_level in
      let p : (y : List ℚ) × Contains points y × (g.0 ≡ homogenised y one_ℚ) = point_of g.0 g.1 g.2 in
      (p.0, p.1)

  pub valid_at_direction : (e : Inequality) (d : List ℚ) → IsValidAt n Set c e → Directions d → zero_ℚ ≤ℚ dot (row_of e) (homogenised d zero_ℚ)
  valid_at_direction e d v h = subst (λ (x : ℚ). zero_ℚ ≤ℚ x) (sym (row_value_direction e d (v.wide ∙ sym (s.convex.directions_wide d h))))
      (direction_value n Set Directions s.convex e some_point.0 d v.valid (member_of Set points some_point.0 s.points_in some_point.1) h)

  pub direction_in : (d : List ℚ) → Directions d → InK (homogenised d zero_ℚ)
  direction_in d h = homogenised_in d zero_ℚ (s.convex.directions_wide d h) (le_refl zero_ℚ) (λ e k. valid_at_direction e d (cut_valid e k) h)

  -- ---- a member of the cone, by points and directions
  homogenised_points : List (List ℚ)
  homogenised_points = map (λ y. homogenised y one_ℚ) points

  homogenised_directions : List (List ℚ)
  homogenised_directions = map (λ d. homogenised d zero_ℚ) directions

  homogenised_points_wide : AreWide (suc n) homogenised_points
  unfolding homogenised_points
  homogenised_points_wide = record {
    wide = All-map (HasWidth (suc n)) (λ y. homogenised y one_ℚ) points
        (All-weaker (HasWidth n) (λ y. HasWidth (suc n) (homogenised y one_ℚ)) (λ y h. length-homogenised n y one_ℚ h) points points_wide.wide);
  }

  homogenised_directions_wide : AreWide (suc n) homogenised_directions
  unfolding homogenised_directions
  homogenised_directions_wide = record {
    wide = All-map (HasWidth (suc n)) (λ y. homogenised y zero_ℚ) directions
        (All-weaker (HasWidth n) (λ y. HasWidth (suc n) (homogenised y zero_ℚ)) (λ y h. length-homogenised n y zero_ℚ h) directions directions_wide.wide);
  }

  both_wide : AreWide (suc n) (homogenised_points ++ homogenised_directions)
  both_wide = record { wide = All-append (HasWidth (suc n)) homogenised_points homogenised_directions homogenised_points_wide.wide homogenised_directions_wide.wide }

  by_parts : (z : List ℚ) → InK z → IsSumOf (suc n) homogenised_points homogenised_directions z
  unfolding InK homogenised_points homogenised_directions
  by_parts z h =
      generated_append (suc n) homogenised_points homogenised_directions z homogenised_points_wide homogenised_directions_wide h.wide
      (generated_through (suc n) gens (homogenised_points ++ homogenised_directions) z both_wide
      (all_of_members (IsGenerated (suc n) (homogenised_points ++ homogenised_directions)) gens (λ g k.
      generated_generator (suc n) (homogenised_points ++ homogenised_directions) g both_wide (listed g (member_of (IsOneOf points directions) gens g s.each k))))
      (s.described.generates z h))
    where
      listed : (g : List ℚ) → IsOneOf points directions g → Contains (homogenised_points ++ homogenised_directions) g
      listed g (inl (y, k, e)) = Contains-append_left homogenised_points homogenised_directions g
          (subst (λ (v : List ℚ). Contains homogenised_points v) (sym e) (Contains-map (λ v. homogenised v one_ℚ) points y k))
      listed g (inr (d, k, e)) = Contains-append_right homogenised_points homogenised_directions g
          (subst (λ (v : List ℚ). Contains homogenised_directions v) (sym e) (Contains-map (λ v. homogenised v zero_ℚ) directions d k))

  -- weights of the points and shares of the directions, of a vector at height t
  pub record HasParts (y : List ℚ) (t : ℚ) : Type 0 where
    pub weights : List ℚ
    pub shares : List ℚ
    pub weight_each : length weights ≡ length points
    pub share_each : length shares ≡ length directions
    pub weights_nonneg : AtLeastZero weights
    pub shares_nonneg : AtLeastZero shares
    pub total : sum_ℚ weights ≡ t
    pub combined : y ≡ plus (combination n weights points) (combination n shares directions)

  pub parts : (y : List ℚ) (t : ℚ) → length y ≡ n → InK (homogenised y t) → HasParts y t
  unfolding homogenised_points homogenised_directions
  parts y t width h =
      let p : IsSumOf (suc n) homogenised_points homogenised_directions (homogenised y t) = by_parts (homogenised y t) h in
      let ws : List ℚ = p.first_is.multipliers in
      let ss : List ℚ = p.second_is.multipliers in
      let ws_each : length ws ≡ length points = p.first_is.one_each ∙ length-map points (λ v. homogenised v one_ℚ) in
      let ss_each : length ss ≡ length directions = p.second_is.one_each ∙ length-map directions (λ v. homogenised v zero_ℚ) in
      let whole : homogenised y t ≡ homogenised (plus (combination n ws points) (combination n ss directions)) (sum_ℚ ws *ℚ one_ℚ +ℚ sum_ℚ ss *ℚ zero_ℚ) =
      p.same ∙ ap₂ (λ a b. plus a b) (p.first_is.combined ∙ homogenised_combination n one_ℚ ws points ws_each points_wide) (p.second_is.combined
      ∙ homogenised_combination n zero_ℚ ss directions ss_each directions_wide)
      ∙ plus-homogenised (combination n ws points) (combination n ss directions) (sum_ℚ ws *ℚ one_ℚ) (sum_ℚ ss *ℚ zero_ℚ)
      (length-combination n ws points points_wide ∙ sym (length-combination n ss directions directions_wide)) in
      let both : (y ≡ plus (combination n ws points) (combination n ss directions)) × (t ≡ sum_ℚ ws *ℚ one_ℚ +ℚ sum_ℚ ss *ℚ zero_ℚ) =
      homogenised-same y (plus (combination n ws points) (combination n ss directions)) t (sum_ℚ ws *ℚ one_ℚ +ℚ sum_ℚ ss *ℚ zero_ℚ) whole in
      record {
        weights = ws;
        shares = ss;
        weight_each = ws_each;
        share_each = ss_each;
        weights_nonneg = p.first_is.at_least_zero;
        shares_nonneg = p.second_is.at_least_zero;
        total = sym (both.1 ∙ ap₂ (λ a b. a +ℚ b) (mul_one (sum_ℚ ws)) (mul_zero (sum_ℚ ss)) ∙ add_zero (sum_ℚ ws));
        combined = both.0;
      }

  pub point_back : (y : List ℚ) → length y ≡ n → InK (homogenised y one_ℚ) → Set y
  point_back y width h =
      let p : HasParts y one_ℚ = parts y one_ℚ width h in
      subst (λ (v : List ℚ). Set v) (sym p.combined)
      (member_from_parts n Set Directions s.convex p.weights p.shares points directions p.weight_each p.weights_nonneg p.shares_nonneg s.points_in s.directions_in p.total)

  pub direction_back : (d : List ℚ) → length d ≡ n → InK (homogenised d zero_ℚ) → Directions d
  direction_back d width h =
      let p : HasParts d zero_ℚ = parts d zero_ℚ width h in
      let shares_part : List ℚ = combination n p.shares directions in
      let same : d ≡ shares_part = p.combined ∙ same_wide n (plus (combination n p.weights points) shares_part) shares_part
      (length-plus n (combination n p.weights points) shares_part (length-combination n p.weights points points_wide)
      (length-combination n p.shares directions directions_wide))
      (length-combination n p.shares directions directions_wide)
      (λ r. dot-plus r (combination n p.weights points) shares_part
      ∙ ap (λ x. x +ℚ dot r shares_part) (dot-combination n r p.weights points
      ∙ combination_of_nothing n p.weights points points_wide p.weights_nonneg p.total r) ∙ zero_add (dot r shares_part)) in
      subst (λ (v : List ℚ). Directions v) (sym same) (directions_sum n Set Directions s.convex p.shares directions p.shares_nonneg s.directions_in)

  -- ---- the hull
  plus-zeros : (v : List ℚ) → length v ≡ n → plus v (zeros n) ≡ v
  plus-zeros v h = same_wide n (plus v (zeros n)) v (length-plus n v (zeros n) h (length-zeros n)) h (λ r. dot-plus r v (zeros n)
      ∙ ap (λ x. dot r v +ℚ x) (dot-zeros r n) ∙ add_zero (dot r v))

  pub in_hull : (y : List ℚ) → Set y → IsInHull n points directions [] y
  in_hull y h =
      let p : HasParts y one_ℚ = parts y one_ℚ (s.convex.wide y h) (point_in y h) in
      record {
        weights = p.weights;
        shares = p.shares;
        slopes = [];
        weight_each = p.weight_each;
        share_each = p.share_each;
        slope_each = refl;
        weights_at_least_zero = p.weights_nonneg;
        shares_at_least_zero = p.shares_nonneg;
        weights_whole = p.total;
        combined = p.combined ∙ ap (λ v. plus (combination n p.weights points) v)
            (sym (plus-zeros (combination n p.shares directions) (length-combination n p.shares directions directions_wide)));
      }

  pub from_hull : (y : List ℚ) → IsInHull n points directions [] y → Set y
  from_hull y h =
      subst (λ (v : List ℚ). Set v) (sym (h.combined ∙ ap (λ v. plus (combination n h.weights points) v)
      (ap (λ v. plus (combination n h.shares directions) v) (no_lines h.slopes) ∙ plus-zeros (combination n h.shares directions)
      (length-combination n h.shares directions directions_wide))))
      (member_from_parts n Set Directions s.convex h.weights h.shares points directions h.weight_each h.weights_at_least_zero h.shares_at_least_zero s.points_in s.directions_in h.weights_whole)
    where
      no_lines : (ms : List ℚ) → combination n ms [] ≡ zeros n
      no_lines [] = refl
      no_lines (m ∷ ms) = refl
