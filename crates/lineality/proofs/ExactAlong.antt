-- Exactness with lines, from exactness for the set without the entries at the places of the lines.
use Rattle.std.proofs.Common.{◌≡◌, ◌↔◌, ℕ, List, [], ◌∷◌, map, length, All, Contains, refl, sym, ap, ap₂, ◌∙◌, subst, arith, ◌<◌}
use Rattle.std.proofs.lemmas.List.Elements.{All-cons, All-head, All-tail, All-map}
use Rattle.std.proofs.lemmas.List.{length-map}
use Rattle.exact_field.specs.Rational.{ℚ, zero_ℚ, ◌+ℚ◌, ◌≤ℚ◌}
use Rattle.exact_field.specs.Vector.{dot, entry}
use Rattle.exact_field.specs.Ring.{v0, v1, v2, ◌⊕◌}
use Rattle.exact_field.proofs.RingTool.{ring}
use Rattle.exact_field.proofs.Rationals.{rationals}
use Rattle.polyhedra.specs.Vectors.{AreWide, zeros, plus, scaled, combination}
use Rattle.polyhedra.specs.Inequality.{Inequality}
use Rattle.polyhedra.specs.Negatives.{negated}
use Rattle.polyhedra.specs.Hull.{IsInHull, IsVertex, IsMultiple, IsExtremeDirection, IsNormedDirection, IsValid, IsValidAt, IsFacet}
use Rattle.polyhedra.specs.Exactness.{homogenised, level, row_of, rows_of, IsExact, IsNamed}
use Rattle.polyhedra.proofs.Laws.{add_zero, le_antisymm}
use Rattle.polyhedra.proofs.Algebra.{zero_add}
use Rattle.polyhedra.proofs.Order.{neg_nonneg}
use Rattle.polyhedra.proofs.Linear.{dot-plus, dot-zeros, length-plus, length-zeros, length-combination, same_wide}
use Rattle.polyhedra.proofs.Lists.{HasWidth, Contains-here}
use Rattle.polyhedra.proofs.Members.{all_of_members, member_of, Contains-map, Contains-map_source}
use Rattle.polyhedra.proofs.Negatives.{dot-negated}
use Rattle.polyhedra.proofs.ConvexSets.{member_from_parts, direction_value}
use Rattle.polyhedra.proofs.Homogenised.{length-homogenised, zeros-homogenised, homogenised-same, level_value, row_value_direction}
use Rattle.lineality.specs.Lines.{leading_place, IsInLineality, IsCombined, AreLines, IsReduced, IsReducedIn, reduction}
use Rattle.lineality.specs.Without.{marks, open_count, without, with_zeros}
use Rattle.lineality.specs.Exactness.{IsSolvedAlong, ExactnessAlong}
use Rattle.lineality.proofs.Echelon.{IsEchelon, echelon_of}
use Rattle.lineality.proofs.Masks.{without-with, with-plus, with-scaled, with-zeros, without-plus, without-scaled, without-zeros, without-combination, inequality_without}
use Rattle.lineality.proofs.Reduction.{reduced_plus, reduced_scaled, reduced_zeros, entries_at, parted, length-reduction, reduction_flat, reduction_in, along_in}
use Rattle.lineality.proofs.Erased.{IsErased, erased_in, filled_in, erased_wide, kept, long, erased_valid, erased_normed, enclosed', exact_erased, point_in, direction_in}
use Rattle.lineality.proofs.Level.{IsLevel, level_plus, level_product, same_level, restored, length-restored, restored_without, restored_level}

some_listed : (ps : List (List ℚ)) → 0 < length ps → (y : List ℚ) × Contains ps y
some_listed [] h = absurd (omega arith)
some_listed (y ∷ ps) h = (y, Contains-here y ps y refl)

none_combined : (n : ℕ) (ms : List ℚ) → combination n ms [] ≡ zeros n
none_combined n [] = refl
none_combined n (m ∷ ms) = refl

reduced_combination : (lines : List (List ℚ)) (n : ℕ) (ms : List ℚ) (vs : List (List ℚ)) → All (IsReduced lines) vs → IsReduced lines (combination n ms vs)
reduced_combination lines n [] vs h = reduced_zeros lines n
reduced_combination lines n (m ∷ ms) [] h = reduced_zeros lines n
reduced_combination lines n (m ∷ ms) (v ∷ vs) h =
    reduced_plus lines (scaled m v) (combination n ms vs) (reduced_scaled lines m v (All-head (IsReduced lines) v vs h))
    (reduced_combination lines n ms vs (All-tail (IsReduced lines) v vs h))

same_inequality : (a b : Inequality) → a.normal ≡ b.normal → a.bound ≡ b.bound → a ≡ b
same_inequality a b e f = ap₂ (λ n r. record { normal = n; bound = r }) e f

module _ (n : ℕ) (Set Directions : List ℚ → Type 0) (c : List ℚ) (lines : List (List ℚ)) (cuts : List Inequality) (gens points directions : List (List ℚ))
    (named : List Inequality) (s : IsSolvedAlong n Set Directions c lines cuts gens points directions named) where
  abbrev form : IsEchelon n lines
  form = echelon_of n lines s.enclosed.along.echelon

  abbrev W : List ℚ → List ℚ
  W = without (marks n lines)

  abbrev Z : List ℚ → List ℚ
  Z = with_zeros (marks n lines)

  abbrev m : ℕ
  m = open_count (marks n lines)

  abbrev cut' : Inequality → Inequality
  cut' = inequality_without (marks n lines)

  abbrev Set' : List ℚ → Type 0
  Set' = IsErased n lines form Set

  abbrev Directions' : List ℚ → Type 0
  Directions' = IsErased n lines form Directions

  abbrev c' : List ℚ
  c' = W (reduction n lines c)

  exact' : IsExact m Set' Directions' c' (map W points) (map W directions) (map cut' named)
  exact' = exact_erased n Set Directions c lines cuts gens points directions named s

  in_points : (y : List ℚ) → Contains points y → IsReducedIn lines Set y
  in_points = point_in n Set Directions c lines cuts gens points directions s.enclosed

  in_directions : (d : List ℚ) → Contains directions d → IsReducedIn lines Directions d
  in_directions = direction_in n Set Directions c lines cuts gens points directions s.enclosed

  wide : (y : List ℚ) → Set y → length y ≡ n
  wide = s.convex.wide

  wide_along : (d : List ℚ) → Directions d → length d ≡ n
  wide_along = s.convex.directions_wide

  some_points : 0 < length points
  some_points = let many = length-map points W in let some = exact'.some_point in omega (arith, many, some)

  some : (y : List ℚ) × Contains points y
  some = some_listed points some_points

  -- ---- valid inequalities are level along the lineality space
  valid_level : (e : Inequality) → IsValid n Set e → (d : List ℚ) → IsInLineality Directions d → dot e.normal d ≡ zero_ℚ
  valid_level e v d h =
      let y : (y : List ℚ) × Contains points y = some in
      let up : zero_ℚ ≤ℚ dot e.normal d = direction_value n Set Directions s.convex e y.0 d v (in_points y.0 y.1).member h.forth in
      let down : zero_ℚ ≤ℚ dot e.normal (negated d) = direction_value n Set Directions s.convex e y.0 (negated d) v (in_points y.0 y.1).member h.back in
      le_antisymm (dot e.normal d) zero_ℚ
      (Rattle.polyhedra.proofs.Order.le_of_difference (dot e.normal d) zero_ℚ (dot e.normal (negated d)) down
      (ap (λ a. dot e.normal d +ℚ a) (dot-negated e.normal d) ∙ Rattle.polyhedra.proofs.Laws.add_neg (dot e.normal d))) up

  pub level_of : (e : Inequality) → IsValid n Set e → IsLevel lines e.normal
  level_of e v = all_of_members (λ d. dot e.normal d ≡ zero_ℚ) lines
      (λ d k. valid_level e v d (member_of (IsInLineality Directions) lines d s.along.each k))

  cut_valid : (e : Inequality) → Contains cuts e → IsValidAt n Set c e
  cut_valid e k = member_of (IsValidAt n Set c) cuts e s.cuts_valid k

  -- ---- each vector of the lineality space is a combination of the lines
  module _ (d : List ℚ) (h : IsInLineality Directions d) where
    abbrev rest : List ℚ
    rest = reduction n lines d

    d_wide : length d ≡ n
    d_wide = wide_along d h.forth

    rest_wide : length rest ≡ n
    rest_wide = length-reduction n lines d form.wide d_wide

    erased_rest : length (W rest) ≡ m
    erased_rest = erased_wide n lines form rest rest_wide

    tight : (e : Inequality) → Contains cuts e → dot (row_of (cut' e)) (homogenised (W rest) zero_ℚ) ≡ zero_ℚ
    tight e k =
        let v : IsValid n Set e = (cut_valid e k).valid in
        row_value_direction (cut' e) (W rest) (erased_wide n lines form e.normal v.wide ∙ sym erased_rest)
        ∙ level_product n lines form e.normal d (level_of e v) d_wide ∙ valid_level e v d h

    tight_rows : All (λ r. dot r (homogenised (W rest) zero_ℚ) ≡ zero_ℚ) (rows_of m (map cut' cuts))
    tight_rows = All-cons (λ r. dot r (homogenised (W rest) zero_ℚ) ≡ zero_ℚ) (level m) (map row_of (map cut' cuts))
        (level_value m (W rest) zero_ℚ erased_rest)
        (All-map (λ r. dot r (homogenised (W rest) zero_ℚ) ≡ zero_ℚ) row_of (map cut' cuts)
        (All-map (λ e. dot (row_of e) (homogenised (W rest) zero_ℚ) ≡ zero_ℚ) cut' cuts (all_of_members (λ e. dot (row_of (cut' e)) (homogenised (W rest) zero_ℚ) ≡ zero_ℚ) cuts tight)))

    gone : W rest ≡ zeros m
    gone = (homogenised-same (W rest) (zeros m) zero_ℚ zero_ℚ
        ((enclosed' n Set Directions c lines cuts gens points directions s.enclosed).described.pointed (homogenised (W rest) zero_ℚ) (length-homogenised m (W rest) zero_ℚ erased_rest) tight_rows
        ∙ zeros-homogenised m)).0

    rest_gone : rest ≡ zeros n
    rest_gone = sym (kept n lines form rest rest_wide (reduction_flat n lines d form)) ∙ ap Z gone ∙ with-zeros (marks n lines) ∙ ap zeros (long n lines form)

    spanned : IsCombined n lines d
    spanned = record {
      multipliers = entries_at lines d;
      one_each = length-map lines (λ e. entry d (leading_place e));
      combined = same_wide n d (combination n (entries_at lines d) lines) d_wide (length-combination n (entries_at lines d) lines form.wide)
          (λ r. ap (dot r) (parted n lines d form.wide d_wide) ∙ dot-plus r rest (combination n (entries_at lines d) lines)
          ∙ ap (λ a. a +ℚ dot r (combination n (entries_at lines d) lines)) (ap (dot r) rest_gone ∙ dot-zeros r n)
          ∙ zero_add (dot r (combination n (entries_at lines d) lines)));
    }

  lines_are : AreLines n Directions lines
  lines_are = record { along = s.enclosed.along; spans = spanned }

  -- ---- sums with and without the entries
  fill_plus : (a b : List ℚ) → length a ≡ m → length b ≡ m → Z (plus a b) ≡ plus (Z a) (Z b)
  fill_plus a b h k = with-plus (marks n lines) a b (h ∙ sym k)

  less_plus : (a b : List ℚ) → length a ≡ n → length b ≡ n → W (plus a b) ≡ plus (W a) (W b)
  less_plus a b h k = without-plus (marks n lines) a b (h ∙ sym k)

  less_zeros : W (zeros n) ≡ zeros m
  less_zeros = ap (λ k. W (zeros k)) (sym (long n lines form)) ∙ without-zeros (marks n lines)

  fill_zeros : Z (zeros m) ≡ zeros n
  fill_zeros = with-zeros (marks n lines) ∙ ap zeros (long n lines form)

  keep : (y : List ℚ) → length y ≡ n → IsReduced lines y → Z (W y) ≡ y
  keep = kept n lines form

  -- reduced vectors with the same other entries are equal
  told : (u v : List ℚ) → length u ≡ n → length v ≡ n → IsReduced lines u → IsReduced lines v → W u ≡ W v → u ≡ v
  told u v hu hv ru rv e = sym (keep u hu ru) ∙ ap Z e ∙ keep v hv rv

  -- ---- vertices
  vertex_down : (y : List ℚ) → IsVertex (IsReducedIn lines Set) y → IsVertex Set' (W y)
  vertex_down y v = record {
    member = erased_in n lines form Set wide y v.member;
    no_midpoint = λ a b ha hb e.
        let y_wide : length y ≡ n = wide y v.member.member in
        let w_wide : length (W y) ≡ m = erased_wide n lines form y y_wide in
        let k : Z (W y) ≡ y = keep y y_wide v.member.reduced in
        let r : (Z a ≡ y) × (Z b ≡ y) = v.no_midpoint (Z a) (Z b) (filled_in n lines form Set wide a ha) (filled_in n lines form Set wide b hb)
        (ap₂ (λ p q. plus p q) (sym k) (sym k) ∙ sym (fill_plus (W y) (W y) w_wide w_wide) ∙ ap Z e ∙ fill_plus a b ha.wide hb.wide) in
        (sym (without-with (marks n lines) a) ∙ ap W r.0, sym (without-with (marks n lines) b) ∙ ap W r.1);
  }

  vertex_up : (y : List ℚ) → length y ≡ n → IsReduced lines y → IsVertex Set' (W y) → IsVertex (IsReducedIn lines Set) y
  vertex_up y y_wide y_reduced v = record {
    member = record { member = subst Set (keep y y_wide y_reduced) v.member.member; reduced = y_reduced };
    no_midpoint = λ a b ha hb e.
        let a_wide : length a ≡ n = wide a ha.member in
        let b_wide : length b ≡ n = wide b hb.member in
        let r : (W a ≡ W y) × (W b ≡ W y) = v.no_midpoint (W a) (W b) (erased_in n lines form Set wide a ha) (erased_in n lines form Set wide b hb)
        (sym (less_plus y y y_wide y_wide) ∙ ap W e ∙ less_plus a b a_wide b_wide) in
        (told a y a_wide y_wide ha.reduced y_reduced r.0, told b y b_wide y_wide hb.reduced y_reduced r.1);
  }

  vertices_are : (y : List ℚ) → Contains points y ↔ IsVertex (IsReducedIn lines Set) y
  vertices_are y = (
    λ k. let p : IsReducedIn lines Set y = in_points y k in
        vertex_up y (wide y p.member) p.reduced ((exact'.vertices (W y)).0 (Contains-map W points y k)),
    λ v. let t : (x : List ℚ) × Contains points x × (W x ≡ W y) = Contains-map_source W points (W y) ((exact'.vertices (W y)).1 (vertex_down y v)) in
        let p : IsReducedIn lines Set t.0 = in_points t.0 t.1 in
        subst (λ (x : List ℚ). Contains points x) (told t.0 y (wide t.0 p.member) (wide y v.member.member) p.reduced v.member.reduced t.2) t.1,
  )

  -- ---- extreme directions
  multiple_down : (d a : List ℚ) → IsMultiple d (Z a) → IsMultiple (W d) a
  multiple_down d a h = record { factor = h.factor; same = sym (without-with (marks n lines) a) ∙ ap W h.same ∙ without-scaled (marks n lines) h.factor d }

  multiple_up : (d a : List ℚ) → length d ≡ n → length a ≡ n → IsReduced lines d → IsReduced lines a → IsMultiple (W d) (W a) → IsMultiple d a
  multiple_up d a dw aw dr ar h = record {
    factor = h.factor;
    same = sym (keep a aw ar) ∙ ap Z h.same ∙ with-scaled (marks n lines) h.factor (W d) ∙ ap (scaled h.factor) (keep d dw dr);
  }

  extreme_down : (d : List ℚ) → IsExtremeDirection n (IsReducedIn lines Directions) d → IsExtremeDirection m Directions' (W d)
  extreme_down d v = record {
    member = erased_in n lines form Directions wide_along d v.member;
    not_zero = λ e. v.not_zero (sym (keep d (wide_along d v.member.member) v.member.reduced) ∙ ap Z e ∙ fill_zeros);
    no_sum = λ a b ha hb e.
        let r : IsMultiple d (Z a) × IsMultiple d (Z b) = v.no_sum (Z a) (Z b) (filled_in n lines form Directions wide_along a ha) (filled_in n lines form Directions wide_along b hb)
        (sym (keep d (wide_along d v.member.member) v.member.reduced) ∙ ap Z e ∙ fill_plus a b ha.wide hb.wide) in
        (multiple_down d a r.0, multiple_down d b r.1);
  }

  extreme_up : (d : List ℚ) → length d ≡ n → IsReduced lines d → IsExtremeDirection m Directions' (W d) → IsExtremeDirection n (IsReducedIn lines Directions) d
  extreme_up d d_wide d_reduced v = record {
    member = record { member = subst Directions (keep d d_wide d_reduced) v.member.member; reduced = d_reduced };
    not_zero = λ e. v.not_zero (ap W e ∙ less_zeros);
    no_sum = λ a b ha hb e.
        let a_wide : length a ≡ n = wide_along a ha.member in
        let b_wide : length b ≡ n = wide_along b hb.member in
        let r : IsMultiple (W d) (W a) × IsMultiple (W d) (W b) = v.no_sum (W a) (W b) (erased_in n lines form Directions wide_along a ha) (erased_in n lines form Directions wide_along b hb)
        (ap W e ∙ less_plus a b a_wide b_wide) in
        (multiple_up d a d_wide a_wide d_reduced ha.reduced r.0, multiple_up d b d_wide b_wide d_reduced hb.reduced r.1);
  }

  extreme_are : (d : List ℚ) → Contains directions d ↔ (IsExtremeDirection n (IsReducedIn lines Directions) d × IsNormedDirection d)
  extreme_are d = (
    λ k. let p : IsReducedIn lines Directions d = in_directions d k in
        (extreme_up d (wide_along d p.member) p.reduced ((exact'.extreme (W d)).0 (Contains-map W directions d k)).0, member_of IsNormedDirection directions d s.directions_normed k),
    λ v. let d_wide : length d ≡ n = wide_along d v.0.member.member in
        let t : (x : List ℚ) × Contains directions x × (W x ≡ W d) = Contains-map_source W directions (W d)
        ((exact'.extreme (W d)).1 (extreme_down d v.0, erased_normed n lines form d d_wide v.0.member.reduced v.1)) in
        let p : IsReducedIn lines Directions t.0 = in_directions t.0 t.1 in
        subst (λ (x : List ℚ). Contains directions x) (told t.0 d (wide_along t.0 p.member) d_wide p.reduced v.0.member.reduced t.2) t.1,
  )

  -- ---- the hull
  points_wide : AreWide n points
  points_wide = record { wide = all_of_members (HasWidth n) points (λ y k. wide y (in_points y k).member) }

  directions_wide : AreWide n directions
  directions_wide = record { wide = all_of_members (HasWidth n) directions (λ d k. wide_along d (in_directions d k).member) }

  less_combination : (ms : List ℚ) (vs : List (List ℚ)) → AreWide n vs → W (combination n ms vs) ≡ combination m ms (map W vs)
  less_combination ms vs w =
      ap (λ k. W (combination k ms vs)) (sym (long n lines form))
      ∙ without-combination (marks n lines) ms vs (subst (λ (k : ℕ). AreWide k vs) (sym (long n lines form)) w)

  into_hull : (y : List ℚ) → Set y → IsInHull n points directions lines y
  into_hull y k = go ((exact'.hull (W (reduction n lines y))).0 (erased_in n lines form Set wide (reduction n lines y) red_in))
    where
      red_in : IsReducedIn lines Set (reduction n lines y)
      red_in = reduction_in n Set Directions lines s.convex s.enclosed.along y k

      go : IsInHull m (map W points) (map W directions) [] (W (reduction n lines y)) → IsInHull n points directions lines y
      go h =
          let p : List ℚ = combination n h.weights points in
          let q : List ℚ = combination n h.shares directions in
          let l : List ℚ = combination n (entries_at lines y) lines in
          let p_wide : length p ≡ n = length-combination n h.weights points points_wide in
          let q_wide : length q ≡ n = length-combination n h.shares directions directions_wide in
          let l_wide : length l ≡ n = length-combination n (entries_at lines y) lines form.wide in
          let q'_wide : length (W q) ≡ m = erased_wide n lines form q q_wide in
          let last : plus (W q) (zeros m) ≡ W q = same_wide m (plus (W q) (zeros m)) (W q) (length-plus m (W q) (zeros m) q'_wide (length-zeros m)) q'_wide
          (λ r. dot-plus r (W q) (zeros m) ∙ ap (λ a. dot r (W q) +ℚ a) (dot-zeros r m) ∙ add_zero (dot r (W q))) in
          let reduced_sum : IsReduced lines (plus p q) = reduced_plus lines p q
          (reduced_combination lines n h.weights points (all_of_members (IsReduced lines) points (λ v i. (in_points v i).reduced)))
          (reduced_combination lines n h.shares directions (all_of_members (IsReduced lines) directions (λ v i. (in_directions v i).reduced))) in
          let same : reduction n lines y ≡ plus p q = told (reduction n lines y) (plus p q) (length-reduction n lines y form.wide (wide y k)) (length-plus n p q p_wide q_wide)
          red_in.reduced reduced_sum
          (h.combined
          ∙ ap₂ (λ a b. plus a b) (sym (less_combination h.weights points points_wide))
          (ap₂ (λ a b. plus a b) (sym (less_combination h.shares directions directions_wide)) (none_combined m h.slopes) ∙ last)
          ∙ sym (less_plus p q p_wide q_wide)) in
          record {
            weights = h.weights;
            shares = h.shares;
            slopes = entries_at lines y;
            weight_each = h.weight_each ∙ length-map points W;
            share_each = h.share_each ∙ length-map directions W;
            slope_each = length-map lines (λ e. entry y (leading_place e));
            weights_at_least_zero = h.weights_at_least_zero;
            shares_at_least_zero = h.shares_at_least_zero;
            weights_whole = h.weights_whole;
            combined = same_wide n y (plus p (plus q l)) (wide y k) (length-plus n p (plus q l) p_wide (length-plus n q l q_wide l_wide))
                (λ r. ap (dot r) (parted n lines y form.wide (wide y k)) ∙ dot-plus r (reduction n lines y) l
                ∙ ap (λ a. a +ℚ dot r l) (ap (dot r) same ∙ dot-plus r p q)
                ∙ ring rationals (dot r p ∷ dot r q ∷ dot r l ∷ []) ((v0 ⊕ v1) ⊕ v2) (v0 ⊕ (v1 ⊕ v2)) refl
                ∙ sym (dot-plus r p (plus q l) ∙ ap (λ a. dot r p +ℚ a) (dot-plus r q l)));
          }

  from_hull : (y : List ℚ) → IsInHull n points directions lines y → Set y
  from_hull y h =
      let p : List ℚ = combination n h.weights points in
      let q : List ℚ = combination n h.shares directions in
      let l : List ℚ = combination n h.slopes lines in
      let p_wide : length p ≡ n = length-combination n h.weights points points_wide in
      let q_wide : length q ≡ n = length-combination n h.shares directions directions_wide in
      let l_wide : length l ≡ n = length-combination n h.slopes lines form.wide in
      let sum : Set (plus p q) = member_from_parts n Set Directions s.convex h.weights h.shares points directions h.weight_each h.weights_at_least_zero h.shares_at_least_zero
      (all_of_members Set points (λ v i. (in_points v i).member)) (all_of_members Directions directions (λ v i. (in_directions v i).member)) h.weights_whole in
      subst Set
      (same_wide n (plus (plus p q) l) (plus p (plus q l)) (length-plus n (plus p q) l (length-plus n p q p_wide q_wide) l_wide) (length-plus n p (plus q l) p_wide (length-plus n q l q_wide l_wide))
      (λ r. dot-plus r (plus p q) l ∙ ap (λ a. a +ℚ dot r l) (dot-plus r p q)
      ∙ ring rationals (dot r p ∷ dot r q ∷ dot r l ∷ []) ((v0 ⊕ v1) ⊕ v2) (v0 ⊕ (v1 ⊕ v2)) refl
      ∙ sym (dot-plus r p (plus q l) ∙ ap (λ a. dot r p +ℚ a) (dot-plus r q l)))
      ∙ sym h.combined)
      (s.convex.recedes (plus p q) l sum (along_in n Set Directions lines s.convex s.enclosed.along h.slopes))

  -- ---- facets
  same_cut : (a b : Inequality) → IsValidAt n Set c a → IsValidAt n Set c b → cut' a ≡ cut' b → a ≡ b
  same_cut a b va vb e = same_inequality a b
      (same_level n lines form a.normal b.normal va.wide vb.wide (level_of a va.valid) (level_of b vb.valid) (ap (λ (f : Inequality). f.normal) e))
      (ap (λ (f : Inequality). f.bound) e)

  valid_down : (e : Inequality) → IsValidAt n Set c e → IsValidAt m Set' c' (cut' e)
  valid_down e v = erased_valid n lines form Set c e s.c_wide v (level_of e v.valid)

  facet_up : (e : Inequality) → IsValidAt n Set c e → IsFacet m Set' c' (cut' e) → IsFacet n Set c e
  facet_up e v f = record {
    valid = v;
    no_midpoint = λ a b va vb normals bounds.
        let r : (cut' a ≡ cut' e) × (cut' b ≡ cut' e) = f.no_midpoint (cut' a) (cut' b) (valid_down a va) (valid_down b vb)
        (sym (less_plus e.normal e.normal v.wide v.wide) ∙ ap W normals ∙ less_plus a.normal b.normal va.wide vb.wide) bounds in
        (same_cut a e va v r.0, same_cut b e vb v r.1);
  }

  module _ (e : Inequality) (v : IsValidAt m Set' c' e) where
    abbrev pub lifted : Inequality
    lifted = record { normal = restored n lines form e.normal v.wide; bound = e.bound }

    pub lifted_level : IsLevel lines (restored n lines form e.normal v.wide)
    lifted_level = restored_level n lines form e.normal v.wide

    product_lifted : (y : List ℚ) → length y ≡ n → dot e.normal (W (reduction n lines y)) ≡ dot (restored n lines form e.normal v.wide) y
    product_lifted y w =
        ap (λ u. dot u (W (reduction n lines y))) (sym (restored_without n lines form e.normal v.wide))
        ∙ level_product n lines form (restored n lines form e.normal v.wide) y lifted_level w

    pub lifted_valid : IsValidAt n Set c lifted
    lifted_valid = record {
      valid = record {
        wide = length-restored n lines form e.normal v.wide;
        holds = λ y k. subst (λ (a : ℚ). e.bound ≤ℚ a) (product_lifted y (wide y k))
            (v.holds (W (reduction n lines y)) (erased_in n lines form Set wide (reduction n lines y) (reduction_in n Set Directions lines s.convex s.enclosed.along y k)));
      };
      normed = sym (product_lifted c s.c_wide) ∙ v.normed;
    }

    pub lifted_back : cut' lifted ≡ e
    lifted_back = same_inequality (cut' lifted) e (restored_without n lines form e.normal v.wide) refl

  facet_down : (e : Inequality) → IsFacet n Set c e → IsFacet m Set' c' (cut' e)
  facet_down e f = record {
    valid = valid_down e f.valid;
    no_midpoint = λ a b va vb normals bounds.
        let A : Inequality = lifted a va in
        let B : Inequality = lifted b vb in
        let A_valid : IsValidAt n Set c A = lifted_valid a va in
        let B_valid : IsValidAt n Set c B = lifted_valid b vb in
        let e_level : IsLevel lines e.normal = level_of e f.valid.valid in
        let r : (A ≡ e) × (B ≡ e) = f.no_midpoint A B A_valid B_valid
        (same_level n lines form (plus e.normal e.normal) (plus A.normal B.normal)
        (length-plus n e.normal e.normal f.valid.wide f.valid.wide) (length-plus n A.normal B.normal A_valid.wide B_valid.wide)
        (level_plus lines e.normal e.normal e_level e_level) (level_plus lines A.normal B.normal (lifted_level a va) (lifted_level b vb))
        (less_plus e.normal e.normal f.valid.wide f.valid.wide ∙ normals
        ∙ ap₂ (λ p q. plus p q) (sym (restored_without n lines form a.normal va.wide)) (sym (restored_without n lines form b.normal vb.wide))
        ∙ sym (less_plus A.normal B.normal A_valid.wide B_valid.wide))) bounds in
        (sym (lifted_back a va) ∙ ap cut' r.0, sym (lifted_back b vb) ∙ ap cut' r.1);
  }

  facets_are : (e : Inequality) → Contains named e ↔ IsFacet n Set c e
  facets_are e = (
    λ k. facet_up e (cut_valid e (member_of (IsNamed n cuts gens) named e s.names k).cut) ((exact'.facets_are (cut' e)).0 (Contains-map cut' named e k)),
    λ f. let t : (g : Inequality) × Contains named g × (cut' g ≡ cut' e) = Contains-map_source cut' named (cut' e) ((exact'.facets_are (cut' e)).1 (facet_down e f)) in
        subst (λ (g : Inequality). Contains named g)
        (same_cut t.0 e (cut_valid t.0 (member_of (IsNamed n cuts gens) named t.0 s.names t.1).cut) f.valid t.2) t.1,
  )

pub exactness_along : (Set Directions : List ℚ → Type 0) → ExactnessAlong Set Directions
exactness_along Set Directions n c lines cuts gens points directions named s = record {
  lines_are = lines_are n Set Directions c lines cuts gens points directions named s;
  vertices = vertices_are n Set Directions c lines cuts gens points directions named s;
  extreme = extreme_are n Set Directions c lines cuts gens points directions named s;
  facets_are = facets_are n Set Directions c lines cuts gens points directions named s;
  hull = λ y. (into_hull n Set Directions c lines cuts gens points directions named s y, from_hull n Set Directions c lines cuts gens points directions named s y);
  some_point = some_points n Set Directions c lines cuts gens points directions named s;
}
