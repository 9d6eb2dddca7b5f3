-- No point, direction or line of the projection can be left out.
use Rattle.std.proofs.Common.{◌≡◌, ℕ, zero, suc, ◌≤◌, List, [], ◌∷◌, ◌++◌, map, length, take, All, Contains, refl, sym, ap, ap₂, ◌∙◌, subst, arith, ◌⊎◌, inl, inr, pos}
use Rattle.std.proofs.lemmas.List.{length-map}
use Rattle.std.proofs.lemmas.List.Elements.{All-head, All-tail, All-append, Contains-append_cases}
use Rattle.exact_field.specs.Rational.{ℚ, zero_ℚ, one_ℚ, ◌+ℚ◌, ◌*ℚ◌, neg_ℚ, ◌≤ℚ◌, ◌<ℚ◌}
use Rattle.exact_field.specs.Ring.{v0, v1, ◌⊕◌, ◌⊗◌, ⊖, num}
use Rattle.exact_field.specs.Vector.{dot, sum_ℚ}
use Rattle.exact_field.proofs.RingTool.{ring}
use Rattle.exact_field.proofs.Rationals.{rationals, one-not-zero}
use Rattle.exact_field.proofs.Sums.{sum-append}
use Rattle.lineality.specs.Lines.{IsInLineality, RunsAlong, IsCombined, IsReduced, IsReducedIn, reduction}
use Rattle.lineality.proofs.Echelon.{IsEchelon, IsOne, IsFlatAt, ComesFirst, echelon_of, echelon-tail, others_off, flat_is_zero}
use Rattle.lineality.proofs.Level.{member_combined}
use Rattle.lineality.proofs.Lineality.{length-negated}
use Rattle.lineality.proofs.Places.{at, first, at-plus, at-scaled, at-combination}
use Rattle.lineality.proofs.Reduction.{flat_of, less_at, length-reduction, reduction_flat, reduction_same, reduction-plus, reduction-scaled, reduced_zeros, reduction_directs, part_convex}
use Rattle.polyhedra.specs.Cone.{IsGenerated}
use Rattle.polyhedra.specs.Exactness.{homogenised}
use Rattle.polyhedra.specs.Hull.{IsInHull, IsConvex, IsVertex, IsExtremeDirection, IsNormedDirection}
use Rattle.polyhedra.specs.Inequality.{Inequality}
use Rattle.polyhedra.specs.Negatives.{negated}
use Rattle.polyhedra.specs.Vectors.{AreWide, zeros, plus, scaled, values, combination}
use Rattle.polyhedra.proofs.Laws.{add_zero, mul_one, le_of_lt, zero_lt_one}
use Rattle.polyhedra.proofs.Algebra.{zero_add, mul_zero}
use Rattle.polyhedra.proofs.ConvexSets.{directions_sum}
use Rattle.polyhedra.proofs.Homogenised.{length-homogenised, IsHomogenised, unhomogenised}
use Rattle.polyhedra.proofs.Linear.{dot-plus, dot-plus_left, dot-scaled, dot-zeros, dot-combination, length-plus, length-scaled, length-zeros, length-combination, same_wide}
use Rattle.polyhedra.proofs.Lists.{HasWidth, Contains-cases, Contains-nil, wide-head, wide-tail, wide-map}
use Rattle.polyhedra.proofs.Members.{all_of_members, member_of, Contains-map_source, pairs-head}
use Rattle.polyhedra.proofs.Order.{product_zero}
use Rattle.representations.specs.Needed.{AreOthers, NoneIsTooMuch}
use Rattle.representations.specs.Projection.{spread}
use Rattle.representations.proofs.Slices.{spread-plus, spread-scaled}
use Rattle.upper_image.specs.UpperImage.{IsInWorkingImage, IsWorkingDirection, IsExactFor}
use Rattle.vlp_problem.specs.declared.problem.Problem.{Problem}
use Rattle.projection.specs.Associated.{IsAssociated}
use Rattle.projection.specs.Laws.{IsLevel, fronts, level_only}
use Rattle.projection.proofs.Hulls.{fronts_wide, level_wide, level_listed, points_wide, directions_wide, lines_wide, levels, projection_is_hull}
use Rattle.projection.proofs.Level.{take-front, plus-zeros, spread-zeros}
use Rattle.projection.proofs.Slices.{working_along, working_convex, working_vertex, working_extreme, projection_is_slice_of}
use Rattle.projection.proofs.Extremes.{IsAmong, same_normed, extreme_among, recedes_among}
use Rattle.projection.proofs.Vertices.{mean_in, vertex_listed}

-- ---- vectors followed by minus their sum
-- a level vector is its front, followed by minus its sum
spread_back : (k : ℕ) (v : List ℚ) → length v ≡ suc k → sum_ℚ v ≡ zero_ℚ → spread (take k v) ≡ v
spread_back k v h e = go (unhomogenised k v h)
  where
    go : IsHomogenised k v → spread (take k v) ≡ v
    go u =
        let front : take k v ≡ u.front = ap (take k) u.same ∙ take-front k u.front u.last u.wide in
        let both : sum_ℚ u.front +ℚ u.last ≡ zero_ℚ =
        ap (λ q. sum_ℚ u.front +ℚ q) (sym (add_zero u.last)) ∙ sym (sum-append u.front (u.last ∷ [])) ∙ ap sum_ℚ (sym u.same) ∙ e in
        let last : neg_ℚ (sum_ℚ u.front) ≡ u.last =
        sym (zero_add (neg_ℚ (sum_ℚ u.front))) ∙ ap (λ q. q +ℚ neg_ℚ (sum_ℚ u.front)) (sym both)
        ∙ ring rationals (sum_ℚ u.front ∷ u.last ∷ []) ((v0 ⊕ v1) ⊕ ⊖ v0) v1 refl in
        ap spread front ∙ ap (λ t. homogenised u.front t) last ∙ sym u.same

back_all : (k : ℕ) (vs : List (List ℚ)) → AreWide (suc k) vs → All IsLevel vs → map spread (fronts k vs) ≡ vs
back_all k [] w h = refl
back_all k (v ∷ vs) w h =
    ap₂ (λ a b. a ∷ b) (spread_back k v (wide-head (suc k) v vs w) (All-head IsLevel v vs h)) (back_all k vs (wide-tail (suc k) v vs w) (All-tail IsLevel v vs h))

spread_wide : (k : ℕ) (z : List ℚ) → length z ≡ k → length (spread z) ≡ suc k
spread_wide k z h = length-homogenised k z (neg_ℚ (sum_ℚ z)) h

lifted : (k : ℕ) (ms : List ℚ) (vs : List (List ℚ)) → AreWide k vs → combination (suc k) ms (map spread vs) ≡ spread (combination k ms vs)
lifted k [] vs w = sym (spread-zeros k)
lifted k (m ∷ ms) [] w = sym (spread-zeros k)
lifted k (m ∷ ms) (v ∷ vs) w =
    ap₂ (λ a b. plus a b) (spread-scaled m v) (lifted k ms vs (wide-tail k v vs w))
    ∙ spread-plus (scaled m v) (combination k ms vs) (length-scaled m v ∙ wide-head k v vs w ∙ sym (length-combination k ms vs (wide-tail k v vs w)))

lift_hull : (k : ℕ) (ps ds ls : List (List ℚ)) (z : List ℚ) → AreWide k ps → AreWide k ds → AreWide k ls → IsInHull k ps ds ls z →
    IsInHull (suc k) (map spread ps) (map spread ds) (map spread ls) (spread z)
lift_hull k ps ds ls z p d l h = record {
  weights = h.weights;
  shares = h.shares;
  slopes = h.slopes;
  weight_each = h.weight_each ∙ sym (length-map ps spread);
  share_each = h.share_each ∙ sym (length-map ds spread);
  slope_each = h.slope_each ∙ sym (length-map ls spread);
  weights_at_least_zero = h.weights_at_least_zero;
  shares_at_least_zero = h.shares_at_least_zero;
  weights_whole = h.weights_whole;
  combined =
      let a : List ℚ = combination k h.weights ps in
      let b : List ℚ = combination k h.shares ds in
      let c : List ℚ = combination k h.slopes ls in
      let b_width : length b ≡ k = length-combination k h.shares ds d in
      let c_width : length c ≡ k = length-combination k h.slopes ls l in
      ap spread h.combined
      ∙ sym (ap₂ (λ u v. plus u v) (lifted k h.weights ps p) (ap₂ (λ u v. plus u v) (lifted k h.shares ds d) (lifted k h.slopes ls l) ∙ spread-plus b c (b_width ∙ sym c_width))
      ∙ spread-plus a (plus b c) (length-combination k h.weights ps p ∙ sym (length-plus k b c b_width c_width)));
}

-- the vector that a front comes from
from_front : (k : ℕ) (vs : List (List ℚ)) → AreWide (suc k) vs → All IsLevel vs → (o : List ℚ) → Contains (fronts k vs) o →
    (v : List ℚ) × Contains vs v × (take k v ≡ o) × (spread o ≡ v)
from_front k vs w h o m =
    let s : (v : List ℚ) × Contains vs v × (take k v ≡ o) = Contains-map_source (take k) vs o m in (
      s.0,
      s.1,
      s.2,
      ap spread (sym s.2) ∙ spread_back k s.0 (member_of (HasWidth (suc k)) vs s.0 w.wide s.1) (member_of IsLevel vs s.0 h s.1),
    )

listed_wide : (k : ℕ) (vs others : List (List ℚ)) → AreWide k vs → All (Contains vs) others → AreWide k others
listed_wide k vs others w a = record { wide = all_of_members (HasWidth k) others (λ v m. member_of (HasWidth k) vs v w.wide (member_of (Contains vs) others v a m)) }

minus_is : (v : List ℚ) → negated v ≡ scaled (neg_ℚ one_ℚ) v
minus_is [] = refl
minus_is (x ∷ v) = ap₂ (λ a b. a ∷ b) (ring rationals (x ∷ []) (⊖ v0) (⊖ (num (pos 1)) ⊗ v0) refl) (minus_is v)

scaled-none : (c : ℚ) (n : ℕ) → scaled c (zeros n) ≡ zeros n
scaled-none c zero = refl
scaled-none c (suc n) = ap₂ (λ a b. a ∷ b) (mul_zero c) (scaled-none c n)

-- a positive multiple is 0 for 0 alone
none_of_multiple : (n : ℕ) (q : ℚ) (d : List ℚ) → length d ≡ n → zero_ℚ <ℚ q → scaled q d ≡ zeros n → d ≡ zeros n
none_of_multiple n q d w p e = same_wide n d (zeros n) w (length-zeros n)
    (λ r. product_zero q (dot r d) p (sym (dot-scaled r q d) ∙ ap (dot r) e ∙ dot-zeros r n) ∙ sym (dot-zeros r n))

dot_none : (ms : List ℚ) (vs : List (List ℚ)) (j : ℕ) → All (λ v. at v j ≡ zero_ℚ) vs → dot ms (map (λ v. at v j) vs) ≡ zero_ℚ
dot_none [] vs j h = refl
dot_none (m ∷ ms) [] j h = refl
dot_none (m ∷ ms) (v ∷ vs) j h =
    ap₂ (λ a b. m *ℚ a +ℚ b) (All-head (λ u. at u j ≡ zero_ℚ) v vs h) (dot_none ms vs j (All-tail (λ u. at u j ≡ zero_ℚ) v vs h))
    ∙ ap (λ q. q +ℚ zero_ℚ) (mul_zero m) ∙ add_zero zero_ℚ

-- ---- lines
one_at_place : (n : ℕ) (vs : List (List ℚ)) → IsEchelon n vs → (d e : List ℚ) → Contains vs d → Contains vs e → first d ≡ first e → d ≡ e
one_at_place n [] h d e d_in e_in same = absurd (Contains-nil d d_in)
one_at_place n (v ∷ vs) h d e d_in e_in same = go (Contains-cases v vs d d_in) (Contains-cases v vs e e_in) (one_at_place n vs (echelon-tail n v vs h) d e)
  where
    later : (w : List ℚ) → Contains vs w → first v ≡ first w → ⊥
    later w m q =
        let r = (member_of (ComesFirst v) vs w (pairs-head ComesFirst v vs h.pairs) m).rises in
        omega (arith, r, q)

    go : (v ≡ d) ⊎ Contains vs d → (v ≡ e) ⊎ Contains vs e → (Contains vs d → Contains vs e → first d ≡ first e → d ≡ e) → d ≡ e
    go (inl a) (inl b) again = sym a ∙ b
    go (inl a) (inr b) again = absurd (later e b (ap first a ∙ same))
    go (inr a) (inl b) again = absurd (later d a (ap first b ∙ sym same))
    go (inr a) (inr b) again = again a b same

module _ (n : ℕ) (lines : List (List ℚ)) (form : IsEchelon n lines) where
  -- what is left of a line is 0
  line_left : (l : List ℚ) → Contains lines l → reduction n lines l ≡ zeros n
  line_left l m = flat_is_zero n lines (reduction n lines l) form combined (flat_of lines (reduction n lines l) (reduction_flat n lines l form))
    where
      own : IsCombined n lines l
      own = member_combined n lines l form.wide m

      l_width : length l ≡ n
      l_width = member_of (HasWidth n) lines l form.wide.wide m

      combined : IsCombined n lines (reduction n lines l)
      combined = record {
        multipliers = plus own.multipliers (less_at lines l);
        one_each = length-plus (length lines) own.multipliers (less_at lines l) own.one_each (length-map lines _);
        combined = same_wide n (reduction n lines l) (combination n (plus own.multipliers (less_at lines l)) lines) (length-reduction n lines l form.wide l_width)
            (length-combination n (plus own.multipliers (less_at lines l)) lines form.wide)
            (λ r. dot-plus r l (combination n (less_at lines l) lines)
            ∙ ap₂ (λ a b. a +ℚ b) (ap (dot r) own.combined ∙ dot-combination n r own.multipliers lines) (dot-combination n r (less_at lines l) lines)
            ∙ sym (dot-combination n r (plus own.multipliers (less_at lines l)) lines ∙ dot-plus_left own.multipliers (less_at lines l) (values lines r)));
      }

  -- a reduced vector is its reduced parts
  without_lines : (v a b ms : List ℚ) → IsReduced lines v → IsReduced lines a → IsReduced lines b → length b ≡ n → length ms ≡ length lines →
      v ≡ plus a (plus b (combination n ms lines)) → v ≡ plus a b
  without_lines v a b ms v_flat a_flat b_flat b_width each same = same ∙ ap (λ w. plus a (plus b w)) none ∙ ap (plus a) (plus-zeros n b b_width)
    where
      x : List ℚ
      x = combination n ms lines

      flat : IsFlatAt lines x
      flat = all_of_members (λ d. at x (first d) ≡ zero_ℚ) lines (λ d m.
          let j : ℕ = first d in
          sym (zero_add (at x j)) ∙ ap (λ q. q +ℚ at x j) (sym (member_of (λ e. at b (first e) ≡ zero_ℚ) lines d (flat_of lines b b_flat) m))
          ∙ sym (at-plus b x j) ∙ sym (zero_add (at (plus b x) j))
          ∙ ap (λ q. q +ℚ at (plus b x) j) (sym (member_of (λ e. at a (first e) ≡ zero_ℚ) lines d (flat_of lines a a_flat) m))
          ∙ sym (at-plus a (plus b x) j) ∙ ap (λ w. at w j) (sym same)
          ∙ member_of (λ e. at v (first e) ≡ zero_ℚ) lines d (flat_of lines v v_flat) m)

      none : combination n ms lines ≡ zeros n
      none = flat_is_zero n lines x form (record { multipliers = ms; one_each = each; combined = refl }) flat

  reduced-combination : (ms : List ℚ) (vs : List (List ℚ)) → AreWide n vs → reduction n lines (combination n ms vs) ≡ combination n ms (map (reduction n lines) vs)
  reduced-combination [] vs w = reduction_same n lines (zeros n) form.wide (length-zeros n) (reduced_zeros lines n)
  reduced-combination (m ∷ ms) [] w = reduction_same n lines (zeros n) form.wide (length-zeros n) (reduced_zeros lines n)
  reduced-combination (m ∷ ms) (v ∷ vs) w =
      let v_width : length v ≡ n = wide-head n v vs w in
      reduction-plus n lines (scaled m v) (combination n ms vs) form.wide (length-scaled m v ∙ v_width) (length-combination n ms vs (wide-tail n v vs w))
      ∙ ap₂ (λ a b. plus a b) (reduction-scaled n lines m v form.wide v_width) (reduced-combination ms vs (wide-tail n v vs w))

-- ---- the projection
module _ (k : ℕ) (file made : Problem) (below : k ≤ file.cols) (s : IsAssociated k file made) (c : List ℚ) (lines points directions : List (List ℚ))
    (facets : List Inequality) (exact : IsExactFor made c lines points directions facets) where
  abbrev Members : List ℚ → Type 0
  Members = IsReducedIn lines (IsInWorkingImage made)

  abbrev Ways : List ℚ → Type 0
  Ways = IsReducedIn lines (IsWorkingDirection made)

  along : RunsAlong (suc k) (IsWorkingDirection made) lines
  along = working_along k file made below s lines exact.lines_are

  form : IsEchelon (suc k) lines
  form = echelon_of (suc k) lines along.echelon

  convex : IsConvex (suc k) (IsInWorkingImage made) (IsWorkingDirection made)
  convex = working_convex k file made below s

  part : IsConvex (suc k) Members Ways
  part = part_convex (suc k) (IsInWorkingImage made) (IsWorkingDirection made) lines convex along

  ps_wide : AreWide (suc k) points
  ps_wide = points_wide k file made below s c lines points directions facets exact

  ls_wide : AreWide (suc k) lines
  ls_wide = lines_wide k file made below s c lines points directions facets exact

  abbrev level_ds : List (List ℚ)
  level_ds = level_only directions

  ds_wide : AreWide (suc k) level_ds
  ds_wide = level_wide (suc k) directions (directions_wide k file made below s c lines points directions facets exact)

  ps_level : All IsLevel points
  ps_level = (levels k file made below s c lines points directions facets exact).points_level

  ls_level : All IsLevel lines
  ls_level = (levels k file made below s c lines points directions facets exact).lines_level

  ds_level : All IsLevel level_ds
  ds_level = all_of_members IsLevel level_ds (λ d m. (level_listed directions d m).1)

  abbrev Short : List ℚ → Type 0
  Short z = IsInHull k (fronts k points) (fronts k level_ds) (fronts k lines) z

  vertex : (y : List ℚ) → Contains points y → IsVertex Members y
  vertex y m = working_vertex k file made below s lines y ((exact.vertices y).0 m)

  extreme : (d : List ℚ) → Contains level_ds d → IsExtremeDirection (suc k) Ways d
  extreme d m = working_extreme k file made below s lines d ((exact.extreme d).0 (level_listed directions d m).0).0

  normed : (d : List ℚ) → Contains level_ds d → IsNormedDirection d
  normed d m = ((exact.extreme d).0 (level_listed directions d m).0).1

  lineal : (l : List ℚ) → Contains lines l → IsInLineality (IsWorkingDirection made) l
  lineal l m = member_of (IsInLineality (IsWorkingDirection made)) lines l along.each m

  -- what the image has in the slice, the hull has
  short_of : (z : List ℚ) → length z ≡ k → IsInWorkingImage made (spread z) → Short z
  short_of z width h = (projection_is_hull k file made c lines points directions facets below s exact z).0 (((projection_is_slice_of k file made below s).points z width).0 h)

  width_of : (vs : List (List ℚ)) → AreWide (suc k) vs → (o : List ℚ) → Contains (fronts k vs) o → length o ≡ k
  width_of vs w o m = member_of (HasWidth k) (fronts k vs) o (fronts_wide k vs w).wide m

  -- ---- points
  needs_point : (p : List ℚ) (others : List (List ℚ)) → Contains (fronts k points) p → AreOthers (fronts k points) others p →
      ((y : List ℚ) → Short y → IsInHull k others (fronts k level_ds) (fronts k lines) y) → ⊥
  needs_point p others p_in o h =
      let f : (v : List ℚ) × Contains points v × (take k v ≡ p) × (spread p ≡ v) = from_front k points ps_wide ps_level p p_in in
      let v : List ℚ = f.0 in
      let p_width : length p ≡ k = width_of points ps_wide p p_in in
      let short : Short p = short_of p p_width (subst (λ (w : List ℚ). IsInWorkingImage made w) (sym f.3) (vertex v f.1).member.member) in
      let others_wide : AreWide k others = listed_wide k (fronts k points) others (fronts_wide k points ps_wide) o.among in
      let high : IsInHull (suc k) (map spread others) (map spread (fronts k level_ds)) (map spread (fronts k lines)) (spread p) =
      lift_hull k others (fronts k level_ds) (fronts k lines) p others_wide (fronts_wide k level_ds ds_wide) (fronts_wide k lines ls_wide) (h p short) in
      let found : Contains (map spread others) v = listed others o.among v (vertex v f.1)
      (subst (λ (w : List ℚ). IsInHull (suc k) (map spread others) level_ds lines w) f.3
      (subst (λ (ls : List (List ℚ)). IsInHull (suc k) (map spread others) level_ds ls (spread p)) (back_all k lines ls_wide ls_level)
      (subst (λ (ds : List (List ℚ)). IsInHull (suc k) (map spread others) ds (map spread (fronts k lines)) (spread p)) (back_all k level_ds ds_wide ds_level) high))) in
      let g : (u : List ℚ) × Contains others u × (spread u ≡ v) = Contains-map_source spread others v found in
      let u_width : length g.0 ≡ k = member_of (HasWidth k) others g.0 others_wide.wide g.1 in
      let same : g.0 ≡ p = sym (take-front k g.0 (neg_ℚ (sum_ℚ g.0)) u_width) ∙ ap (take k) g.2 ∙ f.2 in
      o.left_out (subst (λ (w : List ℚ). Contains others w) same g.1)
    where
      listed : (others : List (List ℚ)) → All (Contains (fronts k points)) others → (v : List ℚ) → IsVertex Members v →
          IsInHull (suc k) (map spread others) level_ds lines v → Contains (map spread others) v
      listed others among v v_vertex h =
          let us : List (List ℚ) = map spread others in
          let us_in : All Members us = all_of_members Members us (λ u m.
          let a : (x : List ℚ) × Contains others x × (spread x ≡ u) = Contains-map_source spread others u m in
          let b : (w : List ℚ) × Contains points w × (take k w ≡ a.0) × (spread a.0 ≡ w) = from_front k points ps_wide ps_level a.0
          (member_of (Contains (fronts k points)) others a.0 among a.1) in
          subst (λ (w : List ℚ). Members w) (sym b.3 ∙ a.2) (vertex b.0 b.1).member) in
          let ways : All Ways level_ds = all_of_members Ways level_ds (λ d m. (extreme d m).member) in
          let mean : Members (combination (suc k) h.weights us) = mean_in (suc k) Members Ways part us us_in h.weights h.weight_each h.weights_at_least_zero h.weights_whole in
          let way : Ways (combination (suc k) h.shares level_ds) = directions_sum (suc k) Members Ways part h.shares level_ds h.shares_at_least_zero ways in
          vertex_listed (suc k) Members Ways part us us_in v v_vertex h.weights h.shares level_ds h.weight_each h.weights_at_least_zero h.weights_whole
          h.shares_at_least_zero ways
          (without_lines (suc k) lines form v (combination (suc k) h.weights us) (combination (suc k) h.shares level_ds) h.slopes v_vertex.member.reduced mean.reduced way.reduced
          (length-combination (suc k) h.shares level_ds ds_wide) h.slope_each h.combined)

  -- ---- directions
  needs_direction : (p d : List ℚ) (others : List (List ℚ)) → Contains (fronts k points) p → Contains (fronts k level_ds) d → AreOthers (fronts k level_ds) others d →
      ((y : List ℚ) → Short y → IsInHull k (fronts k points) others (fronts k lines) y) → ⊥
  needs_direction p d others p_in d_in o h = final (cases source.0 source.1)
    where
      from_p : (v : List ℚ) × Contains points v × (take k v ≡ p) × (spread p ≡ v)
      from_p = from_front k points ps_wide ps_level p p_in

      from_d : (v : List ℚ) × Contains level_ds v × (take k v ≡ d) × (spread d ≡ v)
      from_d = from_front k level_ds ds_wide ds_level d d_in

      p_width : length p ≡ k
      p_width = width_of points ps_wide p p_in

      d_width : length d ≡ k
      d_width = width_of level_ds ds_wide d d_in

      others_wide : AreWide k others
      others_wide = listed_wide k (fronts k level_ds) others (fronts_wide k level_ds ds_wide) o.among

      short_wide : AreWide k (fronts k lines)
      short_wide = fronts_wide k lines ls_wide

      onward : (t : ℚ) → zero_ℚ ≤ℚ t → IsInHull k (fronts k points) others (fronts k lines) (plus p (scaled t d))
      onward t t_nonneg =
          let z : List ℚ = plus p (scaled t d) in
          let same : spread z ≡ plus from_p.0 (scaled t from_d.0) =
          sym (spread-plus p (scaled t d) (p_width ∙ sym (length-scaled t d ∙ d_width))) ∙ ap₂ (λ a b. plus a b) from_p.3 (sym (spread-scaled t d) ∙ ap (scaled t) from_d.3) in
          h z (short_of z (length-plus k p (scaled t d) p_width (length-scaled t d ∙ d_width))
          (subst (λ (w : List ℚ). IsInWorkingImage made w) (sym same)
          (convex.recedes from_p.0 (scaled t from_d.0) (vertex from_p.0 from_p.1).member.member
          (convex.direction_multiple t from_d.0 t_nonneg (extreme from_d.0 from_d.1).member.member))))

      all : List (List ℚ)
      all = others ++ (fronts k lines ++ map negated (fronts k lines))

      low : IsGenerated k (others ++ (fronts k lines ++ map negated (fronts k lines))) d
      low = recedes_among k (fronts k points) others (fronts k lines) others_wide short_wide p d p_in d_width onward

      -- a line and its negative
      minus_line : (l : List ℚ) → Contains (fronts k lines) l → (v : List ℚ) × Contains lines v × (spread (negated l) ≡ scaled (neg_ℚ one_ℚ) v)
      minus_line l m =
          let f : (v : List ℚ) × Contains lines v × (take k v ≡ l) × (spread l ≡ v) = from_front k lines ls_wide ls_level l m in
          (f.0, f.1, ap spread (minus_is l) ∙ sym (spread-scaled (neg_ℚ one_ℚ) l) ∙ ap (scaled (neg_ℚ one_ℚ)) f.3)

      cases : (u : List ℚ) → Contains (others ++ (fronts k lines ++ map negated (fronts k lines))) u →
          ((e : List ℚ) × Contains others u × Contains level_ds e × (take k e ≡ u) × (spread u ≡ e))
          ⊎ ((l : List ℚ) × Contains lines l × ((spread u ≡ l) ⊎ (spread u ≡ scaled (neg_ℚ one_ℚ) l)))
      cases u m = go (Contains-append_cases others (fronts k lines ++ map negated (fronts k lines)) u m)
        where
          go : Contains others u ⊎ Contains (fronts k lines ++ map negated (fronts k lines)) u →
              ((e : List ℚ) × Contains others u × Contains level_ds e × (take k e ≡ u) × (spread u ≡ e))
              ⊎ ((l : List ℚ) × Contains lines l × ((spread u ≡ l) ⊎ (spread u ≡ scaled (neg_ℚ one_ℚ) l)))
          go (inl a) =
              let f = from_front k level_ds ds_wide ds_level u (member_of (Contains (fronts k level_ds)) others u o.among a) in
              inl (f.0, a, f.1, f.2, f.3)
          go (inr b) = by (Contains-append_cases (fronts k lines) (map negated (fronts k lines)) u b)
            where
              by : Contains (fronts k lines) u ⊎ Contains (map negated (fronts k lines)) u →
                  ((e : List ℚ) × Contains others u × Contains level_ds e × (take k e ≡ u) × (spread u ≡ e))
                  ⊎ ((l : List ℚ) × Contains lines l × ((spread u ≡ l) ⊎ (spread u ≡ scaled (neg_ℚ one_ℚ) l)))
              by (inl a) = let f = from_front k lines ls_wide ls_level u a in inr (f.0, f.1, inl f.3)
              by (inr a) =
                  let x : (l : List ℚ) × Contains (fronts k lines) l × (negated l ≡ u) = Contains-map_source negated (fronts k lines) u a in
                  let f = minus_line x.0 x.1 in
                  inr (f.0, f.1, inr (ap spread (sym x.2) ∙ f.2))

      all_wide : AreWide k (others ++ (fronts k lines ++ map negated (fronts k lines)))
      all_wide = record {
        wide = All-append (HasWidth k) others (fronts k lines ++ map negated (fronts k lines)) others_wide.wide
            (All-append (HasWidth k) (fronts k lines) (map negated (fronts k lines)) short_wide.wide
            (wide-map k negated (fronts k lines) (λ v e. length-negated v ∙ e) short_wide).wide);
      }

      high_ways : (w : List ℚ) → Contains (map spread all) w → IsWorkingDirection made w
      high_ways w m = by (cases a.0 a.1)
        where
          a : (u : List ℚ) × Contains (others ++ (fronts k lines ++ map negated (fronts k lines))) u × (spread u ≡ w)
          a = Contains-map_source spread (others ++ (fronts k lines ++ map negated (fronts k lines))) w m

          by : ((e : List ℚ) × Contains others a.0 × Contains level_ds e × (take k e ≡ a.0) × (spread a.0 ≡ e))
              ⊎ ((l : List ℚ) × Contains lines l × ((spread a.0 ≡ l) ⊎ (spread a.0 ≡ scaled (neg_ℚ one_ℚ) l))) → IsWorkingDirection made w
          by (inl b) = subst (λ (v : List ℚ). IsWorkingDirection made v) (sym b.4 ∙ a.2) (extreme b.0 b.2).member.member
          by (inr (l, l_in, inl q)) = subst (λ (v : List ℚ). IsWorkingDirection made v) (sym q ∙ a.2) (lineal l l_in).forth
          by (inr (l, l_in, inr q)) = subst (λ (v : List ℚ). IsWorkingDirection made v) (minus_is l ∙ sym q ∙ a.2) (lineal l l_in).back

      high_wide : AreWide (suc k) (map spread all)
      high_wide = record { wide = all_of_members (HasWidth (suc k)) (map spread all) (λ w m. convex.directions_wide w (high_ways w m)) }

      left : List (List ℚ)
      left = map (reduction (suc k) lines) (map spread all)

      left_ways : All Ways left
      left_ways = all_of_members Ways left (λ g m.
          let a : (w : List ℚ) × Contains (map spread all) w × (reduction (suc k) lines w ≡ g) = Contains-map_source (reduction (suc k) lines) (map spread all) g m in
          subst (λ (v : List ℚ). Ways v) a.2
          (reduction_directs (suc k) (IsInWorkingImage made) (IsWorkingDirection made) lines convex along a.0 (high_ways a.0 a.1)))

      d_extreme : IsExtremeDirection (suc k) Ways from_d.0
      d_extreme = extreme from_d.0 from_d.1

      d_wide : length from_d.0 ≡ suc k
      d_wide = member_of (HasWidth (suc k)) level_ds from_d.0 ds_wide.wide from_d.1

      high : IsGenerated (suc k) left from_d.0
      high = record {
        multipliers = low.multipliers;
        one_each = low.one_each ∙ sym (length-map all spread) ∙ sym (length-map (map spread all) (reduction (suc k) lines));
        at_least_zero = low.at_least_zero;
        combined = sym (reduction_same (suc k) lines from_d.0 ls_wide d_wide d_extreme.member.reduced)
            ∙ ap (reduction (suc k) lines) (sym from_d.3 ∙ ap spread low.combined ∙ sym (lifted k low.multipliers all all_wide))
            ∙ reduced-combination (suc k) lines form low.multipliers (map spread all) high_wide;
      }

      among : IsAmong left from_d.0
      among = extreme_among (suc k) Members Ways part left left_ways from_d.0 d_extreme high

      reduced_source : (w : List ℚ) × Contains (map spread all) w × (reduction (suc k) lines w ≡ among.one)
      reduced_source = Contains-map_source (reduction (suc k) lines) (map spread all) among.one among.listed

      source : (u : List ℚ) × Contains (others ++ (fronts k lines ++ map negated (fronts k lines))) u × (spread u ≡ reduced_source.0)
      source = Contains-map_source spread (others ++ (fronts k lines ++ map negated (fronts k lines))) reduced_source.0 reduced_source.1

      multiple : reduction (suc k) lines (spread source.0) ≡ scaled among.factor from_d.0
      multiple = ap (reduction (suc k) lines) source.2 ∙ reduced_source.2 ∙ among.same

      final : ((e : List ℚ) × Contains others source.0 × Contains level_ds e × (take k e ≡ source.0) × (spread source.0 ≡ e))
          ⊎ ((l : List ℚ) × Contains lines l × ((spread source.0 ≡ l) ⊎ (spread source.0 ≡ scaled (neg_ℚ one_ℚ) l))) → ⊥
      final (inl b) =
          let e : List ℚ = b.0 in
          let e_multiple : e ≡ scaled among.factor from_d.0 =
          sym (reduction_same (suc k) lines e ls_wide (member_of (HasWidth (suc k)) level_ds e ds_wide.wide b.2) (extreme e b.2).member.reduced)
          ∙ ap (reduction (suc k) lines) (sym b.4) ∙ multiple in
          let same : e ≡ from_d.0 = same_normed among.factor from_d.0 e among.positive e_multiple (normed from_d.0 from_d.1) (normed e b.2) in
          o.left_out (subst (λ (v : List ℚ). Contains others v) (sym b.3 ∙ ap (take k) same ∙ from_d.2) b.1)
      final (inr (l, l_in, inl q)) = d_extreme.not_zero (none_of_multiple (suc k) among.factor from_d.0 d_wide among.positive
          (sym multiple ∙ ap (reduction (suc k) lines) q ∙ line_left (suc k) lines form l l_in))
      final (inr (l, l_in, inr q)) = d_extreme.not_zero (none_of_multiple (suc k) among.factor from_d.0 d_wide among.positive
          (sym multiple ∙ ap (reduction (suc k) lines) q
          ∙ reduction-scaled (suc k) lines (neg_ℚ one_ℚ) l ls_wide (member_of (HasWidth (suc k)) lines l ls_wide.wide l_in)
          ∙ ap (scaled (neg_ℚ one_ℚ)) (line_left (suc k) lines form l l_in) ∙ scaled-none (neg_ℚ one_ℚ) (suc k)))

  -- ---- lines: at the place of a line all others are 0
  needs_line : (p l : List ℚ) (others : List (List ℚ)) → Contains (fronts k points) p → Contains (fronts k lines) l → AreOthers (fronts k lines) others l →
      ((y : List ℚ) → Short y → IsInHull k (fronts k points) (fronts k level_ds) others y) → ⊥
  needs_line p l others p_in l_in o h = one-not-zero (sym seen ∙ unseen)
    where
      from_p : (v : List ℚ) × Contains points v × (take k v ≡ p) × (spread p ≡ v)
      from_p = from_front k points ps_wide ps_level p p_in

      from_l : (v : List ℚ) × Contains lines v × (take k v ≡ l) × (spread l ≡ v)
      from_l = from_front k lines ls_wide ls_level l l_in

      j : ℕ
      j = first from_l.0

      p_width : length p ≡ k
      p_width = width_of points ps_wide p p_in

      l_width : length l ≡ k
      l_width = width_of lines ls_wide l l_in

      z : List ℚ
      z = plus p (scaled one_ℚ l)

      z_is : spread (plus p (scaled one_ℚ l)) ≡ plus from_p.0 (scaled one_ℚ from_l.0)
      z_is = sym (spread-plus p (scaled one_ℚ l) (p_width ∙ sym (length-scaled one_ℚ l ∙ l_width)))
          ∙ ap₂ (λ a b. plus a b) from_p.3 (sym (spread-scaled one_ℚ l) ∙ ap (scaled one_ℚ) from_l.3)

      others_wide : AreWide k others
      others_wide = listed_wide k (fronts k lines) others (fronts_wide k lines ls_wide) o.among

      far : IsInHull k (fronts k points) (fronts k level_ds) others (plus p (scaled one_ℚ l))
      far = h (plus p (scaled one_ℚ l)) (short_of (plus p (scaled one_ℚ l)) (length-plus k p (scaled one_ℚ l) p_width (length-scaled one_ℚ l ∙ l_width))
          (subst (λ (w : List ℚ). IsInWorkingImage made w) (sym z_is)
          (convex.recedes from_p.0 (scaled one_ℚ from_l.0) (vertex from_p.0 from_p.1).member.member
          (convex.direction_multiple one_ℚ from_l.0 (le_of_lt zero_ℚ one_ℚ zero_lt_one) (lineal from_l.0 from_l.1).forth))))

      high : IsInHull (suc k) (map spread (fronts k points)) (map spread (fronts k level_ds)) (map spread others) (spread (plus p (scaled one_ℚ l)))
      high = lift_hull k (fronts k points) (fronts k level_ds) others (plus p (scaled one_ℚ l)) (fronts_wide k points ps_wide) (fronts_wide k level_ds ds_wide) others_wide far

      flat_at : (v : List ℚ) → IsReduced lines v → at v (first from_l.0) ≡ zero_ℚ
      flat_at v r = member_of (λ d. at v (first d) ≡ zero_ℚ) lines from_l.0 (flat_of lines v r) from_l.1

      at_points : All (λ v. at v (first from_l.0) ≡ zero_ℚ) (map spread (fronts k points))
      at_points = subst (λ (vs : List (List ℚ)). All (λ v. at v (first from_l.0) ≡ zero_ℚ) vs) (sym (back_all k points ps_wide ps_level))
          (all_of_members (λ v. at v (first from_l.0) ≡ zero_ℚ) points (λ v m. flat_at v (vertex v m).member.reduced))

      at_directions : All (λ v. at v (first from_l.0) ≡ zero_ℚ) (map spread (fronts k level_ds))
      at_directions = subst (λ (vs : List (List ℚ)). All (λ v. at v (first from_l.0) ≡ zero_ℚ) vs) (sym (back_all k level_ds ds_wide ds_level))
          (all_of_members (λ v. at v (first from_l.0) ≡ zero_ℚ) level_ds (λ v m. flat_at v (extreme v m).member.reduced))

      at_others : All (λ v. at v (first from_l.0) ≡ zero_ℚ) (map spread others)
      at_others = all_of_members (λ v. at v (first from_l.0) ≡ zero_ℚ) (map spread others) (λ v m.
          let a : (u : List ℚ) × Contains others u × (spread u ≡ v) = Contains-map_source spread others v m in
          let f : (w : List ℚ) × Contains lines w × (take k w ≡ a.0) × (spread a.0 ≡ w) = from_front k lines ls_wide ls_level a.0
          (member_of (Contains (fronts k lines)) others a.0 o.among a.1) in
          ap (λ w. at w (first from_l.0)) (sym a.2 ∙ f.3)
          ∙ others_off (suc k) lines form f.0 from_l.0 f.1 from_l.1 (λ e.
          o.left_out (subst (λ (w : List ℚ). Contains others w)
          (sym f.2 ∙ ap (take k) (one_at_place (suc k) lines form f.0 from_l.0 f.1 from_l.1 e) ∙ from_l.2) a.1)))

      sum_at : (ms : List ℚ) (vs : List (List ℚ)) → All (λ v. at v (first from_l.0) ≡ zero_ℚ) vs → at (combination (suc k) ms vs) (first from_l.0) ≡ zero_ℚ
      sum_at ms vs a = at-combination (suc k) ms vs (first from_l.0) ∙ dot_none ms vs (first from_l.0) a

      unseen : at (spread (plus p (scaled one_ℚ l))) (first from_l.0) ≡ zero_ℚ
      unseen =
          let x : List ℚ = combination (suc k) high.weights (map spread (fronts k points)) in
          let y : List ℚ = combination (suc k) high.shares (map spread (fronts k level_ds)) in
          let w : List ℚ = combination (suc k) high.slopes (map spread others) in
          ap (λ v. at v (first from_l.0)) high.combined ∙ at-plus x (plus y w) (first from_l.0)
          ∙ ap₂ (λ a b. a +ℚ b) (sum_at high.weights (map spread (fronts k points)) at_points)
          (at-plus y w (first from_l.0) ∙ ap₂ (λ a b. a +ℚ b) (sum_at high.shares (map spread (fronts k level_ds)) at_directions) (sum_at high.slopes (map spread others) at_others)
          ∙ add_zero zero_ℚ)
          ∙ add_zero zero_ℚ

      seen : at (spread (plus p (scaled one_ℚ l))) (first from_l.0) ≡ one_ℚ
      seen = ap (λ v. at v (first from_l.0)) z_is ∙ at-plus from_p.0 (scaled one_ℚ from_l.0) (first from_l.0)
          ∙ ap₂ (λ a b. a +ℚ b) (flat_at from_p.0 (vertex from_p.0 from_p.1).member.reduced)
          (at-scaled one_ℚ from_l.0 (first from_l.0) ∙ ap (λ q. one_ℚ *ℚ q) (member_of IsOne lines from_l.0 form.ones from_l.1) ∙ mul_one one_ℚ)
          ∙ zero_add one_ℚ

  pub none_is_too_much : NoneIsTooMuch k (fronts k points) (fronts k level_ds) (fronts k lines)
  none_is_too_much = record { point = needs_point; direction = needs_direction; line = needs_line }
