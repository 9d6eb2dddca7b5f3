-- Vectors followed by minus their sum, and the slice of an image and of a hull where the entries
-- sum to 0.
use Rattle.std.proofs.Common.{◌≡◌, ℕ, zero, suc, ◌≤◌, List, [], ◌∷◌, map, length, take, All, refl, sym, ap, ap₂, ◌∙◌, subst, arith}
use Rattle.std.proofs.lemmas.List.{length-map, length-take-le}
use Rattle.std.proofs.lemmas.List.Elements.{All-head, All-tail, All-map, All-weaker}
use Rattle.exact_field.specs.Rational.{ℚ, zero_ℚ, ◌+ℚ◌, neg_ℚ, ◌≤ℚ◌}
use Rattle.exact_field.specs.Vector.{dot, sum_ℚ}
use Rattle.exact_field.specs.Ring.{v0, v1, v2, v3, ◌⊕◌, ◌⊝◌, ⊖}
use Rattle.exact_field.proofs.RingTool.{ring}
use Rattle.exact_field.proofs.Rationals.{rationals}
use Rattle.exact_field.proofs.Sums.{sum-scaled, sum-append}
use Rattle.exact_field.proofs.Comparison.{same_ℚ-is}
use Rattle.exact_field.specs.Order.{same_ℚ}
use Rattle.polyhedra.specs.Vectors.{AreWide, zeros, plus, scaled, values, combination, AtLeastZero}
use Rattle.polyhedra.specs.Hull.{IsInHull, IsConvex, IsVertex}
use Rattle.polyhedra.specs.Image.{IsImage}
use Rattle.polyhedra.specs.Exactness.{homogenised}
use Rattle.polyhedra.specs.Negatives.{negated}
use Rattle.polyhedra.proofs.Laws.{add_zero, add_neg}
use Rattle.polyhedra.proofs.Algebra.{zero_add, one_mul, mul_neg, neg_zero}
use Rattle.polyhedra.proofs.Order.{add_zero_left, add_zero_right}
use Rattle.polyhedra.proofs.Linear.{dot-plus, length-plus, length-scaled, length-zeros, length-combination, same_wide}
use Rattle.polyhedra.proofs.Lists.{HasWidth, nonneg-head, nonneg-tail, wide-head, wide-tail}
use Rattle.polyhedra.proofs.Members.{all_of_members, member_of, Contains-filter_source}
use Rattle.polyhedra.proofs.Cones.{sum_nonneg}
use Rattle.polyhedra.proofs.Homogenised.{plus-homogenised, scaled-homogenised, zeros-homogenised, homogenised-same, IsHomogenised, unhomogenised, length-homogenised}
use Rattle.polyhedra.proofs.Image.{image_is_convex}
use Rattle.lineality.specs.Lines.{IsInLineality, RunsAlong, IsReducedIn, reduction}
use Rattle.lineality.proofs.Echelon.{IsEchelon, echelon_of}
use Rattle.lineality.proofs.Reduction.{length-reduction, level_reduction, reduction_same, reduction-plus, reduced_plus, reduction_in}
use Rattle.representations.specs.Faces.{at_value}
use Rattle.representations.specs.Projection.{spread, ones, IsProjection, AreAssociated, IsNonnegativeCone, ProjectionIsSlice, ImageIsAbove, SliceOfHull, LinesAreInSlice, VerticesAreInSlice}
use Rattle.representations.proofs.Faces.{face_of_hull}
use Rattle.representations.proofs.Pinned.{both_ways}

-- ---- sums
pub sum-plus : (u v : List ℚ) → sum_ℚ (plus u v) ≡ sum_ℚ u +ℚ sum_ℚ v
sum-plus [] v = sym (zero_add (sum_ℚ v))
sum-plus (x ∷ u) [] = sym (add_zero (x +ℚ sum_ℚ u))
sum-plus (x ∷ u) (y ∷ v) = ap (λ q. (x +ℚ y) +ℚ q) (sum-plus u v)
    ∙ ring rationals (x ∷ y ∷ sum_ℚ u ∷ sum_ℚ v ∷ []) ((v0 ⊕ v1) ⊕ (v2 ⊕ v3)) ((v0 ⊕ v2) ⊕ (v1 ⊕ v3)) refl

pub sum-zeros : (n : ℕ) → sum_ℚ (zeros n) ≡ zero_ℚ
sum-zeros zero = refl
sum-zeros (suc n) = zero_add (sum_ℚ (zeros n)) ∙ sum-zeros n

pub ones-dot : (n : ℕ) (v : List ℚ) → length v ≡ n → dot (ones n) v ≡ sum_ℚ v
ones-dot zero [] h = refl
ones-dot zero (x ∷ v) h = absurd (omega arith)
ones-dot (suc n) [] h = absurd (omega arith)
ones-dot (suc n) (x ∷ v) h = ap₂ (λ a b. a +ℚ b) (one_mul x) (ones-dot n v (omega arith))

-- numbers of at least 0 that sum to 0 are 0
nothing : (n : ℕ) (d : List ℚ) → length d ≡ n → AtLeastZero d → sum_ℚ d ≡ zero_ℚ → d ≡ zeros n
nothing zero [] l h e = refl
nothing zero (x ∷ d) l h e = absurd (omega arith)
nothing (suc n) [] l h e = absurd (omega arith)
nothing (suc n) (x ∷ d) l h e =
    let rest : zero_ℚ ≤ℚ sum_ℚ d = sum_nonneg d (nonneg-tail x d h) in
    ap₂ (λ a b. a ∷ b) (add_zero_left x (sum_ℚ d) (nonneg-head x d h) rest e)
    (nothing n d (omega arith) (nonneg-tail x d h) (add_zero_right x (sum_ℚ d) (nonneg-head x d h) rest e))

plus-zeros : (n : ℕ) (v : List ℚ) → length v ≡ n → plus v (zeros n) ≡ v
plus-zeros zero [] h = refl
plus-zeros zero (x ∷ v) h = absurd (omega arith)
plus-zeros (suc n) [] h = absurd (omega arith)
plus-zeros (suc n) (x ∷ v) h = ap₂ (λ a b. a ∷ b) (add_zero x) (plus-zeros n v (omega arith))

-- ---- vectors followed by minus their sum
pub spread-sum : (z : List ℚ) → sum_ℚ (spread z) ≡ zero_ℚ
spread-sum z = sum-append z (neg_ℚ (sum_ℚ z) ∷ []) ∙ ap (λ q. sum_ℚ z +ℚ q) (add_zero (neg_ℚ (sum_ℚ z))) ∙ add_neg (sum_ℚ z)

pub spread-plus : (a b : List ℚ) → length a ≡ length b → plus (spread a) (spread b) ≡ spread (plus a b)
spread-plus a b h = plus-homogenised a b (neg_ℚ (sum_ℚ a)) (neg_ℚ (sum_ℚ b)) h
    ∙ ap (λ t. homogenised (plus a b) t) (ring rationals (sum_ℚ a ∷ sum_ℚ b ∷ []) (⊖ v0 ⊕ ⊖ v1) (⊖ (v0 ⊕ v1)) refl ∙ ap neg_ℚ (sym (sum-plus a b)))

pub spread-scaled : (c : ℚ) (a : List ℚ) → scaled c (spread a) ≡ spread (scaled c a)
spread-scaled c a = scaled-homogenised c a (neg_ℚ (sum_ℚ a)) ∙ ap (λ t. homogenised (scaled c a) t) (mul_neg c (sum_ℚ a) ∙ ap neg_ℚ (sym (sum-scaled c a)))

spread-zeros : (k : ℕ) → zeros (suc k) ≡ spread (zeros k)
spread-zeros k = zeros-homogenised k ∙ ap (λ t. homogenised (zeros k) t) (sym (ap neg_ℚ (sum-zeros k) ∙ neg_zero))

spread-same : (a b : List ℚ) → spread a ≡ spread b → a ≡ b
spread-same a b e = (homogenised-same a b (neg_ℚ (sum_ℚ a)) (neg_ℚ (sum_ℚ b)) e).0

take-front : (k : ℕ) (f : List ℚ) (t : ℚ) → length f ≡ k → take k (homogenised f t) ≡ f
take-front zero [] t h = refl
take-front zero (x ∷ f) t h = absurd (omega arith)
take-front (suc k) [] t h = absurd (omega arith)
take-front (suc k) (x ∷ f) t h = ap (λ w. x ∷ w) (take-front k f t (omega arith))

take-width : (k : ℕ) (v : List ℚ) → length v ≡ suc k → length (take k v) ≡ k
take-width k v h = length-take-le k v (omega arith)

-- a vector with the sum 0 is its front, followed by minus its sum
unspread : (k : ℕ) (v : List ℚ) → length v ≡ suc k → sum_ℚ v ≡ zero_ℚ → v ≡ spread (take k v)
unspread k v h e = go (unhomogenised k v h)
  where
    go : IsHomogenised k v → v ≡ spread (take k v)
    go u =
        let front : take k v ≡ u.front = ap (take k) u.same ∙ take-front k u.front u.last u.wide in
        let both : sum_ℚ u.front +ℚ u.last ≡ zero_ℚ =
        ap (λ q. sum_ℚ u.front +ℚ q) (sym (add_zero u.last)) ∙ sym (sum-append u.front (u.last ∷ [])) ∙ ap sum_ℚ (sym u.same) ∙ e in
        let last : u.last ≡ neg_ℚ (sum_ℚ u.front) =
        ring rationals (sum_ℚ u.front ∷ u.last ∷ []) v1 ((v0 ⊕ v1) ⊝ v0) refl ∙ ap (λ q. q +ℚ neg_ℚ (sum_ℚ u.front)) both ∙ zero_add (neg_ℚ (sum_ℚ u.front)) in
        u.same ∙ ap (λ t. homogenised u.front t) last ∙ ap spread (sym front)

-- ---- the image
module _ (Cone : List ℚ → Type 0) (n k : ℕ) (rows : List (List ℚ)) (rights : List ℚ) (objectives : List (List ℚ))
    (associated : AreAssociated n k objectives) (cone : IsNonnegativeCone (suc k) Cone) where
  image_sum : (y : List ℚ) (i : IsImage n rows rights objectives Cone y) → sum_ℚ y ≡ sum_ℚ i.beyond
  image_sum y i = ap sum_ℚ i.same ∙ sum-plus (values objectives i.solution) i.beyond
      ∙ ap (λ q. q +ℚ sum_ℚ i.beyond) (ap sum_ℚ (associated i.solution i.wide) ∙ spread-sum (take k i.solution)) ∙ zero_add (sum_ℚ i.beyond)

  above : (y : List ℚ) → IsImage n rows rights objectives Cone y → zero_ℚ ≤ℚ sum_ℚ y
  above y i = subst (λ (q : ℚ). zero_ℚ ≤ℚ q) (sym (image_sum y i)) (sum_nonneg i.beyond (cone.at_least_zero i.beyond i.in_cone))

  module _ (below : k ≤ n) where
    front_width : (x : List ℚ) → length x ≡ n → length (take k x) ≡ k
    front_width x h = length-take-le k x (omega arith)

    slice_out : (z : List ℚ) → length z ≡ k → IsImage n rows rights objectives Cone (spread z) → IsProjection n k rows rights z
    slice_out z width i =
        let none : i.beyond ≡ zeros (suc k) = nothing (suc k) i.beyond (cone.wide i.beyond i.in_cone) (cone.at_least_zero i.beyond i.in_cone)
        (sym (image_sum (spread z) i) ∙ spread-sum z) in
        let same : spread z ≡ spread (plus (take k i.solution) (zeros k)) =
        i.same ∙ ap₂ (λ u v. plus u v) (associated i.solution i.wide) (none ∙ spread-zeros k)
        ∙ spread-plus (take k i.solution) (zeros k) (front_width i.solution i.wide ∙ sym (length-zeros k)) in
        record {
          solution = i.solution;
          wide = i.wide;
          meets = i.meets;
          begins = sym (plus-zeros k (take k i.solution) (front_width i.solution i.wide))
              ∙ sym (spread-same z (plus (take k i.solution) (zeros k)) same);
        }

    slice_in : (z : List ℚ) → length z ≡ k → IsProjection n k rows rights z → IsImage n rows rights objectives Cone (spread z)
    slice_in z width p = record {
      solution = p.solution;
      wide = p.wide;
      meets = p.meets;
      beyond = zeros (suc k);
      in_cone = cone.zero;
      same = ap spread (sym p.begins) ∙ sym (associated p.solution p.wide)
          ∙ sym (plus-zeros (suc k) (values objectives p.solution) (ap length (associated p.solution p.wide)
          ∙ length-homogenised k (take k p.solution) (neg_ℚ (sum_ℚ (take k p.solution))) (front_width p.solution p.wide)));
    }

pub projection_is_slice : (Cone : List ℚ → Type 0) → ProjectionIsSlice Cone
projection_is_slice Cone n k rows rights objectives below associated cone z width =
    (slice_out Cone n k rows rights objectives associated cone below z width, slice_in Cone n k rows rights objectives associated cone below z width)

pub image_is_above : (Cone : List ℚ → Type 0) → ImageIsAbove Cone
image_is_above Cone n k rows rights objectives associated cone y i = above Cone n k rows rights objectives associated cone y i

-- ---- lines
sum-negated : (v : List ℚ) → sum_ℚ (negated v) ≡ neg_ℚ (sum_ℚ v)
sum-negated [] = sym neg_zero
sum-negated (x ∷ v) = ap (λ q. neg_ℚ x +ℚ q) (sum-negated v) ∙ ring rationals (x ∷ sum_ℚ v ∷ []) (⊖ v0 ⊕ ⊖ v1) (⊖ (v0 ⊕ v1)) refl

pub lines_are_in_slice : (Cone : List ℚ → Type 0) → LinesAreInSlice Cone
lines_are_in_slice Cone n k rows rights objectives associated cone d h =
    both_ways (sum_ℚ d) (above Cone n k rows rights objectives associated cone d h.forth)
    (subst (λ (q : ℚ). zero_ℚ ≤ℚ q) (sum-negated d) (above Cone n k rows rights objectives associated cone (negated d) h.back))

-- ---- vertices
module _ (Cone : List ℚ → Type 0) (n k : ℕ) (rows : List (List ℚ)) (rights : List ℚ) (objectives : List (List ℚ)) (many : length objectives ≡ suc k)
    (associated : AreAssociated n k objectives) (cone : IsNonnegativeCone (suc k) Cone) (lines : List (List ℚ))
    (along : RunsAlong (suc k) (IsImage n rows (zeros (length rows)) objectives Cone) lines) where
  abbrev Image : List ℚ → Type 0
  Image = IsImage n rows rights objectives Cone

  abbrev Directions : List ℚ → Type 0
  Directions = IsImage n rows (zeros (length rows)) objectives Cone

  convex : IsConvex (suc k) Image Directions
  convex = image_is_convex Cone n (suc k) rows rights objectives many cone.convex

  form : IsEchelon (suc k) lines
  form = echelon_of (suc k) lines along.echelon

  -- a reduction keeps the sum
  level : All (λ d. dot (ones (suc k)) d ≡ zero_ℚ) lines
  level = all_of_members (λ d. dot (ones (suc k)) d ≡ zero_ℚ) lines
      (λ d m. ones-dot (suc k) d (member_of (HasWidth (suc k)) lines d form.wide.wide m)
      ∙ lines_are_in_slice Cone n k rows (zeros (length rows)) objectives associated cone d (member_of (IsInLineality Directions) lines d along.each m))

  reduced_sum : (v : List ℚ) → length v ≡ suc k → sum_ℚ (reduction (suc k) lines v) ≡ sum_ℚ v
  reduced_sum v w = sym (ones-dot (suc k) (reduction (suc k) lines v) (length-reduction (suc k) lines v form.wide w))
      ∙ level_reduction (suc k) lines (ones (suc k)) v level ∙ ones-dot (suc k) v w

  module _ (y : List ℚ) (vertex : IsVertex (IsReducedIn lines Image) y) where
    own : Image y
    own = vertex.member.member

    abbrev base : List ℚ
    base = values objectives own.solution

    abbrev far : List ℚ
    far = plus base (plus own.beyond own.beyond)

    base_width : length base ≡ suc k
    base_width = length-map objectives (λ r. dot r own.solution) ∙ many

    base_in : Image base
    base_in = record {
      solution = own.solution;
      wide = own.wide;
      meets = own.meets;
      beyond = zeros (suc k);
      in_cone = cone.zero;
      same = sym (plus-zeros (suc k) base base_width);
    }

    far_in : Image far
    far_in = record {
      solution = own.solution;
      wide = own.wide;
      meets = own.meets;
      beyond = plus own.beyond own.beyond;
      in_cone = cone.sum own.beyond own.beyond own.in_cone own.in_cone;
      same = refl;
    }

    y_width : length y ≡ suc k
    y_width = convex.wide y own

    far_width : length far ≡ suc k
    far_width = convex.wide far far_in

    middle : plus y y ≡ plus base far
    middle = same_wide (suc k) (plus y y) (plus base far) (length-plus (suc k) y y y_width y_width) (length-plus (suc k) base far base_width far_width)
        (λ r.
        let v : dot r y ≡ dot r base +ℚ dot r own.beyond = ap (λ w. dot r w) own.same ∙ dot-plus r base own.beyond in
        dot-plus r y y ∙ ap₂ (λ a b. a +ℚ b) v v
        ∙ ring rationals (dot r base ∷ dot r own.beyond ∷ []) ((v0 ⊕ v1) ⊕ (v0 ⊕ v1)) (v0 ⊕ (v0 ⊕ (v1 ⊕ v1))) refl
        ∙ sym (dot-plus r base far ∙ ap (λ q. dot r base +ℚ q) (dot-plus r base (plus own.beyond own.beyond) ∙ ap (λ q. dot r base +ℚ q) (dot-plus r own.beyond own.beyond))))

    reduced_middle : plus y y ≡ plus (reduction (suc k) lines base) (reduction (suc k) lines far)
    reduced_middle =
        sym (reduction_same (suc k) lines (plus y y) form.wide (length-plus (suc k) y y y_width y_width) (reduced_plus lines y y vertex.member.reduced vertex.member.reduced))
        ∙ ap (reduction (suc k) lines) middle ∙ reduction-plus (suc k) lines base far form.wide base_width far_width

    stays : reduction (suc k) lines base ≡ y
    stays = (vertex.no_midpoint (reduction (suc k) lines base) (reduction (suc k) lines far)
        (reduction_in (suc k) Image Directions lines convex along base base_in) (reduction_in (suc k) Image Directions lines convex along far far_in) reduced_middle).0

    in_slice : sum_ℚ y ≡ zero_ℚ
    in_slice = ap sum_ℚ (sym stays) ∙ reduced_sum base base_width ∙ ap sum_ℚ (associated own.solution own.wide) ∙ spread-sum (take k own.solution)

pub vertices_are_in_slice : (Cone : List ℚ → Type 0) → VerticesAreInSlice Cone
vertices_are_in_slice Cone n k rows rights objectives many associated cone lines along y vertex =
    in_slice Cone n k rows rights objectives many associated cone lines along y vertex

-- ---- the hull
-- the combination of vectors with the sum 0, from that of their fronts
combination_spread : (k : ℕ) (ms : List ℚ) (vs : List (List ℚ)) → AreWide (suc k) vs → All (λ v. sum_ℚ v ≡ zero_ℚ) vs →
    combination (suc k) ms vs ≡ spread (combination k ms (map (take k) vs))
combination_spread k [] vs w h = spread-zeros k
combination_spread k (m ∷ ms) [] w h = spread-zeros k
combination_spread k (m ∷ ms) (v ∷ vs) w h =
    let v_width : length v ≡ suc k = wide-head (suc k) v vs w in
    ap₂ (λ a b. plus a b)
    (ap (scaled m) (unspread k v v_width (All-head (λ u. sum_ℚ u ≡ zero_ℚ) v vs h)) ∙ spread-scaled m (take k v))
    (combination_spread k ms vs (wide-tail (suc k) v vs w) (All-tail (λ u. sum_ℚ u ≡ zero_ℚ) v vs h))
    ∙ spread-plus (scaled m (take k v)) (combination k ms (map (take k) vs))
    (length-scaled m (take k v) ∙ take-width k v v_width
    ∙ sym (length-combination k ms (map (take k) vs) (fronts_wide k vs (wide-tail (suc k) v vs w))))
  where
    fronts_wide : (j : ℕ) (us : List (List ℚ)) → AreWide (suc j) us → AreWide j (map (take j) us)
    fronts_wide j us g = record {
      wide = All-map (HasWidth j) (take j) us (All-weaker (HasWidth (suc j)) (λ u. length (take j u) ≡ j) (λ u e. take-width j u e) us g.wide);
    }

module _ (k : ℕ) (points directions lines : List (List ℚ)) (p : AreWide (suc k) points) (d : AreWide (suc k) directions) (l : AreWide (suc k) lines)
    (p_sums : All (λ v. sum_ℚ v ≡ zero_ℚ) points) (d_sums : All (λ v. sum_ℚ v ≡ zero_ℚ) directions) (l_sums : All (λ v. sum_ℚ v ≡ zero_ℚ) lines) where
  fronts : List (List ℚ) → List (List ℚ)
  fronts vs = map (take k) vs

  fronts_wide : (vs : List (List ℚ)) → AreWide (suc k) vs → AreWide k (fronts vs)
  unfolding fronts
  fronts_wide vs g = record {
    wide = All-map (HasWidth k) (take k) vs (All-weaker (HasWidth (suc k)) (λ u. length (take k u) ≡ k) (λ u e. take-width k u e) vs g.wide);
  }

  whole : (ws ss ls : List ℚ) → plus (combination (suc k) ws points) (plus (combination (suc k) ss directions) (combination (suc k) ls lines))
      ≡ spread (plus (combination k ws (map (take k) points)) (plus (combination k ss (map (take k) directions)) (combination k ls (map (take k) lines))))
  unfolding fronts
  whole ws ss ls =
      let pw : length (combination k ws (map (take k) points)) ≡ k = length-combination k ws (map (take k) points) (fronts_wide points p) in
      let dw : length (combination k ss (map (take k) directions)) ≡ k = length-combination k ss (map (take k) directions) (fronts_wide directions d) in
      let lw : length (combination k ls (map (take k) lines)) ≡ k = length-combination k ls (map (take k) lines) (fronts_wide lines l) in
      ap₂ (λ a b. plus a b) (combination_spread k ws points p p_sums)
      (ap₂ (λ a b. plus a b) (combination_spread k ss directions d d_sums) (combination_spread k ls lines l l_sums)
      ∙ spread-plus (combination k ss (map (take k) directions)) (combination k ls (map (take k) lines)) (dw ∙ sym lw))
      ∙ spread-plus (combination k ws (map (take k) points)) (plus (combination k ss (map (take k) directions)) (combination k ls (map (take k) lines)))
      (pw ∙ sym (length-plus k (combination k ss (map (take k) directions)) (combination k ls (map (take k) lines)) dw lw))

  hull_out : (z : List ℚ) → IsInHull (suc k) points directions lines (spread z) → IsInHull k (map (take k) points) (map (take k) directions) (map (take k) lines) z
  hull_out z h = record {
    weights = h.weights;
    shares = h.shares;
    slopes = h.slopes;
    weight_each = h.weight_each ∙ sym (length-map points (take k));
    share_each = h.share_each ∙ sym (length-map directions (take k));
    slope_each = h.slope_each ∙ sym (length-map lines (take k));
    weights_at_least_zero = h.weights_at_least_zero;
    shares_at_least_zero = h.shares_at_least_zero;
    weights_whole = h.weights_whole;
    combined = spread-same z _ (h.combined ∙ whole h.weights h.shares h.slopes);
  }

  hull_in : (z : List ℚ) → IsInHull k (map (take k) points) (map (take k) directions) (map (take k) lines) z → IsInHull (suc k) points directions lines (spread z)
  hull_in z h = record {
    weights = h.weights;
    shares = h.shares;
    slopes = h.slopes;
    weight_each = h.weight_each ∙ length-map points (take k);
    share_each = h.share_each ∙ length-map directions (take k);
    slope_each = h.slope_each ∙ length-map lines (take k);
    weights_at_least_zero = h.weights_at_least_zero;
    shares_at_least_zero = h.shares_at_least_zero;
    weights_whole = h.weights_whole;
    combined = ap spread h.combined ∙ sym (whole h.weights h.shares h.slopes);
  }

pub slice_of_hull : SliceOfHull
slice_of_hull k points directions lines p d l bounded z width = (
  λ h. hull_out k points' directions' lines p' d' l (sums points p) (sums directions d) l_sums z ((face).0 (h, at_zero)),
  λ h. ((face).1 (hull_in k points' directions' lines p' d' l (sums points p) (sums directions d) l_sums z h)).0,
)
  where
    points' : List (List ℚ)
    points' = at_value (ones (suc k)) zero_ℚ points

    directions' : List (List ℚ)
    directions' = at_value (ones (suc k)) zero_ℚ directions

    listed : (vs : List (List ℚ)) → AreWide (suc k) vs → AreWide (suc k) (at_value (ones (suc k)) zero_ℚ vs)
    listed vs w = record {
      wide = all_of_members (HasWidth (suc k)) (at_value (ones (suc k)) zero_ℚ vs) (λ v m.
          member_of (HasWidth (suc k)) vs v w.wide (Contains-filter_source (λ u. same_ℚ (dot (ones (suc k)) u) zero_ℚ) vs v m).0);
    }

    p' : AreWide (suc k) points'
    p' = listed points p

    d' : AreWide (suc k) directions'
    d' = listed directions d

    sums : (vs : List (List ℚ)) → AreWide (suc k) vs → All (λ v. sum_ℚ v ≡ zero_ℚ) (at_value (ones (suc k)) zero_ℚ vs)
    sums vs w = all_of_members (λ v. sum_ℚ v ≡ zero_ℚ) (at_value (ones (suc k)) zero_ℚ vs) (λ v m.
        let from = Contains-filter_source (λ u. same_ℚ (dot (ones (suc k)) u) zero_ℚ) vs v m in
        sym (ones-dot (suc k) v (member_of (HasWidth (suc k)) vs v w.wide from.0)) ∙ (same_ℚ-is (dot (ones (suc k)) v) zero_ℚ).0 from.1)

    l_sums : All (λ v. sum_ℚ v ≡ zero_ℚ) lines
    l_sums = all_of_members (λ v. sum_ℚ v ≡ zero_ℚ) lines (λ v m.
        sym (ones-dot (suc k) v (member_of (HasWidth (suc k)) lines v l.wide m)) ∙ member_of (λ u. dot (ones (suc k)) u ≡ zero_ℚ) lines v bounded.at_lines m)

    at_zero : dot (ones (suc k)) (spread z) ≡ zero_ℚ
    at_zero = ones-dot (suc k) (spread z) (length-homogenised k z (neg_ℚ (sum_ℚ z)) width) ∙ spread-sum z

    face : (IsInHull (suc k) points directions lines (spread z) × (dot (ones (suc k)) (spread z) ≡ zero_ℚ) → IsInHull (suc k) points' directions' lines (spread z))
        × (IsInHull (suc k) points' directions' lines (spread z) → IsInHull (suc k) points directions lines (spread z) × (dot (ones (suc k)) (spread z) ≡ zero_ℚ))
    face = face_of_hull (suc k) points directions lines (ones (suc k)) zero_ℚ p d l bounded (spread z)
