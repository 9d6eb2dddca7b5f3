-- The projection by points, directions and lines, and by sides.
use Rattle.std.proofs.Common.{◌≡◌, ℕ, suc, ◌≤◌, arith, Bool, true, cond, List, [], ◌∷◌, length, take, filter, All, Contains, refl, sym, ap, ◌∙◌, subst}
use Rattle.std.proofs.lemmas.List.{length-take-le}
use Rattle.std.proofs.lemmas.List.Elements.{All-head, All-tail, All-map}
use Rattle.exact_field.specs.Order.{same_ℚ}
use Rattle.exact_field.specs.Rational.{ℚ, zero_ℚ, neg_ℚ, ◌≤ℚ◌}
use Rattle.exact_field.specs.Vector.{dot, sum_ℚ}
use Rattle.exact_field.proofs.Comparison.{same_ℚ-is}
use Rattle.polyhedra.specs.Hull.{IsInHull}
use Rattle.polyhedra.specs.Inequality.{Inequality}
use Rattle.polyhedra.specs.Vectors.{AreWide, zeros}
use Rattle.polyhedra.proofs.Homogenised.{length-homogenised}
use Rattle.polyhedra.proofs.Lists.{HasWidth}
use Rattle.polyhedra.proofs.Members.{all_of_members, member_of, Contains-filter_source}
use Rattle.polyhedra.proofs.Order.{le_of_eq}
use Rattle.upper_image.specs.OrderingCone.{IsInOrderingCone}
use Rattle.upper_image.specs.UpperImage.{normals, objectives, IsInWorkingImage, IsWorkingDirection, IsExactFor}
use Rattle.vlp_problem.specs.declared.problem.Problem.{Problem}
use Rattle.representations.specs.Faces.{at_value, IsBoundedBelow}
use Rattle.representations.specs.Projection.{spread, ones}
use Rattle.representations.proofs.Faces.{hull_width}
use Rattle.representations.proofs.FacetsAlong.{facets_cut_out}
use Rattle.representations.proofs.Slices.{image_is_above, ones-dot, slice_of_hull}
use Rattle.projection.specs.Associated.{IsAssociated, IsInProjection}
use Rattle.projection.specs.Laws.{IsLevel, AreLevel, fronts, level_only, ProjectionIsHull, ProjectionIsCutOut}
use Rattle.projection.proofs.Slices.{cone, plain, values_are, working_along, working_convex, working_vertex, working_extreme, points_are_level, projection_is_slice_of}

-- ---- lists
same_filter : (p q : List ℚ → Bool) (vs : List (List ℚ)) → All (λ v. p v ≡ q v) vs → filter p vs ≡ filter q vs
same_filter p q [] h = refl
same_filter p q (v ∷ vs) h =
    ap (λ b. cond b (v ∷ filter p vs) (filter p vs)) (All-head (λ u. p u ≡ q u) v vs h)
    ∙ ap (λ w. cond (q v) (v ∷ w) w) (same_filter p q vs (All-tail (λ u. p u ≡ q u) v vs h))

all_kept : (p : List ℚ → Bool) (vs : List (List ℚ)) → All (λ v. p v ≡ true) vs → filter p vs ≡ vs
all_kept p [] h = refl
all_kept p (v ∷ vs) h =
    ap (λ b. cond b (v ∷ filter p vs) (filter p vs)) (All-head (λ u. p u ≡ true) v vs h) ∙ ap (λ w. v ∷ w) (all_kept p vs (All-tail (λ u. p u ≡ true) v vs h))

pub fronts_wide : (k : ℕ) (vs : List (List ℚ)) → AreWide (suc k) vs → AreWide k (fronts k vs)
fronts_wide k vs w = record {
  wide = All-map (HasWidth k) (take k) vs (all_of_members (λ v. length (take k v) ≡ k) vs
      (λ v m. length-take-le k v (subst (λ (n : ℕ). k ≤ n) (sym (member_of (HasWidth (suc k)) vs v w.wide m)) (next k))));
}
  where
    next : (j : ℕ) → j ≤ suc j
    next j = omega arith

-- the level ones, by the product with ones
level_value : (k : ℕ) (vs : List (List ℚ)) → AreWide (suc k) vs → at_value (ones (suc k)) zero_ℚ vs ≡ level_only vs
level_value k vs w = same_filter (λ v. same_ℚ (dot (ones (suc k)) v) zero_ℚ) (λ v. same_ℚ (sum_ℚ v) zero_ℚ) vs
    (all_of_members (λ v. same_ℚ (dot (ones (suc k)) v) zero_ℚ ≡ same_ℚ (sum_ℚ v) zero_ℚ) vs
    (λ v m. ap (λ q. same_ℚ q zero_ℚ) (ones-dot (suc k) v (member_of (HasWidth (suc k)) vs v w.wide m))))

all_level : (vs : List (List ℚ)) → All IsLevel vs → level_only vs ≡ vs
all_level vs h = all_kept (λ v. same_ℚ (sum_ℚ v) zero_ℚ) vs
    (all_of_members (λ v. same_ℚ (sum_ℚ v) zero_ℚ ≡ true) vs (λ v m. (same_ℚ-is (sum_ℚ v) zero_ℚ).1 (member_of IsLevel vs v h m)))

pub level_listed : (vs : List (List ℚ)) (v : List ℚ) → Contains (level_only vs) v → Contains vs v × IsLevel v
level_listed vs v m =
    let from = Contains-filter_source (λ u. same_ℚ (sum_ℚ u) zero_ℚ) vs v m in
    (from.0, (same_ℚ-is (sum_ℚ v) zero_ℚ).0 from.1)

pub level_wide : (n : ℕ) (vs : List (List ℚ)) → AreWide n vs → AreWide n (level_only vs)
level_wide n vs w = record { wide = all_of_members (HasWidth n) (level_only vs) (λ v m. member_of (HasWidth n) vs v w.wide (level_listed vs v m).0) }

module _ (k : ℕ) (file made : Problem) (below : k ≤ file.cols) (s : IsAssociated k file made) where
  spread_width : (z : List ℚ) → length z ≡ k → length (spread z) ≡ suc k
  spread_width z width = length-homogenised k z (neg_ℚ (sum_ℚ z)) width

  pub projected_width : (z : List ℚ) → IsInProjection file k z → length z ≡ k
  projected_width z p = ap length (sym p.begins) ∙ length-take-le k p.choice (subst (λ (n : ℕ). k ≤ n) (sym p.feasible.width) below)

  module _ (c : List ℚ) (lines points directions : List (List ℚ)) (facets : List Inequality) (exact : IsExactFor made c lines points directions facets) where
    pub points_wide : AreWide (suc k) points
    points_wide = record {
      wide = all_of_members (HasWidth (suc k)) points
          (λ y m. (working_convex k file made below s).wide y (working_vertex k file made below s lines y ((exact.vertices y).0 m)).member.member);
    }

    pub direction_in : (d : List ℚ) → Contains directions d → IsWorkingDirection made d
    direction_in d m = (working_extreme k file made below s lines d ((exact.extreme d).0 m).0).member.member

    pub directions_wide : AreWide (suc k) directions
    directions_wide = record {
      wide = all_of_members (HasWidth (suc k)) directions (λ d m. (working_convex k file made below s).directions_wide d (direction_in d m));
    }

    pub lines_wide : AreWide (suc k) lines
    lines_wide = (working_along k file made below s lines exact.lines_are).echelon.wide

    pub levels : AreLevel lines points
    levels = points_are_level k file made c lines points directions facets below s exact

    bounded : IsBoundedBelow (ones (suc k)) zero_ℚ points directions lines
    bounded = record {
      at_points = all_of_members (λ p. zero_ℚ ≤ℚ dot (ones (suc k)) p) points (λ p m.
          le_of_eq zero_ℚ (dot (ones (suc k)) p) (sym (ones-dot (suc k) p (member_of (HasWidth (suc k)) points p points_wide.wide m) ∙ member_of IsLevel points p levels.points_level m)));
      at_directions = all_of_members (λ d. zero_ℚ ≤ℚ dot (ones (suc k)) d) directions (λ d m.
          subst (λ (q : ℚ). zero_ℚ ≤ℚ q) (sym (ones-dot (suc k) d (member_of (HasWidth (suc k)) directions d directions_wide.wide m)))
          (image_is_above (IsInOrderingCone made) made.cols k (normals made) (zeros (length (normals made))) (objectives made)
          (values_are k file made below s) (cone k file made below s) d (direction_in d m)));
      at_lines = all_of_members (λ l. dot (ones (suc k)) l ≡ zero_ℚ) lines (λ l m.
          ones-dot (suc k) l (member_of (HasWidth (suc k)) lines l lines_wide.wide m) ∙ member_of IsLevel lines l levels.lines_level m);
    }

    -- the hull in the slice
    abbrev Short : List ℚ → Type 0
    Short z = IsInHull k (fronts k points) (fronts k (level_only directions)) (fronts k lines) z

    abbrev Sliced : List ℚ → Type 0
    Sliced z = IsInHull k (fronts k (at_value (ones (suc k)) zero_ℚ points)) (fronts k (at_value (ones (suc k)) zero_ℚ directions)) (fronts k lines) z

    same_points : at_value (ones (suc k)) zero_ℚ points ≡ points
    same_points = level_value k points points_wide ∙ all_level points levels.points_level

    same_directions : at_value (ones (suc k)) zero_ℚ directions ≡ level_only directions
    same_directions = level_value k directions directions_wide

    shorter : (z : List ℚ) → Sliced z → Short z
    shorter z h = subst (λ (ds : List (List ℚ)). IsInHull k (fronts k points) (fronts k ds) (fronts k lines) z) same_directions
        (subst (λ (ps : List (List ℚ)). IsInHull k (fronts k ps) (fronts k (at_value (ones (suc k)) zero_ℚ directions)) (fronts k lines) z) same_points h)

    longer : (z : List ℚ) → Short z → Sliced z
    longer z h = subst (λ (ps : List (List ℚ)). IsInHull k (fronts k ps) (fronts k (at_value (ones (suc k)) zero_ℚ directions)) (fronts k lines) z) (sym same_points)
        (subst (λ (ds : List (List ℚ)). IsInHull k (fronts k points) (fronts k ds) (fronts k lines) z) (sym same_directions) h)

    hull_to : (z : List ℚ) → IsInProjection file k z → Short z
    hull_to z p =
        let width : length z ≡ k = projected_width z p in
        let in_image : IsInWorkingImage made (spread z) = ((projection_is_slice_of k file made below s).points z width).1 p in
        let in_hull : IsInHull made.objs points directions lines (spread z) = (exact.hull (spread z)).0
        (subst (λ (v : List ℚ). IsInWorkingImage made v) (sym (plain k file made below s (spread z))) in_image) in
        shorter z ((slice_of_hull k points directions lines points_wide directions_wide lines_wide bounded z width).0
        (subst (λ (q : ℕ). IsInHull q points directions lines (spread z)) s.objs in_hull))

    hull_from : (z : List ℚ) → Short z → IsInProjection file k z
    hull_from z h =
        let width : length z ≡ k = hull_width k (fronts k points) (fronts k (level_only directions)) (fronts k lines) z
        (fronts_wide k points points_wide) (fronts_wide k (level_only directions) (level_wide (suc k) directions directions_wide)) (fronts_wide k lines lines_wide) h in
        let in_hull : IsInHull made.objs points directions lines (spread z) = subst (λ (q : ℕ). IsInHull q points directions lines (spread z)) (sym s.objs)
        ((slice_of_hull k points directions lines points_wide directions_wide lines_wide bounded z width).1 (longer z h)) in
        ((projection_is_slice_of k file made below s).points z width).0
        (subst (λ (v : List ℚ). IsInWorkingImage made v) (plain k file made below s (spread z)) ((exact.hull (spread z)).1 in_hull))

pub projection_is_hull : ProjectionIsHull
projection_is_hull k file made c lines points directions facets below s exact z =
    (hull_to k file made below s c lines points directions facets exact z, hull_from k file made below s c lines points directions facets exact z)

pub projection_is_cut_out : ProjectionIsCutOut
projection_is_cut_out k file made c lines cuts generators points directions named below s solved z width =
    let slice = (projection_is_slice_of k file made below s).points z width in
    let cut = facets_cut_out (IsInWorkingImage made) (IsWorkingDirection made) made.objs c lines cuts generators points directions named solved (spread z)
    (spread_width k file made below s z width ∙ sym s.objs) in (
      λ p. cut.0 (slice.1 p),
      λ h. slice.0 (cut.1 h),
    )
