-- What is found of an answer that a log proves is the projection.
use Rattle.std.proofs.Common.{◌≡◌, ◌↔◌, ℕ, zero, suc, ◌≤◌, Bool, true, false, cond, List, [], ◌∷◌, map, length, take, filter, All, Contains, refl, sym, ap, ◌∙◌, subst}
use Rattle.std.proofs.lemmas.List.Elements.{All-map}
use Rattle.std.proofs.lemmas.Simd.{map-map}
use Rattle.exact_field.specs.Order.{same_ℚ}
use Rattle.exact_field.specs.Rational.{ℚ, zero_ℚ, one_ℚ, neg_ℚ, ◌≤ℚ◌, ◌<ℚ◌}
use Rattle.exact_field.specs.Vector.{dot, sum_ℚ}
use Rattle.exact_field.proofs.Comparison.{same_ℚ-is}
use Rattle.frac128.specs.declared.vectors.Spot.{Spot}
use Rattle.lineality.specs.Exactness.{IsSolvedAlong, IsExactAlong}
use Rattle.lineality.proofs.ExactAlong.{exactness_along}
use Rattle.polyhedra.specs.Farkas.{IsDualVector}
use Rattle.polyhedra.specs.Hull.{IsInHull, IsFacet}
use Rattle.polyhedra.specs.Inequality.{Inequality}
use Rattle.polyhedra.specs.Negatives.{negated}
use Rattle.polyhedra.specs.Vectors.{zeros}
use Rattle.polyhedra.proofs.Algebra.{neg_zero}
use Rattle.polyhedra.proofs.Members.{all_of_members, member_of, Contains-map, Contains-map_source, Contains-filter_source}
use Rattle.upper_image.specs.Spots.{dense, IsVector}
use Rattle.upper_image.specs.UpperImage.{signed, working, normals, IsInWorkingImage, IsWorkingDirection}
use Rattle.upper_image.specs.Witnesses.{HasPreimage, HasDirectionPreimage, IsInfeasible, IsShownLine}
use Rattle.vlp_problem.specs.Sides.{sides, IsFeasible, IsRecession}
use Rattle.vlp_problem.specs.declared.problem.Dir.{Dir}
use Rattle.vlp_problem.specs.declared.problem.Problem.{Problem}
use Rattle.log_rules.specs.Live.{state, lines, in_use, live_vectors}
use Rattle.log_rules.specs.Laws.{listed, named_cuts}
use Rattle.log_rules.specs.Right.{stated, IsSolution}
use Rattle.log_rules.specs.declared.answer.Answer.TheVariants.{Infeasible, Whole, Solved}
use Rattle.log_rules.specs.declared.answer.Facet.{Facet}
use Rattle.log_rules.specs.declared.answer.Gen.{Gen}
use Rattle.log_rules.specs.declared.answer.LineGen.{LineGen}
use Rattle.log_rules.proofs.ProvedIsRight.{proved_is_right, log_is_solved}
use Rattle.representations.specs.Facets.{MeetsAll}
use Rattle.representations.specs.Needed.{NoneIsTooMuch}
use Rattle.representations.specs.Projection.{spread}
use Rattle.projection.specs.Associated.{Begins, IsAssociated, IsInProjection}
use Rattle.projection.specs.Laws.{IsLevel, AreLevel, fronts, level_only}
use Rattle.projection.proofs.Hulls.{projection_is_hull, projection_is_cut_out}
use Rattle.projection.proofs.Level.{above_of, level_begins}
use Rattle.projection.proofs.Objectives.{associated_is_associated}
use Rattle.projection.proofs.Slices.{feasible_in_file, recession_in_file, points_are_level, sum_negated}
use Rattle.projection.specs.Found.{shortened, shortened_line, level_directions}
use Rattle.projection.specs.Right.{ShowsPoint, ShowsDirection, ShowsLine, MeetsSide, IsProjectionOf, IsRightProjection, FoundIsRight}
use Rattle.projection.proofs.Needed.{none_is_too_much}
use Rattle.projection.specs.declared.found.Projection.{Projection}

-- ---- lists
filter-map : {X Y : Type 0} (p : Y → Bool) (f : X → Y) (xs : List X) → filter p (map f xs) ≡ map f (filter (λ x. p (f x)) xs)
filter-map p f [] = refl
filter-map p f (x ∷ xs) = ap (λ w. cond (p (f x)) (f x ∷ w) w) (filter-map p f xs) ∙ go f x (filter (λ y. p (f y)) xs) (p (f x))
  where
    go : {X Y : Type 0} (g : X → Y) (y : X) (ys : List X) (b : Bool) → cond b (g y ∷ map g ys) (map g ys) ≡ map g (cond b (y ∷ ys) ys)
    go g y ys true = refl
    go g y ys false = refl

take-negated : (k : ℕ) (v : List ℚ) → take k (negated v) ≡ negated (take k v)
take-negated zero v = refl
take-negated (suc k) [] = refl
take-negated (suc k) (x ∷ v) = ap (λ w. neg_ℚ x ∷ w) (take-negated k v)

short_points : (k : ℕ) (gs : List Gen) → map (λ g. g.y) (map (shortened k) gs) ≡ fronts k (map (λ g. g.y) gs)
short_points k gs = map-map (λ g. g.y) (shortened k) gs ∙ sym (map-map (take k) (λ g. g.y) gs)

short_lines : (k : ℕ) (ls : List LineGen) → map (λ l. l.d) (map (shortened_line k) ls) ≡ fronts k (map (λ l. l.d) ls)
short_lines k ls = map-map (λ l. l.d) (shortened_line k) ls ∙ sym (map-map (take k) (λ l. l.d) ls)

level_points : (gs : List Gen) → level_only (map (λ g. g.y) gs) ≡ map (λ g. g.y) (level_directions gs)
level_points gs = filter-map (λ v. same_ℚ (sum_ℚ v) zero_ℚ) (λ g. g.y) gs

level_members : (gs : List Gen) (g : Gen) → Contains (level_directions gs) g → Contains gs g × IsLevel g.y
level_members gs g m =
    let from = Contains-filter_source (λ h. same_ℚ (sum_ℚ h.y) zero_ℚ) gs g m in
    (from.0, (same_ℚ-is (sum_ℚ g.y) zero_ℚ).0 from.1)

module _ (k : ℕ) (file made : Problem) (below : k ≤ file.cols) (s : IsAssociated k file made) where
  -- ---- what shows
  shows_point : (y : List ℚ) (x : List Spot) → IsLevel y → HasPreimage made y x → ShowsPoint file k record { y = take k y; pre = x }
  shows_point y x level h = record {
    vector = subst (λ (n : ℕ). IsVector n x) s.cols h.vector;
    feasible = subst (λ (n : ℕ). IsFeasible file (dense n x)) s.cols (feasible_in_file k file made below s (dense made.cols x) h.shown.feasible);
    begins = subst (λ (n : ℕ). Begins k (dense n x) (take k y)) s.cols
        (level_begins k (dense made.cols x) y (above_of k file made below s y (dense made.cols x) h.shown.wide h.shown.feasible.width h.shown.above) level);
  }

  shows_direction : (d : List ℚ) (x : List Spot) → IsLevel d → HasDirectionPreimage made d x → ShowsDirection file k (take k d) x
  shows_direction d x level h = record {
    vector = subst (λ (n : ℕ). IsVector n x) s.cols h.vector;
    recedes = subst (λ (n : ℕ). IsRecession file (dense n x)) s.cols (recession_in_file k file made below s (dense made.cols x) h.shown.recedes);
    begins = subst (λ (n : ℕ). Begins k (dense n x) (take k d)) s.cols
        (level_begins k (dense made.cols x) d (above_of k file made below s d (dense made.cols x) h.shown.wide h.shown.recedes.width h.shown.above) level);
  }

  shows_line : (l : LineGen) → IsLevel l.d → IsShownLine made l.d l.ray l.back → ShowsLine file k (shortened_line k l)
  shows_line l level h = record {
    forth = shows_direction l.d l.ray level h.forth;
    back_too = subst (λ (v : List ℚ). ShowsDirection file k v l.back) (take-negated k l.d)
        (shows_direction (negated l.d) l.back (sum_negated l.d ∙ ap neg_ℚ level ∙ neg_zero) h.back_too);
  }

  -- ---- a solved answer
  module _ (c : List ℚ) (ls : List LineGen) (points directions : List Gen) (facets : List Facet) (right : IsSolution made c ls points directions facets) where
    abbrev ds : List (List ℚ)
    ds = map (λ l. l.d) ls

    abbrev ps : List (List ℚ)
    ps = map (λ g. g.y) points

    abbrev rs : List (List ℚ)
    rs = map (λ g. g.y) directions

    level : AreLevel ds ps
    level = points_are_level k file made c ds ps rs (map stated facets) below s right.exact

    abbrev Short : List (List ℚ) → List (List ℚ) → List (List ℚ) → List ℚ → Type 0
    Short us vs ws z = IsInProjection file k z ↔ IsInHull k us vs ws z

    hull : (z : List ℚ) → Short (map (λ g. g.y) (map (shortened k) points)) (map (λ g. g.y) (map (shortened k) (level_directions directions)))
        (map (λ l. l.d) (map (shortened_line k) ls)) z
    hull z =
        subst (λ (us : List (List ℚ)). Short us (map (λ g. g.y) (map (shortened k) (level_directions directions))) (map (λ l. l.d) (map (shortened_line k) ls)) z) (sym (short_points k points))
        (subst (λ (vs : List (List ℚ)). Short (fronts k ps) vs (map (λ l. l.d) (map (shortened_line k) ls)) z)
        (ap (fronts k) (level_points directions) ∙ sym (short_points k (level_directions directions)))
        (subst (λ (ws : List (List ℚ)). Short (fronts k ps) (fronts k (level_only rs)) ws z) (sym (short_lines k ls))
        (projection_is_hull k file made c ds ps rs (map stated facets) below s right.exact z)))

    needed : NoneIsTooMuch k (map (λ g. g.y) (map (shortened k) points)) (map (λ g. g.y) (map (shortened k) (level_directions directions)))
        (map (λ l. l.d) (map (shortened_line k) ls))
    needed =
        subst (λ (us : List (List ℚ)). NoneIsTooMuch k us (map (λ g. g.y) (map (shortened k) (level_directions directions))) (map (λ l. l.d) (map (shortened_line k) ls)))
        (sym (short_points k points))
        (subst (λ (vs : List (List ℚ)). NoneIsTooMuch k (fronts k ps) vs (map (λ l. l.d) (map (shortened_line k) ls)))
        (ap (fronts k) (level_points directions) ∙ sym (short_points k (level_directions directions)))
        (subst (λ (ws : List (List ℚ)). NoneIsTooMuch k (fronts k ps) (fronts k (level_only rs)) ws) (sym (short_lines k ls))
        (none_is_too_much k file made below s c ds ps rs (map stated facets) right.exact)))

    points_shown : All (ShowsPoint file k) (map (shortened k) points)
    points_shown = All-map (ShowsPoint file k) (shortened k) points (all_of_members (λ g. ShowsPoint file k (shortened k g)) points (λ g m.
        shows_point g.y g.pre (member_of IsLevel ps g.y level.points_level (Contains-map (λ h. h.y) points g m))
        (member_of (λ h. HasPreimage made h.y h.pre) points g right.preimages m)))

    directions_shown : All (λ g. ShowsDirection file k g.y g.pre) (map (shortened k) (level_directions directions))
    directions_shown = All-map (λ g. ShowsDirection file k g.y g.pre) (shortened k) (level_directions directions)
        (all_of_members (λ g. ShowsDirection file k (take k g.y) g.pre) (level_directions directions) (λ g m.
        let from = level_members directions g m in
        shows_direction g.y g.pre from.1 (member_of (λ h. HasDirectionPreimage made h.y h.pre) directions g right.direction_preimages from.0)))

    lines_shown : All (ShowsLine file k) (map (shortened_line k) ls)
    lines_shown = All-map (ShowsLine file k) (shortened_line k) ls (all_of_members (λ l. ShowsLine file k (shortened_line k l)) ls (λ l m.
        shows_line l (member_of IsLevel ds l.d level.lines_level (Contains-map (λ h. h.d) ls l m))
        (member_of (λ h. IsShownLine made h.d h.ray h.back) ls l right.lines_shown m)))

    -- ---- sides: the named inequalities are the facets
    module _ (lines' : List (List ℚ)) (cuts : List Inequality) (gens points' directions' : List (List ℚ)) (named : List Inequality)
        (solved : IsSolvedAlong made.objs (IsInWorkingImage made) (IsWorkingDirection made) c lines' cuts gens points' directions' named) where
      exact' : IsExactAlong made.objs (IsInWorkingImage made) (IsWorkingDirection made) c lines' points' directions' named
      exact' = exactness_along (IsInWorkingImage made) (IsWorkingDirection made) made.objs c lines' cuts gens points' directions' named solved

      plain_side : (e : Inequality) → working made e ≡ e
      plain_side e = ap (λ (d : Dir). record { normal = e.normal; bound = signed d e.bound }) s.dir

      to_named : (e : Inequality) → Contains (map stated facets) e → Contains named e
      to_named e m = (exact'.facets_are e).1 (subst (λ (f : Inequality). IsFacet made.objs (IsInWorkingImage made) c f) (plain_side e) ((right.exact.facets_are e).0 m))

      to_facet : (e : Inequality) → Contains named e → Contains (map stated facets) e
      to_facet e m = (right.exact.facets_are e).1 (subst (λ (f : Inequality). IsFacet made.objs (IsInWorkingImage made) c f) (sym (plain_side e)) ((exact'.facets_are e).0 m))

      sides_met : (z : List ℚ) → MeetsAll named (spread z) → All (MeetsSide z) facets
      sides_met z h = all_of_members (MeetsSide z) facets (λ f m.
          member_of (λ e. e.bound ≤ℚ dot e.normal (spread z)) named (stated f) h (to_named (stated f) (Contains-map stated facets f m)))

      named_met : (z : List ℚ) → All (MeetsSide z) facets → MeetsAll named (spread z)
      named_met z h = all_of_members (λ e. e.bound ≤ℚ dot e.normal (spread z)) named (λ e m.
          let from = Contains-map_source stated facets e (to_facet e m) in
          subst (λ (i : Inequality). i.bound ≤ℚ dot i.normal (spread z)) from.2 (member_of (MeetsSide z) facets from.0 h from.1))

      cut_out : (z : List ℚ) → length z ≡ k → IsInProjection file k z ↔ All (MeetsSide z) facets
      cut_out z width =
          let cut = projection_is_cut_out k file made c lines' cuts gens points' directions' named below s solved z width in (
            λ p. sides_met z (cut.0 p),
            λ h. cut.1 (named_met z h),
          )

      is_projection : IsProjectionOf file k (map (shortened_line k) ls) (map (shortened k) points) (map (shortened k) (level_directions directions)) facets
      is_projection = record {
        hull = hull;
        cut_out = cut_out;
        points_shown = points_shown;
        directions_shown = directions_shown;
        lines_shown = lines_shown;
        needed = needed;
      }

  -- ---- no solution
  abbrev bounds_of : List Inequality → List ℚ
  bounds_of es = map (λ e. e.bound) es

  abbrev normals_of : List Inequality → List (List ℚ)
  normals_of es = map (λ e. e.normal) es

  empty : (u : List Spot) → IsInfeasible made u → IsInfeasible file u
  empty u h = record {
    vector = subst (λ (es : List Inequality). IsVector (length es) u) same h.vector;
    balanced = subst (λ (n : ℕ). IsDualVector n (normals file) (zeros n) (dense (length (sides file)) u)) s.cols
        (subst (λ (es : List Inequality). IsDualVector made.cols (normals_of es) (zeros made.cols) (dense (length es) u)) same h.balanced);
    bound = subst (λ (es : List Inequality). zero_ℚ <ℚ dot (bounds_of es) (dense (length es) u)) same h.bound;
  }
    where
      same : sides made ≡ sides file
      same = (associated_is_associated k file made below s).same_sides

pub found_is_right : FoundIsRight
found_is_right k file made entries (Infeasible u) found below s p e =
    subst (λ (f : Projection). IsRightProjection file k f) (sym e) (empty k file made below s u (proved_is_right made entries (Infeasible u) p))
found_is_right k file made entries (Whole c x ray) found below s p e = absurd e
found_is_right k file made entries (Solved c ls points directions facets) found below s p e =
    subst (λ (f : Projection). IsRightProjection file k f) (sym e)
    (is_projection k file made below s c ls points directions facets (proved_is_right made entries (Solved c ls points directions facets) p)
    (lines entries) (in_use (state made.objs entries)) (live_vectors (state made.objs entries)) (listed made.objs (state made.objs entries) one_ℚ)
    (listed made.objs (state made.objs entries) zero_ℚ) (named_cuts (state made.objs entries) entries)
    (log_is_solved made entries c ls points directions facets p))
