-- What follows where all facets are there.
use Rattle.std.proofs.Common.{◌≡◌, ℕ, zero, suc, List, [], ◌∷◌, length, map, All, AllPairs, Contains, refl, sym, ap, ◌∙◌, subst, arith, ◌≤◌, ◌<◌, ◌-◌, Bool, true, false, inl, inr, slice_index_or}
use Rattle.std.proofs.lemmas.List.{length-map}
use Rattle.exact_field.specs.Rational.{ℚ, zero_ℚ, one_ℚ, neg_ℚ, ◌≤ℚ◌}
use Rattle.exact_field.specs.Vector.{dot}
use Rattle.polyhedra.specs.Cone.{HasFullRank}
use Rattle.polyhedra.specs.Exactness.{homogenised, level, row_of, rows_of}
use Rattle.polyhedra.specs.Hull.{IsValidAt, IsFacet}
use Rattle.polyhedra.specs.Inequality.{Inequality}
use Rattle.polyhedra.specs.Negatives.{negated}
use Rattle.polyhedra.proofs.Algebra.{neg_zero}
use Rattle.polyhedra.proofs.Farkas.{cut_holds}
use Rattle.polyhedra.proofs.Homogenised.{length-homogenised, level_value, row_value_direction}
use Rattle.polyhedra.proofs.Laws.{add_neg, le_antisymm}
use Rattle.polyhedra.proofs.Lists.{Contains-cases}
use Rattle.polyhedra.proofs.Members.{all_of_members, member_of, Contains-map, Contains-map_source}
use Rattle.polyhedra.proofs.Negatives.{dot-negated}
use Rattle.polyhedra.proofs.Order.{le_of_difference, le_of_eq}
use Rattle.lineality.specs.Exactness.{IsExactAlong}
use Rattle.lineality.specs.Without.{open_count, without, with_zeros}
use Rattle.lineality.proofs.ExactAlong.{exactness_along}
use Rattle.lineality.proofs.Masks.{dot-without, length-with}
use Rattle.tableaux.specs.Simplex.{IsOptimal}
use Rattle.vlp_problem.specs.Sides.{sides, side_bounds}
use Rattle.vlp_problem.specs.declared.problem.Problem.{Problem}
use Rattle.upper_image.specs.OrderingCone.{Fits}
use Rattle.upper_image.specs.UpperImage.{normals, objectives, IsInWorkingImage, IsWorkingDirection}
use Rattle.deriv_log.specs.Formed.{IsLog}
use Rattle.deriv_log.specs.declared.entry.Entry.{Entry}
use Rattle.deriv_log.specs.declared.entry.Entry.TheVariants.{End}
use Rattle.word_lines.specs.declared.part.EndKind.TheVariants as kind
use Rattle.log_rules.specs.Laws.{listed, named_cuts}
use Rattle.log_rules.specs.Live.{Stated, State, cut_at, duality_vector, in_use, inequality, lines, live_vectors, named, state}
use Rattle.log_rules.specs.Proves.{AllMeet}
use Rattle.log_rules.proofs.CutsStay.{Exists}
use Rattle.log_rules.proofs.NamedCuts.{named_stand}
use Rattle.log_rules.proofs.SolutionIsRight.{are_sound}
use Rattle.log_rules.proofs.SolvedIsSolved.{solved, solved_met}
use Rattle.lp_form.specs.Programs.{benson_system, u_of, w_of, after_w_of, value_of, dual_unknowns}
use Rattle.lp_form.proofs.Systems.{benson_ok, length-negated}
use Rattle.overflows.specs.Base.{last_of}
use Rattle.overflows.proofs.Cuts.{length-benson_cost, benson_unknowns}
use Rattle.overflows.proofs.CutTurns.{optimal_value}
use Rattle.overflows.proofs.Violated.{said_value}
use Rattle.benson_program.proofs.Solved.{balanced, in_dual, member, scaled_at}
use Rattle.benson_program.proofs.SolutionParts.{after_long, after_positive, u_long, u_positive, w_long}
use Rattle.lower_image.specs.Lower.{AreAllFacets}
use Rattle.lower_image.specs.Laws.{AllFacetsLaws}
use Rattle.lower_image.proofs.LowerRows.{c_long}
use Rattle.std.proofs.lemmas.Bool.{cases_lt}

-- ---- rank
module _ (file : Problem) (c : List ℚ) (facets cuts : List Inequality) (all : AreAllFacets file c facets)
    (valid : All (IsValidAt file.objs (IsInWorkingImage file) c) cuts) (d : List ℚ) (long : length d ≡ file.objs)
    (across : All (λ v. dot v d ≡ zero_ℚ) (map (λ e. e.normal) facets)) where
  -- along a vector across all facets each of them stays
  stays : (v : List ℚ) → length v ≡ file.objs → ((f : Inequality) → Contains facets f → dot f.normal v ≡ zero_ℚ) →
      All (λ r. zero_ℚ ≤ℚ dot r (homogenised v zero_ℚ)) (rows_of file.objs facets)
  stays v wide flat = all_of_members (λ r. zero_ℚ ≤ℚ dot r (homogenised v zero_ℚ)) (rows_of file.objs facets) each
    where
      each : (r : List ℚ) → Contains (rows_of file.objs facets) r → zero_ℚ ≤ℚ dot r (homogenised v zero_ℚ)
      each r k = elim (Contains-cases (level file.objs) (map row_of facets) r k) [
        | inl e ↦ subst (λ (u : List ℚ). zero_ℚ ≤ℚ dot u (homogenised v zero_ℚ)) e (le_of_eq zero_ℚ _ (sym (level_value file.objs v zero_ℚ wide)))
        | inr m ↦
            let s : (f : Inequality) × Contains facets f × (row_of f ≡ r) = Contains-map_source row_of facets r m in
            subst (λ (u : List ℚ). zero_ℚ ≤ℚ dot u (homogenised v zero_ℚ)) s.2
            (le_of_eq zero_ℚ _ (sym (row_value_direction s.0 v
            ((member_of (IsFacet file.objs (IsInWorkingImage file) c) facets s.0 all.each s.1).valid.wide ∙ sym wide) ∙ flat s.0 s.1)))
      ]

  flat_at : (f : Inequality) → Contains facets f → dot f.normal d ≡ zero_ℚ
  flat_at f k = member_of (λ v. dot v d ≡ zero_ℚ) (map (λ e. e.normal) facets) f.normal across (Contains-map (λ (e : Inequality). e.normal) facets f k)

  rises : (v : List ℚ) → length v ≡ file.objs → ((f : Inequality) → Contains facets f → dot f.normal v ≡ zero_ℚ) → (e : Inequality) → Contains cuts e →
      zero_ℚ ≤ℚ dot e.normal v
  rises v wide flat e k =
      let at : IsValidAt file.objs (IsInWorkingImage file) c e = member_of (IsValidAt file.objs (IsInWorkingImage file) c) cuts e valid k in
      subst (λ (a : ℚ). zero_ℚ ≤ℚ a) (row_value_direction e v (at.wide ∙ sym wide))
      (all.enough e at (homogenised v zero_ℚ) (length-homogenised file.objs v zero_ℚ wide) (stays v wide flat))

  level_cuts : All (λ v. dot v d ≡ zero_ℚ) (map (λ e. e.normal) cuts)
  level_cuts = all_of_members (λ v. dot v d ≡ zero_ℚ) (map (λ e. e.normal) cuts) (λ w k.
      let s : (e : Inequality) × Contains cuts e × (e.normal ≡ w) = Contains-map_source (λ (e : Inequality). e.normal) cuts w k in
      subst (λ (u : List ℚ). dot u d ≡ zero_ℚ) s.2
      (le_antisymm (dot s.0.normal d) zero_ℚ
      (le_of_difference (dot s.0.normal d) zero_ℚ (neg_ℚ (dot s.0.normal d))
      (subst (λ (a : ℚ). zero_ℚ ≤ℚ a) (dot-negated s.0.normal d)
      (rises (negated d) (length-negated d file.objs long) (λ f m. dot-negated f.normal d ∙ ap neg_ℚ (flat_at f m) ∙ neg_zero) s.0 s.1))
      (add_neg (dot s.0.normal d)))
      (rises d long flat_at s.0 s.1)))

across_all : (file : Problem) (c : List ℚ) (facets cuts : List Inequality) → AreAllFacets file c facets →
    All (IsValidAt file.objs (IsInWorkingImage file) c) cuts → (d : List ℚ) → length d ≡ file.objs →
    All (λ v. dot v d ≡ zero_ℚ) (map (λ e. e.normal) facets) → All (λ v. dot v d ≡ zero_ℚ) (map (λ e. e.normal) cuts)
across_all file c facets cuts all valid d long across = level_cuts file c facets cuts all valid d long across

module _ (bs : List Bool) (z : List ℚ) where
  shorter : (vs : List (List ℚ)) → All (λ v. dot v (with_zeros bs z) ≡ zero_ℚ) vs → All (λ v. dot v z ≡ zero_ℚ) (map (without bs) vs)
  shorter vs h = all_of_members (λ v. dot v z ≡ zero_ℚ) (map (without bs) vs) (λ w k.
      let s : (v : List ℚ) × Contains vs v × (without bs v ≡ w) = Contains-map_source (without bs) vs w k in
      subst (λ (u : List ℚ). dot u z ≡ zero_ℚ) s.2
      (dot-without bs s.0 z ∙ member_of (λ v. dot v (with_zeros bs z) ≡ zero_ℚ) vs s.0 h s.1))

  longer : (vs : List (List ℚ)) → All (λ v. dot v z ≡ zero_ℚ) (map (without bs) vs) → All (λ v. dot v (with_zeros bs z) ≡ zero_ℚ) vs
  longer vs h = all_of_members (λ v. dot v (with_zeros bs z) ≡ zero_ℚ) vs (λ v k.
      sym (dot-without bs v z) ∙ member_of (λ v. dot v z ≡ zero_ℚ) (map (without bs) vs) (without bs v) h (Contains-map (without bs) vs v k))

rank : (file : Problem) (c : List ℚ) (bs : List Bool) (facets cuts : List Inequality) → AreAllFacets file c facets → length bs ≡ file.objs →
    All (IsValidAt file.objs (IsInWorkingImage file) c) cuts → HasFullRank (open_count bs) (map (without bs) (map (λ e. e.normal) cuts)) →
    HasFullRank (open_count bs) (map (without bs) (map (λ e. e.normal) facets))
rank file c bs facets cuts all many valid full z long across =
    full z long
    (shorter bs z (map (λ e. e.normal) cuts)
    (level_cuts file c facets cuts all valid (with_zeros bs z) (length-with bs z long ∙ many) (longer bs z (map (λ e. e.normal) facets) across)))

-- ---- no cut is found
module _ (file : Problem) (c v : List ℚ) (t : Bool) (facets : List Inequality) (z y : List ℚ) (fits : Fits file c) (all : AreAllFacets file c facets)
    (v_long : length v ≡ file.objs) (h : IsOptimal (benson_system file c v t) z y)
    (held : All (λ r. zero_ℚ ≤ℚ dot r (homogenised v (last_of t))) (rows_of file.objs facets)) where
  z_long : length z ≡ benson_unknowns file
  z_long = h.wide ∙ length-benson_cost file v t v_long

  long : length c ≡ file.objs
  long = c_long file c fits

  said : Inequality
  said = record { normal = w_of file z; bound = dot (side_bounds file) (u_of file z) }

  valid : IsValidAt file.objs (IsInWorkingImage file) c said
  unfolding said
  valid = record {
    valid = record {
      wide = w_long file (dual_unknowns file.objs file.cone) z z_long;
      holds = λ p k.
          cut_holds file.cols (normals file) (side_bounds file) (objectives file) (w_of file z) (u_of file z) k.solution p k.beyond
          record {
            one_each = u_long file (dual_unknowns file.objs file.cone) z z_long ∙ sym (length-map (sides file) (λ s. s.normal));
            at_least_zero = u_positive file (dual_unknowns file.objs file.cone) z z_long h.solves.at_least_zero;
            balanced = balanced file z z_long c long one_ℚ h.solves.equal;
          } k.meets k.same
          ((in_dual file.objs file.cone (w_of file z) (after_w_of file z) file.cone_vectors (w_long file (dual_unknowns file.objs file.cone) z z_long) (after_long file (dual_unknowns file.objs file.cone) z z_long)
          (after_positive file (dual_unknowns file.objs file.cone) z z_long h.solves.at_least_zero) (member file z z_long c long one_ℚ h.solves.equal)).within k.beyond k.in_cone);
    };
    normed = scaled_at file z z_long c long one_ℚ h.solves.equal;
  }

  reached : value_of y ≤ℚ zero_ℚ
  unfolding said
  reached =
      le_of_difference (value_of y) zero_ℚ (neg_ℚ (value_of y))
      (subst (λ (a : ℚ). zero_ℚ ≤ℚ a)
      (said_value file v t z v_long z_long ∙ ap neg_ℚ (optimal_value file c v t z y (benson_ok file c v t long v_long) h))
      (all.enough said valid (homogenised v (last_of t)) (length-homogenised file.objs v (last_of t) v_long) held))
      (add_neg (value_of y))

-- ---- all are named
slice_same : {X : Type 0} (xs : List X) (k : ℕ) (d e : X) → k < length xs → slice_index_or xs k d ≡ slice_index_or xs k e
slice_same [] k d e l = absurd (omega arith)
slice_same (x ∷ xs) zero d e l = refl
slice_same (x ∷ xs) (suc k) d e l = slice_same xs k d e (omega arith)

-- in a list without repetition equal members stand at one place
one_place : {X : Type 0} (xs : List X) (i j : ℕ) (d : X) → AllPairs (λ a b. a ≡ b → ⊥) xs → i < length xs → j < length xs →
    slice_index_or xs i d ≡ slice_index_or xs j d → i ≡ j
one_place xs i j d apart li lj same = elim (cases_lt i j) [
  | inl below ↦ absurd (apart i j d below lj same)
  | inr above ↦ elim (cases_lt j i) [
    | inl less ↦ absurd (apart j i d less li (sym same))
    | inr more ↦ omega (arith, above, more)
  ]
]

module _ (file : Problem) (c : List ℚ) (facets : List Inequality) (entries : List Entry) (all : AreAllFacets file c facets) (log : IsLog entries)
    (meet : AllMeet file entries) (ended : Contains entries (End kind.Solved)) (cuts_are : map inequality (state file.objs entries).cuts ≡ facets)
    (duality : duality_vector entries ≡ c) where
  abbrev s : State
  s = state file.objs entries

  exact : IsExactAlong file.objs (IsInWorkingImage file) (IsWorkingDirection file) (duality_vector entries) (lines entries)
      (listed file.objs (state file.objs entries) one_ℚ) (listed file.objs (state file.objs entries) zero_ℚ)
      (named_cuts (state file.objs entries) entries)
  exact =
      exactness_along (IsInWorkingImage file) (IsWorkingDirection file) file.objs (duality_vector entries) (lines entries) (in_use s) (live_vectors s)
      (listed file.objs s one_ℚ) (listed file.objs s zero_ℚ) (named_cuts s entries)
      (solved file (are_sound file) entries meet (solved_met file entries meet log.ends ended))

  all_named : (k : ℕ) → 1 ≤ k → k ≤ length facets → Contains (named entries) k
  all_named k low high =
      let none : Inequality = inequality (record { w = []; gamma = zero_ℚ; u = [] }) in
      let e : Inequality = slice_index_or facets (k - 1) none in
      let inside : Contains facets e = (k - 1, omega (arith, low, high), slice_same facets (k - 1) e none (omega (arith, low, high))) in
      let facet : IsFacet file.objs (IsInWorkingImage file) (duality_vector entries) e =
      subst (λ (d : List ℚ). IsFacet file.objs (IsInWorkingImage file) d e) (sym duality)
      (member_of (IsFacet file.objs (IsInWorkingImage file) c) facets e all.each inside) in
      let found : (j : ℕ) × Contains (named entries) j × (inequality (cut_at s.cuts j) ≡ e) =
      Contains-map_source (λ j. inequality (cut_at s.cuts j)) (named entries) e ((exact.facets_are e).1 facet) in
      let there : Exists s.cuts found.0 = member_of (Exists s.cuts) (named entries) found.0 (named_stand file entries meet).exist found.1 in
      let many : length facets ≡ length s.cuts = ap length (sym cuts_are) ∙ length-map s.cuts inequality in
      let same : found.0 - 1 ≡ k - 1 =
      one_place facets (found.0 - 1) (k - 1) none all.distinct (omega (arith, there.0, there.1, many)) (omega (arith, low, high))
      (ap (λ (es : List Inequality). slice_index_or es (found.0 - 1) none) (sym cuts_are)
      ∙ mapped s.cuts (found.0 - 1) (record { w = []; gamma = zero_ℚ; u = [] }) ∙ found.2) in
      let equal : found.0 ≡ k = omega (arith, same, there.0, low) in
      subst (λ (n : ℕ). Contains (named entries) n) equal found.1
    where
      mapped : (cs : List Stated) (n : ℕ) (d : Stated) → slice_index_or (map inequality cs) n (inequality d) ≡ inequality (slice_index_or cs n d)
      mapped [] n d = refl
      mapped (x ∷ cs) zero d = refl
      mapped (x ∷ cs) (suc n) d = mapped cs n d

pub all_facets : AllFacetsLaws
all_facets = record {
  across = across_all;
  rank = rank;
  reached = λ file c v t facets z y fits all v_long h held. reached file c v t facets z y fits all v_long h held;
  named = λ file c facets entries all log meet ended cuts_are duality k low high. all_named file c facets entries all log meet ended cuts_are duality k low high;
}
