-- How rows over dual vectors begin, and that certified generators stay.
use Rattle.std.proofs.Common.{◌≡◌, ◌≢◌, ℕ, zero, suc, List, [], ◌∷◌, ◌++◌, length, map, All, Contains, refl, sym, ap, ◌∙◌, subst, arith, ◌≤◌, ◌<◌, ◌-◌, ◌+◌, true, false, inl, inr, slice_index_or}
use Rattle.std.proofs.lemmas.List.{get_or_default}
use Rattle.std.proofs.lemmas.List.Elements.{All-cons, Contains-append_left, Contains-append_right}
use Rattle.exact_field.specs.Rational.{ℚ, zero_ℚ, le_ℚ, ◌-ℚ◌, ◌≤ℚ◌}
use Rattle.exact_field.specs.Vector.{dot, entry}
use Rattle.exact_field.specs.Ring.{v0, ◌⊝◌, num}
use Rattle.exact_field.proofs.RingTool.{ring}
use Rattle.exact_field.proofs.Rationals.{rationals}
use Rattle.std.specs.Prelude.{pos}
use Rattle.polyhedra.specs.Cone.{IsInDual}
use Rattle.polyhedra.specs.LiveList.{Numbered, LiveList, step, vectors}
use Rattle.polyhedra.specs.LiveSteps.{IsLive}
use Rattle.polyhedra.specs.Vectors.{AtLeastZero, zeros, AreWide}
use Rattle.polyhedra.proofs.Duality.{dual_cones}
use Rattle.polyhedra.proofs.Farkas.{generated_nonneg}
use Rattle.polyhedra.proofs.Laws.{le_refl}
use Rattle.polyhedra.proofs.Linear.{dot_comm, dot-zeros}
use Rattle.polyhedra.proofs.Lists.{Contains-here, Contains-there}
use Rattle.polyhedra.proofs.Members.{all_of_members, member_of, Contains-filter, Contains-map, Contains-map_source}
use Rattle.polyhedra.proofs.Support.{dot_nonneg}
use Rattle.polyhedra.proofs.TightRows.{same_vector_or_not}
use Rattle.tableaux.specs.Table.{listed, unit}
use Rattle.tableaux.proofs.Places.{length-list_from, list_from-place}
use Rattle.tableaux.proofs.Unique.{dot-unit}
use Rattle.vlp_problem.specs.declared.problem.Problem.{Problem}
use Rattle.vlp_problem.specs.declared.problem.Cone.{Cone}
use Rattle.vlp_problem.specs.declared.problem.Cone.TheVariants.{Orthant, Gens, Dual}
use Rattle.upper_image.specs.OrderingCone.{Fits, IsIn}
use Rattle.upper_image.proofs.ConvexCones.{ordering_cone_convex}
use Rattle.lp_form.proofs.Systems.{cone_wide}
use Rattle.overflows.specs.Base.{IsBaseChoice, IsBaseRow, IsConeDirection, IsDirectionOf, image_of}
use Rattle.overflows.specs.Base.IsBaseRow.{of_choice, of_cone}
use Rattle.geo_duality.specs.Rows.{exchange_row}
use Rattle.lower_image.specs.Lower.{AreLowerRows, AreSpanning, IsCertified, IsLower, dual_at, weight_at, dual_vector, inequality_of}
use Rattle.lower_image.specs.Laws.{IsWeighted, LowerStartLaws}
use Rattle.lower_image.proofs.Exchange.{exchange_at, weight_long}
use Rattle.lower_image.proofs.Generators.{lower_generators}
use Rattle.lower_image.proofs.LowerRows.{c_long, some, cone_direction, lower_rows}
use Rattle.vlp_problem.specs.Cones.{cone_fits}

-- ---- the first rows
begins : (file : Problem) (c x : List ℚ) (es : List (List ℚ)) → Fits file c → IsBaseChoice file x → AreSpanning file es →
    AreLowerRows file c (exchange_row c (image_of file x) true ∷ map (λ e. exchange_row c e false) es)
begins file c x es fits choice spans = record {
  base = All-cons (IsBaseRow file c) (exchange_row c (image_of file x) true) (map (λ e. exchange_row c e false) es) (of_choice x choice refl)
      (all_of_members (IsBaseRow file c) (map (λ e. exchange_row c e false) es) (λ r k.
      let s : (e : List ℚ) × Contains es e × (exchange_row c e false ≡ r) = Contains-map_source (λ e. exchange_row c e false) es r k in
      of_cone s.0 (member_of (IsConeDirection file) es s.0 spans.each s.1) (sym s.2)));
  point = x;
  feasible = choice.feasible;
  listed = Contains-here (exchange_row c (image_of file x) true) (map (λ e. exchange_row c e false) es) (exchange_row c (image_of file x) true) refl;
  in_dual = λ f gamma s long k.
      let f_again : length f ≡ length c - 1 = long ∙ ap (λ (n : ℕ). n - 1) (sym (c_long file c fits)) in
      spans.many (weight_at c f s) (weight_long c f s (some file c fits) f_again ∙ c_long file c fits)
      (all_of_members (λ e. zero_ℚ ≤ℚ dot (weight_at c f s) e) es (λ e m.
      subst (λ (a : ℚ). zero_ℚ ≤ℚ a)
      (exchange_at c e f gamma s false (some file c fits)
      ((ordering_cone_convex file).wide e (cone_direction file e (member_of (IsConeDirection file) es e spans.each m)) ∙ sym (c_long file c fits)) f_again
      ∙ no_bound (dot (weight_at c f s) e))
      (member_of (λ r. zero_ℚ ≤ℚ dot r (dual_at f gamma s)) (exchange_row c (image_of file x) true ∷ map (λ e. exchange_row c e false) es) (exchange_row c e false) k
      (Contains-there (exchange_row c (image_of file x) true) (map (λ e. exchange_row c e false) es) (exchange_row c e false)
      (Contains-map (λ e. exchange_row c e false) es e m)))));
}
  where
    no_bound : (a : ℚ) → a -ℚ zero_ℚ ≡ a
    no_bound a = ring rationals (a ∷ []) (v0 ⊝ num (pos 0)) v0 refl

-- other rows with the same members, whatever their order
again : (file : Problem) (c : List ℚ) (rows other : List (List ℚ)) → AreLowerRows file c rows → ((r : List ℚ) → Contains rows r → Contains other r) →
    ((r : List ℚ) → Contains other r → Contains rows r) → AreLowerRows file c other
again file c rows other h there back = record {
  base = all_of_members (IsBaseRow file c) other (λ r k. member_of (IsBaseRow file c) rows r h.base (back r k));
  point = h.point;
  feasible = h.feasible;
  listed = there (exchange_row c (image_of file h.point) true) h.listed;
  in_dual = λ f gamma s long k. h.in_dual f gamma s long
      (all_of_members (λ r. zero_ℚ ≤ℚ dot r (dual_at f gamma s)) rows (λ r m. member_of (λ r. zero_ℚ ≤ℚ dot r (dual_at f gamma s)) other r k (there r m)));
}

-- ---- directions that span
units_span : (file : Problem) → file.cone ≡ Orthant → AreSpanning file (listed file.objs (unit file.objs))
units_span file given = record {
  each = λ k d l.
      let inside : k < file.objs = omega (arith, l, length-list_from 1 file.objs (unit file.objs)) in
      subst (λ (cone : Cone). IsDirectionOf file.objs cone (slice_index_or (listed file.objs (unit file.objs)) k d)) (sym given)
      (1 + k, omega arith, omega (arith, inside), list_from-place 1 file.objs (unit file.objs) k d inside);
  many = λ w long h. subst (λ (cone : Cone). IsInDual file.objs (IsIn file.objs cone) w) (sym given)
      (record { wide = long; within = λ y k. dot_nonneg w y (positive w long h) k.entries });
}
  where
    positive : (w : List ℚ) → length w ≡ file.objs → All (λ e. zero_ℚ ≤ℚ dot w e) (listed file.objs (unit file.objs)) → AtLeastZero w
    positive w long h = λ k d l.
        let inside : k < file.objs = omega (arith, l, long) in
        let many : k < length (listed file.objs (unit file.objs)) = omega (arith, inside, length-list_from 1 file.objs (unit file.objs)) in
        let low : 1 ≤ 1 + k = omega arith in
        let high : 1 + k ≤ file.objs = omega (arith, inside) in
        let place : (1 + k) - 1 ≡ k = omega arith in
        subst (λ (a : ℚ). zero_ℚ ≤ℚ a)
        (ap (λ (e : List ℚ). dot w e) (list_from-place 1 file.objs (unit file.objs) k [] inside) ∙ dot_comm w (unit file.objs (1 + k)) ∙ dot-unit file.objs (1 + k) w low high
        ∙ ap (λ (n : ℕ). slice_index_or w n zero_ℚ) place ∙ get_or_default w k zero_ℚ d l)
        (h k [] many)

generators_span : (file : Problem) (vs es : List (List ℚ)) → file.cone ≡ Gens vs → ((e : List ℚ) → Contains es e → Contains vs e) →
    ((v : List ℚ) → Contains vs v → (v ≡ zeros file.objs → ⊥) → Contains es v) → AreSpanning file es
generators_span file vs es given inside all = record {
  each = all_of_members (IsConeDirection file) es (λ e k. subst (λ (cone : Cone). IsDirectionOf file.objs cone e) (sym given) (inside e k));
  many = λ w long h. subst (λ (cone : Cone). IsInDual file.objs (IsIn file.objs cone) w) (sym given)
      ((dual_cones.of_generated file.objs vs w wide).1 record {
        wide = long;
        within = all_of_members (λ v. zero_ℚ ≤ℚ dot v w) vs (λ v k. rises v w k h);
      });
}
  where
    wide : AreWide file.objs vs
    wide = cone_wide file.objs (Gens vs) (subst (λ (cone : Cone). cone_fits file.objs cone ≡ true) given file.cone_vectors)

    rises : (v w : List ℚ) → Contains vs v → All (λ e. zero_ℚ ≤ℚ dot w e) es → zero_ℚ ≤ℚ dot v w
    rises v w k h = elim (same_vector_or_not v (zeros file.objs)) [
      | inl none ↦ subst (λ (a : ℚ). zero_ℚ ≤ℚ a) (sym (ap (λ (u : List ℚ). dot u w) none ∙ dot_comm (zeros file.objs) w ∙ dot-zeros w file.objs)) (le_refl zero_ℚ)
      | inr other ↦ subst (λ (a : ℚ). zero_ℚ ≤ℚ a) (dot_comm w v) (member_of (λ e. zero_ℚ ≤ℚ dot w e) es v h (all v k other))
    ]

dual_form_spans : (file : Problem) (vs rows : List (List ℚ)) (list : LiveList) → file.cone ≡ Dual vs → IsLive file.objs rows list →
    ((r : List ℚ) → Contains rows r → Contains vs r) → ((v : List ℚ) → Contains vs v → (v ≡ zeros file.objs → ⊥) → Contains rows v) →
    All (IsConeDirection file) (vectors list.live) → AreSpanning file (vectors list.live)
dual_form_spans file vs rows list given live inside all each = record {
  each = each;
  many = λ w long h. subst (λ (cone : Cone). IsInDual file.objs (IsIn file.objs cone) w) (sym given) record {
    wide = long;
    within = λ y k. generated_nonneg file.objs (vectors list.live) w y h
        (live.described.generates y record {
          wide = k.wide;
          within = all_of_members (λ r. zero_ℚ ≤ℚ dot r y) rows (λ r m. member_of (λ v. zero_ℚ ≤ℚ dot v y) vs r k.within (inside r m));
        });
  };
}

-- ---- certified generators stay
stays : (file : Problem) (c : List ℚ) (rows : List (List ℚ)) (list : LiveList) (row : List ℚ) (g : Numbered) → Fits file c → IsLower file c rows list →
    IsBaseRow file c row → Contains list.live g → entry g.vector (suc file.objs) ≢ zero_ℚ → IsCertified file c g.vector →
    Contains (step rows list row).live g
stays file c rows list row g fits h base listed other certified =
    Contains-append_left _ _ g (Contains-filter (λ k. le_ℚ zero_ℚ (dot row k.vector)) list.live g listed held)
  where
    told : IsWeighted file c g.vector
    told = lower_generators.weighted file c rows list g.vector fits h (Contains-map (λ (k : Numbered). k.vector) list.live g listed) other

    held : zero_ℚ ≤ℚ dot row g.vector
    held =
        subst (λ (v : List ℚ). zero_ℚ ≤ℚ dot row v) (sym told.same)
        (member_of (λ r. zero_ℚ ≤ℚ dot r (dual_vector c (inequality_of file.objs c g.vector))) (rows ++ row ∷ []) row
        (lower_rows.holds file c (rows ++ row ∷ []) (inequality_of file.objs c g.vector) fits (lower_rows.grows file c rows row h.rows_are base) certified)
        (Contains-append_right rows (row ∷ []) row (Contains-here row [] row refl)))

pub lower_start : LowerStartLaws
lower_start = record {
  begins = begins;
  again = again;
  units = units_span;
  generators = generators_span;
  dual_form = dual_form_spans;
  stays = stays;
}
