-- Certified generators are exactly enough: each is a facet, and each valid inequality follows from them.
use Rattle.std.proofs.Common.{◌≡◌, ◌≢◌, ℕ, zero, suc, List, [], ◌∷◌, ◌++◌, length, map, take, All, Contains, refl, sym, ap, ap₂, ◌∙◌, subst, arith, ◌≤◌, ◌<◌, ◌-◌, Bool, true, false, not, inl, inr, true≢false}
use Rattle.std.specs.Prelude.{pos, negsuc}
use Rattle.std.proofs.Math.Seq.{take-append_seam}
use Rattle.std.proofs.lemmas.List.{length-take-le}
use Rattle.exact_field.specs.Rational.{ℚ, zero_ℚ, one_ℚ, ◌+ℚ◌, ◌-ℚ◌, ◌*ℚ◌, neg_ℚ, inverse_ℚ, ◌≤ℚ◌, ◌<ℚ◌}
use Rattle.exact_field.specs.Vector.{dot, entry, front}
use Rattle.exact_field.specs.Ring.{v0, v1, v2, ◌⊕◌, ◌⊝◌, ◌⊗◌, ⊖, num}
use Rattle.exact_field.proofs.RingTool.{ring}
use Rattle.exact_field.proofs.Rationals.{rationals, same_or_not}
use Rattle.polyhedra.specs.Cone.{IsInCone}
use Rattle.polyhedra.specs.DoubleDescription.{is_zero}
use Rattle.polyhedra.specs.Exactness.{level, row_of, rows_of}
use Rattle.polyhedra.specs.Hull.{IsValidAt, IsFacet, IsMultiple, IsExtremeDirection}
use Rattle.polyhedra.specs.Inequality.{Inequality}
use Rattle.polyhedra.specs.LiveList.{LiveList, vectors}
use Rattle.polyhedra.specs.Vectors.{zeros, plus, scaled}
use Rattle.polyhedra.proofs.Algebra.{one_mul}
use Rattle.polyhedra.proofs.Farkas.{generated_nonneg}
use Rattle.polyhedra.proofs.Generators.{described_are_distinct}
use Rattle.polyhedra.proofs.Homogenised.{IsHomogenised, level_value, row_value, unhomogenised}
use Rattle.polyhedra.proofs.Laws.{le_of_lt, mul_inverse, mul_nonneg, mul_one, zero_lt_one}
use Rattle.polyhedra.proofs.Linear.{dot_comm, dot-plus, dot-scaled, dot-zeros, length-plus, length-scaled, length-zeros, same_wide}
use Rattle.polyhedra.proofs.LiveSteps.{are_live}
use Rattle.polyhedra.proofs.Members.{all_of_members, member_of, Contains-map, Contains-map_source, Contains-filter, Contains-filter_source, pairs-map, pairs-weaker, pairs-filter}
use Rattle.polyhedra.proofs.Order.{add_positive, inverse_positive}
use Rattle.polyhedra.proofs.Tests.{test_of_zero, test_of_other}
use Rattle.vlp_problem.specs.declared.problem.Problem.{Problem}
use Rattle.upper_image.specs.OrderingCone.{Fits}
use Rattle.upper_image.specs.UpperImage.{IsInWorkingImage}
use Rattle.lower_image.specs.Lower.{AreAllFacets, IsCertified, IsLower, dual_at, weight_at, dual_vector, inequality_of, weighted as weighted_of}
use Rattle.lower_image.specs.Laws.{CertifiedAreFacets, IsWeighted}
use Rattle.lower_image.proofs.Exchange.{one_more, tilt, tilt_value, weight_again, dual_long}
use Rattle.lower_image.proofs.Generators.{in_cone, lower_generators}
use Rattle.lower_image.proofs.LowerRows.{c_long, c_last, some, lower_rows}
use Rattle.lower_image.proofs.Turns.{entry_bound, entry_last, entry-scaled}
use Rattle.polyhedra.proofs.Lists.{Contains-here, Contains-there}

-- ---- sums of dual vectors
plus_duals : (f g : List ℚ) (a b s t : ℚ) → length f ≡ length g → plus (dual_at f a s) (dual_at g b t) ≡ dual_at (plus f g) (a +ℚ b) (s +ℚ t)
plus_duals [] [] a b s t l = refl
plus_duals [] (y ∷ g) a b s t l = absurd (omega arith)
plus_duals (x ∷ f) [] a b s t l = absurd (omega arith)
plus_duals (x ∷ f) (y ∷ g) a b s t l = ap (λ (v : List ℚ). (x +ℚ y) ∷ v) (plus_duals f g a b s t (omega arith))

take-plus : (n : ℕ) (u v : List ℚ) → length u ≡ length v → take n (plus u v) ≡ plus (take n u) (take n v)
take-plus zero u v l = refl
take-plus (suc n) [] [] l = refl
take-plus (suc n) [] (y ∷ v) l = absurd (omega arith)
take-plus (suc n) (x ∷ u) [] l = absurd (omega arith)
take-plus (suc n) (x ∷ u) (y ∷ v) l = ap (λ (w : List ℚ). (x +ℚ y) ∷ w) (take-plus n u v (omega arith))

-- ---- halves
abbrev half : ℚ
half = inverse_ℚ (one_ℚ +ℚ one_ℚ)

two_positive : zero_ℚ <ℚ one_ℚ +ℚ one_ℚ
two_positive = add_positive one_ℚ one_ℚ zero_lt_one (le_of_lt zero_ℚ one_ℚ zero_lt_one)

half_nonneg : zero_ℚ ≤ℚ half
half_nonneg = le_of_lt zero_ℚ half (inverse_positive (one_ℚ +ℚ one_ℚ) two_positive)

doubled : (a : ℚ) → half *ℚ (a +ℚ a) ≡ a
doubled a = regroup half a ∙ ap (λ (k : ℚ). k *ℚ a) (mul_inverse (one_ℚ +ℚ one_ℚ) two_positive) ∙ one_mul a
  where
    regroup : (k b : ℚ) → k *ℚ (b +ℚ b) ≡ ((one_ℚ +ℚ one_ℚ) *ℚ k) *ℚ b
    regroup k b = ring rationals (k ∷ b ∷ []) (v0 ⊗ (v1 ⊕ v1)) (((num (pos 1) ⊕ num (pos 1)) ⊗ v0) ⊗ v1) refl

-- an extreme direction is no midpoint of two others with the same last entry
module _ (n : ℕ) (rows : List (List ℚ)) (g A B : List ℚ) (extreme : IsExtremeDirection n (IsInCone n rows) g) (g_long : length g ≡ n)
    (A_in : IsInCone n rows A) (B_in : IsInCone n rows B) (sum : plus g g ≡ plus A B) (place : ℕ) (g_one : entry g place ≡ one_ℚ) where
  half_in : (v : List ℚ) → IsInCone n rows v → IsInCone n rows (scaled half v)
  half_in v k = record {
    wide = length-scaled half v ∙ k.wide;
    within = all_of_members (λ r. zero_ℚ ≤ℚ dot r (scaled half v)) rows
        (λ r m. subst (λ (a : ℚ). zero_ℚ ≤ℚ a) (sym (dot-scaled r half v)) (mul_nonneg half (dot r v) half_nonneg (member_of (λ r. zero_ℚ ≤ℚ dot r v) rows r k.within m)));
  }

  halves : g ≡ plus (scaled half A) (scaled half B)
  halves =
      same_wide n g (plus (scaled half A) (scaled half B)) g_long
      (length-plus n (scaled half A) (scaled half B) (length-scaled half A ∙ A_in.wide) (length-scaled half B ∙ B_in.wide))
      (λ r. sym (doubled (dot r g))
      ∙ ap (λ (a : ℚ). half *ℚ a) (sym (dot-plus r g g) ∙ ap (λ (v : List ℚ). dot r v) sum ∙ dot-plus r A B)
      ∙ spread half (dot r A) (dot r B)
      ∙ sym (dot-plus r (scaled half A) (scaled half B) ∙ ap₂ (λ (a b : ℚ). a +ℚ b) (dot-scaled r half A) (dot-scaled r half B)))
    where
      spread : (k a b : ℚ) → k *ℚ (a +ℚ b) ≡ k *ℚ a +ℚ k *ℚ b
      spread k a b = ring rationals (k ∷ a ∷ b ∷ []) (v0 ⊗ (v1 ⊕ v2)) (v0 ⊗ v1 ⊕ v0 ⊗ v2) refl

  half_same : (v : List ℚ) → length v ≡ n → entry v place ≡ one_ℚ → IsMultiple g (scaled half v) → v ≡ g
  half_same v long one m =
      same_wide n v g long g_long
      (λ r. sym (doubled (dot r v)) ∙ spread half (dot r v) ∙ ap₂ (λ (a b : ℚ). a +ℚ b) (value r) (value r) ∙ sym (spread half (dot r g)) ∙ doubled (dot r g))
    where
      spread : (k a : ℚ) → k *ℚ (a +ℚ a) ≡ k *ℚ a +ℚ k *ℚ a
      spread k a = ring rationals (k ∷ a ∷ []) (v0 ⊗ (v1 ⊕ v1)) (v0 ⊗ v1 ⊕ v0 ⊗ v1) refl

      factor : m.factor ≡ half
      factor =
          sym (mul_one m.factor) ∙ ap (λ (a : ℚ). m.factor *ℚ a) (sym g_one) ∙ sym (entry-scaled m.factor g place)
          ∙ ap (λ (u : List ℚ). entry u place) (sym m.same) ∙ entry-scaled half v place ∙ ap (λ (a : ℚ). half *ℚ a) one ∙ mul_one half

      value : (r : List ℚ) → half *ℚ dot r v ≡ half *ℚ dot r g
      value r = sym (dot-scaled r half v) ∙ ap (λ (u : List ℚ). dot r u) m.same ∙ dot-scaled r m.factor g ∙ ap (λ (k : ℚ). k *ℚ dot r g) factor

  midpoint : entry A place ≡ one_ℚ → entry B place ≡ one_ℚ → (A ≡ g) × (B ≡ g)
  midpoint a_one b_one =
      let both : IsMultiple g (scaled half A) × IsMultiple g (scaled half B) =
      extreme.no_sum (scaled half A) (scaled half B) (half_in A A_in) (half_in B B_in) halves in
      (half_same A A_in.wide a_one both.0, half_same B B_in.wide b_one both.1)

-- ---- inequalities by their dual vectors
module _ (file : Problem) (c : List ℚ) (fits : Fits file c) where
  -- of an inequality whose normal has the product 1 with c
  pub record IsNormedAt (e : Inequality) : Type 0 where
    pub wide : length e.normal ≡ file.objs
    pub normed : dot e.normal c ≡ one_ℚ

  front_wide : (e : Inequality) → IsNormedAt e → length (front e.normal) ≡ file.objs - 1
  front_wide e h = length-take-le (length e.normal - 1) e.normal (omega arith) ∙ omega (arith, h.wide)

  again : (e : Inequality) → IsNormedAt e → weight_at c (front e.normal) (dot e.normal c) ≡ e.normal
  again e h = weight_again c e.normal (some file c fits) (h.wide ∙ sym (c_long file c fits)) (c_last file c fits)

  pub vector_wide : (e : Inequality) → IsNormedAt e → length (dual_vector c e) ≡ suc file.objs
  vector_wide e h = dual_long (front e.normal) e.bound (dot e.normal c) file.objs file.some_objective (front_wide e h)

  -- two are equal where their dual vectors are
  pub same_inequality : (a b : Inequality) → IsNormedAt a → IsNormedAt b → dual_vector c a ≡ dual_vector c b → a ≡ b
  same_inequality a b h k e =
      ap₂ (λ (n : List ℚ) (r : ℚ). record { normal = n; bound = r })
      (sym (again a h) ∙ ap₂ (λ (v : List ℚ) (s : ℚ). weight_at c v s) fronts (h.normed ∙ sym k.normed) ∙ again b k)
      (sym (entry_bound file.objs (front a.normal) a.bound (dot a.normal c) file.some_objective (front_wide a h))
      ∙ ap (λ (v : List ℚ). entry v file.objs) e ∙ entry_bound file.objs (front b.normal) b.bound (dot b.normal c) file.some_objective (front_wide b k))
    where
      fronts : front a.normal ≡ front b.normal
      fronts =
          sym (ap (λ (n : ℕ). take n (dual_vector c a)) (sym (front_wide a h)) ∙ take-append_seam (front a.normal) (a.bound ∷ dot a.normal c ∷ []))
          ∙ ap (λ (v : List ℚ). take (file.objs - 1) v) e
          ∙ ap (λ (n : ℕ). take n (dual_vector c b)) (sym (front_wide b k)) ∙ take-append_seam (front b.normal) (b.bound ∷ dot b.normal c ∷ [])

  -- the tilted row of y at the dual vector of an inequality
  tilt_at : (e : Inequality) (y : List ℚ) (k : ℚ) → IsNormedAt e → length y ≡ file.objs → dot (tilt c y k) (dual_vector c e) ≡ dot e.normal y +ℚ k *ℚ e.bound
  tilt_at e y k h long =
      tilt_value c y (front e.normal) e.bound (dot e.normal c) k (some file c fits) (long ∙ sym (c_long file c fits))
      (front_wide e h ∙ ap (λ (n : ℕ). n - 1) (sym (c_long file c fits)))
      ∙ ap (λ (v : List ℚ). dot v y +ℚ k *ℚ e.bound) (again e h)

  of_valid : (e : Inequality) → IsValidAt file.objs (IsInWorkingImage file) c e → IsNormedAt e
  of_valid e v = record { wide = v.wide; normed = v.normed }

  -- ---- the generators
  module _ (rows : List (List ℚ)) (list : LiveList) (h : IsLower file c rows list) where
    abbrev gens : List (List ℚ)
    gens = vectors list.live

    abbrev said : List ℚ → Inequality
    said g = inequality_of file.objs c g

    long : (g : List ℚ) → Contains gens g → length g ≡ suc file.objs
    long g k = (in_cone file c rows list g fits h k).wide

    source : (g : List ℚ) → Contains (weighted_of gens) g → Contains gens g × (entry g (suc file.objs) ≢ zero_ℚ)
    source g k =
        let s : Contains gens g × (not (is_zero (entry g (length g))) ≡ true) = Contains-filter_source (λ v. not (is_zero (entry v (length v)))) gens g k in (
          s.0,
          λ e. falsum (is_zero (entry g (length g))) (test_of_zero _ (ap (λ (n : ℕ). entry g n) (long g s.0) ∙ e)) s.1,
        )
      where
        falsum : (b : Bool) → b ≡ true → not b ≡ true → ⊥
        falsum true d e = true≢false (sym e)
        falsum false d e = true≢false (sym d)

    told : (g : List ℚ) → Contains (weighted_of gens) g → IsWeighted file c g
    told g k = lower_generators.weighted file c rows list g fits h (source g k).0 (source g k).1

    normed_at : (g : List ℚ) → Contains (weighted_of gens) g → IsNormedAt (said g)
    normed_at g k = record { wide = (told g k).wide; normed = (told g k).normed }

    -- a valid inequality is in the cone
    valid_in : (e : Inequality) → IsValidAt file.objs (IsInWorkingImage file) c e → IsInCone (suc file.objs) rows (dual_vector c e)
    valid_in e v = record { wide = vector_wide e (of_valid e v); within = lower_rows.holds file c rows e fits h.rows_are v }

    -- ---- facets
    facet : (g : List ℚ) → Contains (weighted_of gens) g → IsCertified file c g → IsFacet file.objs (IsInWorkingImage file) c (said g)
    facet g k certified = record {
      valid = certified;
      no_midpoint = λ a b va vb normals bounds.
          let A : List ℚ = dual_vector c a in
          let B : List ℚ = dual_vector c b in
          let na : IsNormedAt a = of_valid a va in
          let nb : IsNormedAt b = of_valid b vb in
          let ng : IsNormedAt (said g) = normed_at g k in
          let extreme : IsExtremeDirection (suc file.objs) (IsInCone (suc file.objs) rows) g =
          ((are_live.extreme (suc file.objs) rows list h.live g).0 (source g k).0).0 in
          let sum : plus g g ≡ plus A B =
          ap (λ (v : List ℚ). plus v v) (told g k).same
          ∙ plus_duals (front (said g).normal) (front (said g).normal) (said g).bound (said g).bound (dot (said g).normal c) (dot (said g).normal c) refl
          ∙ ap₂ (λ (v : List ℚ) (r : ℚ). dual_at v r (dot (said g).normal c +ℚ dot (said g).normal c)) (fronts a b (said g) na nb ng normals) bounds
          ∙ ap (λ (s : ℚ). dual_at (plus (front a.normal) (front b.normal)) (a.bound +ℚ b.bound) s) (ap₂ (λ (s t : ℚ). s +ℚ t) (ng.normed ∙ sym na.normed) (ng.normed ∙ sym nb.normed))
          ∙ sym (plus_duals (front a.normal) (front b.normal) a.bound b.bound (dot a.normal c) (dot b.normal c) (front_wide a na ∙ sym (front_wide b nb))) in
          let both : (A ≡ g) × (B ≡ g) =
          midpoint (suc file.objs) rows g A B extreme (long g (source g k).0) (valid_in a va) (valid_in b vb) sum (suc file.objs) (told g k).last (last_one a na) (last_one b nb) in (
            same_inequality a (said g) na ng (both.0 ∙ (told g k).same),
            same_inequality b (said g) nb ng (both.1 ∙ (told g k).same),
          );
    }
      where
        last_one : (e : Inequality) → IsNormedAt e → entry (dual_vector c e) (suc file.objs) ≡ one_ℚ
        last_one e n = entry_last file.objs (front e.normal) e.bound (dot e.normal c) file.some_objective (front_wide e n) ∙ n.normed

        fronts : (a b e : Inequality) → IsNormedAt a → IsNormedAt b → IsNormedAt e → plus e.normal e.normal ≡ plus a.normal b.normal →
            plus (front e.normal) (front e.normal) ≡ plus (front a.normal) (front b.normal)
        fronts a b e na nb ne same =
            ap (λ (n : ℕ). plus (take (n - 1) e.normal) (take (n - 1) e.normal)) ne.wide
            ∙ sym (take-plus (file.objs - 1) e.normal e.normal refl) ∙ ap (λ (v : List ℚ). take (file.objs - 1) v) same
            ∙ take-plus (file.objs - 1) a.normal b.normal (na.wide ∙ sym nb.wide)
            ∙ ap₂ (λ (m n : ℕ). plus (take (m - 1) a.normal) (take (n - 1) b.normal)) (sym na.wide) (sym nb.wide)

    -- ---- all that is valid follows
    follows : (e : Inequality) → IsValidAt file.objs (IsInWorkingImage file) c e → (z : List ℚ) → length z ≡ suc file.objs →
        All (λ r. zero_ℚ ≤ℚ dot r z) (rows_of file.objs (map said (weighted_of gens))) → zero_ℚ ≤ℚ dot (row_of e) z
    follows e v z z_long held =
        subst (λ (x : ℚ). zero_ℚ ≤ℚ x) (tilt_at e y (neg_ℚ t) (of_valid e v) y_long ∙ sym (at e v.wide))
        (generated_nonneg (suc file.objs) gens (tilt c y (neg_ℚ t)) (dual_vector c e)
        (all_of_members (λ g. zero_ℚ ≤ℚ dot (tilt c y (neg_ℚ t)) g) gens each) (h.live.described.generates (dual_vector c e) (valid_in e v)))
      where
        parted : IsHomogenised file.objs z
        parted = unhomogenised file.objs z z_long

        y : List ℚ
        y = parted.front

        t : ℚ
        t = parted.last

        y_long : length y ≡ file.objs
        y_long = parted.wide

        at : (i : Inequality) → length i.normal ≡ file.objs → dot (row_of i) z ≡ dot i.normal y +ℚ neg_ℚ t *ℚ i.bound
        at i wide =
            ap (λ (u : List ℚ). dot (row_of i) u) parted.same ∙ row_value i y t (wide ∙ sym y_long)
            ∙ ap (λ (a : ℚ). dot i.normal y +ℚ a) (ring rationals (i.bound ∷ t ∷ []) (⊖ v0 ⊗ v1) (⊖ v1 ⊗ v0) refl)

        t_nonneg : zero_ℚ ≤ℚ t
        t_nonneg =
            subst (λ (a : ℚ). zero_ℚ ≤ℚ a) (ap (λ (u : List ℚ). dot (level file.objs) u) parted.same ∙ level_value file.objs y t y_long)
            (member_of (λ r. zero_ℚ ≤ℚ dot r z) (rows_of file.objs (map said (weighted_of gens))) (level file.objs) held
            (Contains-here (level file.objs) (map row_of (map said (weighted_of gens))) (level file.objs) refl))

        each : (g : List ℚ) → Contains gens g → zero_ℚ ≤ℚ dot (tilt c y (neg_ℚ t)) g
        each g k = elim (same_or_not (entry g (suc file.objs)) zero_ℚ) [
          | inl none ↦
              subst (λ (a : ℚ). zero_ℚ ≤ℚ a)
              (sym (ap (λ (u : List ℚ). dot (tilt c y (neg_ℚ t)) u) (lower_generators.other file c rows list g fits h k none)
              ∙ tilt_value c y (zeros (file.objs - 1)) (neg_ℚ one_ℚ) zero_ℚ (neg_ℚ t) (some file c fits) (y_long ∙ sym (c_long file c fits))
              (length-zeros (file.objs - 1) ∙ ap (λ (n : ℕ). n - 1) (sym (c_long file c fits)))
              ∙ ap (λ (a : ℚ). a +ℚ neg_ℚ t *ℚ neg_ℚ one_ℚ) (nothing y) ∙ ring rationals (t ∷ []) (num (pos 0) ⊕ ⊖ v0 ⊗ ⊖ (num (pos 1))) v0 refl))
              t_nonneg
          | inr some_weight ↦
              let inside : Contains (weighted_of gens) g =
              Contains-filter (λ u. not (is_zero (entry u (length u)))) gens g k
              (ap not (test_of_other _ (λ e. some_weight (ap (λ (n : ℕ). entry g n) (sym (long g k)) ∙ e)))) in
              subst (λ (a : ℚ). zero_ℚ ≤ℚ a)
              (at (said g) (told g inside).wide ∙ sym (tilt_at (said g) y (neg_ℚ t) (normed_at g inside) y_long)
              ∙ ap (λ (u : List ℚ). dot (tilt c y (neg_ℚ t)) u) (sym (told g inside).same))
              (member_of (λ r. zero_ℚ ≤ℚ dot r z) (rows_of file.objs (map said (weighted_of gens))) (row_of (said g)) held
              (Contains-there (level file.objs) (map row_of (map said (weighted_of gens))) (row_of (said g))
              (Contains-map row_of (map said (weighted_of gens)) (said g) (Contains-map said (weighted_of gens) g inside))))
        ]
          where
            nothing : (u : List ℚ) → dot (weight_at c (zeros (file.objs - 1)) zero_ℚ) u ≡ zero_ℚ
            nothing u =
                ap (λ (v : List ℚ). dot v u)
                (ap (λ (a : ℚ). zeros (file.objs - 1) ++ a ∷ [])
                (ap (λ (a : ℚ). zero_ℚ -ℚ a) (dot-zeros (front c) (file.objs - 1)) ∙ ring rationals [] (num (pos 0) ⊝ num (pos 0)) (num (pos 0)) refl)
                ∙ one_more (file.objs - 1))
                ∙ dot_comm (zeros (suc (file.objs - 1))) u ∙ dot-zeros u (suc (file.objs - 1))

    all_facets_are : All (IsCertified file c) (weighted_of gens) → AreAllFacets file c (map said (weighted_of gens))
    all_facets_are certified = record {
      each = all_of_members (IsFacet file.objs (IsInWorkingImage file) c) (map said (weighted_of gens))
          (λ e k.
          let s : (g : List ℚ) × Contains (weighted_of gens) g × (said g ≡ e) = Contains-map_source said (weighted_of gens) e k in
          subst (IsFacet file.objs (IsInWorkingImage file) c) s.2 (facet s.0 s.1 (member_of (IsCertified file c) (weighted_of gens) s.0 certified s.1)));
      distinct = pairs-map (λ a b. a ≡ b → ⊥) said (weighted_of gens)
          (pairs-weaker (λ a b. a ≡ b → ⊥) (λ a b. said a ≡ said b → ⊥) (weighted_of gens)
          (λ a b ka kb differ same. differ ((told a ka).same ∙ ap (λ (e : Inequality). dual_vector c e) same ∙ sym (told b kb).same))
          (pairs-filter (λ a b. a ≡ b → ⊥) (λ v. not (is_zero (entry v (length v)))) gens (described_are_distinct (suc file.objs) rows gens h.live.described).once));
      enough = follows;
    }

pub certified_are_facets : CertifiedAreFacets
certified_are_facets file c rows list fits h certified = all_facets_are file c fits rows list h certified
