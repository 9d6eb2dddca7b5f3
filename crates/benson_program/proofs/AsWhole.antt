-- Where Benson's program has no solution, its multipliers, divided by the magnitude of the last, are a pre-image of the direction -c.
use Rattle.std.proofs.Common.{◌≡◌, ℕ, suc, List, [], ◌∷◌, ◌++◌, map, length, take, drop, refl, sym, ap, ap₂, ◌∙◌, subst, arith, ◌≤◌, ◌+◌, ◌-◌, zero, Bool, true, false, not, true≢false}
use Rattle.std.specs.Prelude.{pos, if◌then◌else◌}
use Rattle.std.proofs.lemmas.List.{replicate-append-replicate}
use Rattle.exact_field.specs.Rational.{ℚ, zero_ℚ, one_ℚ, ◌+ℚ◌, ◌*ℚ◌, neg_ℚ, inverse_ℚ, le_ℚ, ◌≤ℚ◌, ◌<ℚ◌}
use Rattle.exact_field.specs.Vector.{dot, entry}
use Rattle.exact_field.specs.Ring.{v0, v1, v2, v3, v4, ◌⊕◌, ◌⊗◌, ⊖, num}
use Rattle.exact_field.proofs.RingTool.{ring_by_two}
use Rattle.exact_field.proofs.Rationals.{rationals}
use Rattle.frac128.specs.declared.vectors.Spot.{Spot}
use Rattle.polyhedra.specs.DoubleDescription.{magnitude}
use Rattle.polyhedra.specs.Negatives.{negated}
use Rattle.polyhedra.specs.Vectors.{AtLeastZero, zeros, scaled, combination, values}
use Rattle.polyhedra.proofs.Algebra.{zero_add}
use Rattle.polyhedra.proofs.Laws.{add_zero, le_of_lt, mul_comm, mul_inverse, mul_nonneg}
use Rattle.polyhedra.proofs.Linear.{dot-combination, dot-plus, dot-scaled, dot-scaled_left, dot-zeros, length-scaled, length-zeros}
use Rattle.polyhedra.proofs.Negatives.{dot-negated, negated-zeros}
use Rattle.polyhedra.proofs.Order.{inverse_positive, neg_positive}
use Rattle.tableaux.specs.Simplex.{IsInfeasible}
use Rattle.tableaux.specs.Table.{column_of}
use Rattle.tableaux.proofs.Unique.{slice-zeros}
use Rattle.vlp_problem.specs.Sides.{IsFeasible, IsRecession}
use Rattle.vlp_problem.specs.declared.problem.Problem.{Problem}
use Rattle.vlp_problem.specs.declared.problem.Cone.{Cone}
use Rattle.vlp_problem.specs.declared.problem.Cone.TheVariants.{Orthant, Gens, Dual}
use Rattle.upper_image.specs.OrderingCone.{IsInOrderingCone, Fits}
use Rattle.upper_image.specs.Shows.{ShowsIn, ShowsAbove}
use Rattle.upper_image.specs.Spots.{dense, IsVector}
use Rattle.upper_image.specs.UpperImage.{objectives, rest}
use Rattle.upper_image.specs.Witnesses.{IsWhole}
use Rattle.upper_image.proofs.ConvexCones.{cone_convex, ordering_cone_convex}
use Rattle.upper_image.proofs.WorkingImage.{rest_wide}
use Rattle.lp_form.specs.Programs.{side_total, on_parts, dual_unknowns, dual_equations, generators, benson_system, choice_of, value_of, share_of}
use Rattle.lp_form.proofs.Systems.{length-negated}
use Rattle.overflows.specs.Trails.{divided_by}
use Rattle.overflows.proofs.Cuts.{benson_unknowns, length-benson_cost}
use Rattle.overflows.proofs.CutTurns.{last_value}
use Rattle.benson_program.specs.Laws.{BensonWhole}
use Rattle.benson_program.proofs.Blocks.{asked, benson_equations}
use Rattle.benson_program.proofs.AsPreimage.{shares, multipliers_long, sides_rise}
use Rattle.benson_program.proofs.Priced.{pulled, pulled-value, pushed, x_long, p_long, normals_at_least, shares_positive, rest_value}
use Rattle.benson_program.proofs.Shown.{IsMade, AreMade, made_member, shows_made}

-- ---- multiples
pulled-scaled : (q : ℕ) (cone : Cone) (s : ℚ) (p r : List ℚ) → dot r (pulled q cone (scaled s p)) ≡ s *ℚ dot r (pulled q cone p)
pulled-scaled q cone s p r =
    pulled-value q cone (scaled s p) r ∙ dot-scaled_left s p (asked cone r) ∙ ap (λ x. s *ℚ x) (sym (pulled-value q cone p r))

nonneg-scaled : (s : ℚ) (v : List ℚ) → zero_ℚ ≤ℚ s → AtLeastZero v → AtLeastZero (scaled s v)
nonneg-scaled s v positive h = ((cone_convex (length v) Orthant refl).multiple s v positive record { wide = refl; entries = h }).entries

pushed-scaled : (cone : Cone) (s : ℚ) (p : List ℚ) → zero_ℚ ≤ℚ s → AtLeastZero (pushed cone p) → AtLeastZero (pushed cone (scaled s p))
pushed-scaled Orthant s p positive h = nonneg-scaled s p positive h
pushed-scaled (Gens vectors) s p positive h = nonneg-scaled s p positive h
pushed-scaled (Dual vectors) s p positive h = subst AtLeastZero (go vectors) (nonneg-scaled s (values vectors p) positive h)
  where
    go : (vs : List (List ℚ)) → scaled s (values vs p) ≡ values vs (scaled s p)
    go [] = refl
    go (v ∷ vs) = ap₂ (λ a b. a ∷ b) (sym (dot-scaled v s p)) (go vs)

-- where the multipliers of the generators are the shares, they make what these give
share_made : (file : Problem) (q : ℕ) (cone : Cone) (y : List ℚ) (s : ℚ) (m : List Spot) → zero_ℚ ≤ℚ s → AtLeastZero (pushed cone (shares file q cone y)) →
    dense (length (generators cone)) m ≡ scaled s (share_of file cone y) → AreMade cone (scaled s (shares file q cone y)) (zeros q) m
share_made file q Orthant y s m positive h same = tt
share_made file q (Dual vectors) y s m positive h same = tt
share_made file q (Gens vectors) y s m positive h same =
    let n : List ℚ = negated (take (length vectors) (drop file.cols y)) in (
      subst AtLeastZero (sym same) (nonneg-scaled s n positive h),
      λ r. ap (λ x. dot (scaled s n) (values vectors r) +ℚ x) (dot-zeros r q) ∙ add_zero (dot (scaled s n) (values vectors r))
          ∙ ap (λ x. dot x (values vectors r)) (sym same),
    )

no_cost : (m q more : ℕ) → on_parts (zeros m) (negated (zeros q)) (zeros more) ≡ zeros (m + q + q + more)
no_cost m q more =
    ap₂ (λ a b. zeros m ++ a ++ b ++ zeros more) (negated-zeros q) (ap negated (negated-zeros q) ∙ negated-zeros q)
    ∙ ap (λ a. a ++ zeros q ++ zeros more) (replicate-append-replicate m q zero_ℚ) ∙ ap (λ a. a ++ zeros more) (replicate-append-replicate (m + q) q zero_ℚ)
    ∙ replicate-append-replicate (m + q + q) more zero_ℚ

-- the magnitude of a negative number
not_true : (b : Bool) → not b ≡ true → b ≡ false
not_true true e = absurd (true≢false (sym e))
not_true false e = refl

magnitude_below : (q : ℚ) → q <ℚ zero_ℚ → magnitude q ≡ neg_ℚ q
magnitude_below q h = ap (λ (b : Bool). if b then q else neg_ℚ q) (not_true (le_ℚ zero_ℚ q) h)

recession_scaled : (file : Problem) (s : ℚ) (x : List ℚ) → zero_ℚ ≤ℚ s → IsRecession file x → IsRecession file (scaled s x)
recession_scaled file s x positive h = record {
  width = length-scaled s x ∙ h.width;
  meets = λ k d l. subst (λ (a : ℚ). zero_ℚ ≤ℚ a) (sym (dot-scaled _ s x)) (mul_nonneg s _ positive (h.meets k d l));
}

module _ (file : Problem) (c v : List ℚ) (t : Bool) (y : List ℚ) (c_long : length c ≡ file.objs) (v_long : length v ≡ file.objs)
    (h : IsInfeasible (benson_system file c v t) y) where
  y_long : length y ≡ suc (file.cols + dual_equations file.objs file.cone)
  y_long = multipliers_long file c v t y c_long v_long h.one_each

  below : value_of y <ℚ zero_ℚ
  below = subst (λ (s : ℚ). s <ℚ zero_ℚ) (last_value (file.cols + dual_equations file.objs file.cone) y y_long) h.below

  bounds : (j : ℕ) → 1 ≤ j → j ≤ benson_unknowns file →
      entry (on_parts (zeros (side_total file)) (negated (zeros file.objs)) (zeros (dual_unknowns file.objs file.cone))) j
      ≤ℚ dot y (column_of (benson_equations file c) j)
  bounds j low high =
      subst (λ (s : ℚ). s ≤ℚ dot y (column_of (benson_equations file c) j))
      (sym (ap (λ f. entry f j) (no_cost (side_total file) file.objs (dual_unknowns file.objs file.cone)) ∙ slice-zeros (benson_unknowns file) (j - 1)))
      (h.bounds j low (omega (arith, high, length-benson_cost file v t v_long)))

  recedes : IsRecession file (choice_of file y)
  recedes = sides_rise file (choice_of file y) (x_long file c y c_long y_long)
      (normals_at_least file c y c_long y_long (zeros (side_total file)) (zeros file.objs) (length-zeros (side_total file)) (length-zeros file.objs) bounds)

  abbrev by : ℚ
  by = inverse_ℚ (magnitude (value_of y))

  magnitude_positive : zero_ℚ <ℚ magnitude (value_of y)
  magnitude_positive = subst (λ (s : ℚ). zero_ℚ <ℚ s) (sym (magnitude_below (value_of y) below)) (neg_positive (value_of y) below)

  by_positive : zero_ℚ ≤ℚ by
  by_positive = le_of_lt zero_ℚ by (inverse_positive (magnitude (value_of y)) magnitude_positive)

  by_cancels : by *ℚ neg_ℚ (value_of y) ≡ one_ℚ
  by_cancels =
      mul_comm by (neg_ℚ (value_of y)) ∙ ap (λ s. s *ℚ by) (sym (magnitude_below (value_of y) below)) ∙ mul_inverse (magnitude (value_of y)) magnitude_positive

  abbrev n : List ℚ
  n = shares file file.objs file.cone y

  shares_at_least : AtLeastZero (pushed file.cone n)
  shares_at_least =
      shares_positive file c y c_long y_long (zeros (side_total file)) (zeros file.objs) (length-zeros (side_total file)) (length-zeros file.objs) bounds

  -- minus c, less the objectives at the ray, is what the shares give, divided too
  against_value : (r : List ℚ) → dot r (rest file (negated c) (scaled by (choice_of file y))) ≡
      dot r (pulled file.objs file.cone (scaled by n)) +ℚ dot r (zeros file.objs)
  against_value r =
      dot-plus r (negated c) (negated (values (objectives file) (scaled by x)))
      ∙ ap₂ (λ a b. a +ℚ b) (dot-negated r c)
      (dot-negated r (values (objectives file) (scaled by x))
      ∙ ap neg_ℚ
      (sym (dot-combination file.cols (scaled by x) r (objectives file)) ∙ dot-scaled_left by x (combination file.cols r (objectives file))
      ∙ ap (λ a. by *ℚ a) (dot-combination file.cols x r (objectives file))))
      ∙ divided (dot r c) (dot r (values (objectives file) x)) (dot r (pulled file.objs file.cone n)) by (neg_ℚ (value_of y)) undivided by_cancels
      ∙ ap₂ (λ a b. a +ℚ b) (sym (pulled-scaled file.objs file.cone by n r)) (sym (dot-zeros r file.objs))
    where
      x : List ℚ
      x = choice_of file y

      undivided : neg_ℚ (dot r (values (objectives file) (choice_of file y))) ≡
          dot r (pulled file.objs file.cone n) +ℚ neg_ℚ (value_of y) *ℚ dot r c
      undivided =
          sym (zero_add (neg_ℚ (dot r (values (objectives file) (choice_of file y)))))
          ∙ ap₂ (λ a b. a +ℚ b) (sym (dot-zeros r file.objs)) (sym (dot-negated r (values (objectives file) (choice_of file y))))
          ∙ sym (dot-plus r (zeros file.objs) (negated (values (objectives file) (choice_of file y))))
          ∙ rest_value file c y c_long y_long (zeros (side_total file)) (zeros file.objs) (length-zeros (side_total file)) (length-zeros file.objs) bounds r

      divided : (e o k s a : ℚ) → neg_ℚ o ≡ k +ℚ a *ℚ e → s *ℚ a ≡ one_ℚ → neg_ℚ e +ℚ neg_ℚ (s *ℚ o) ≡ s *ℚ k +ℚ zero_ℚ
      divided e o k s a d u =
          ring_by_two rationals (e ∷ o ∷ k ∷ s ∷ a ∷ []) (⊖ v0 ⊕ ⊖ (v3 ⊗ v1)) (v3 ⊗ v2 ⊕ num (pos 0)) v3 (⊖ v1) (v2 ⊕ v4 ⊗ v0) v0 (v3 ⊗ v4) (num (pos 1)) d u refl

  made : IsMade file.objs file.cone (scaled by n) (zeros file.objs) (rest file (negated c) (scaled by (choice_of file y)))
  made = record {
    wide = rest_wide file (negated c) (scaled by (choice_of file y)) (length-negated c file.objs c_long);
    one_each = length-scaled by n ∙ length-negated _ _ (p_long file c y c_long y_long);
    at_least_zero = pushed-scaled file.cone by n by_positive shares_at_least;
    beside = (cone_convex file.objs file.cone file.cone_vectors).zero;
    value = against_value;
  }

  module _ (ray : List Spot) (same : dense file.cols ray ≡ divided_by (value_of y) (choice_of file y)) where
    ray_recedes : IsRecession file (dense file.cols ray)
    ray_recedes = subst (IsRecession file) (sym same) (recession_scaled file by (choice_of file y) by_positive recedes)

    above : (m : List Spot) → IsVector (length (generators file.cone)) m →
        dense (length (generators file.cone)) m ≡ divided_by (value_of y) (share_of file file.cone y) → ShowsAbove file (map neg_ℚ c) ray m
    above m vector share =
        subst (λ (e : List ℚ). ShowsIn file.cone (rest file (negated c) e) m) (sym same)
        (shows_made file.objs file.cone (scaled by n) (zeros file.objs) (rest file (negated c) (scaled by (choice_of file y))) m file.cone_vectors vector made
        (share_made file file.objs file.cone y by m by_positive shares_at_least share))

    against : IsInOrderingCone file (rest file (map neg_ℚ c) (dense file.cols ray))
    against =
        subst (λ (e : List ℚ). IsInOrderingCone file (rest file (negated c) e)) (sym same)
        (made_member file.objs file.cone (scaled by n) (zeros file.objs) (rest file (negated c) (scaled by (choice_of file y))) file.cone_vectors made)

whole : (file : Problem) (c v : List ℚ) (t : Bool) (y : List ℚ) (x ray : List Spot) → Fits file c → length v ≡ file.objs →
    IsInfeasible (benson_system file c v t) y → IsVector file.cols x → IsFeasible file (dense file.cols x) → IsVector file.cols ray →
    dense file.cols ray ≡ divided_by (value_of y) (choice_of file y) → IsWhole file c x ray
whole file c v t y x ray fits v_long h x_vector feasible ray_vector same =
    let c_long : length c ≡ file.objs = (ordering_cone_convex file).wide c fits.interior.member in
    record {
      fits = fits;
      x_vector = x_vector;
      feasible = feasible;
      ray_vector = ray_vector;
      recedes = ray_recedes file c v t y c_long v_long h ray same;
      against = against file c v t y c_long v_long h ray same;
    }

pub benson_whole : BensonWhole
benson_whole = record {
  below = below;
  recedes = λ file c v t y ray c_long v_long h vector same. record { index = vector.places; side = ray_recedes file c v t y c_long v_long h ray same };
  above = λ file c v t y ray m c_long v_long h vector same share. above file c v t y c_long v_long h ray same m vector share;
  whole = whole;
}
