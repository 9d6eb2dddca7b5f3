-- A generator that stands for no valid inequality: the row of what the program of its weight says is negative there.
use Rattle.std.proofs.Common.{◌≡◌, ◌≢◌, ℕ, zero, suc, List, [], ◌∷◌, ◌++◌, length, take, All, Contains, refl, sym, ap, ap₂, ◌∙◌, subst, arith, ◌≤◌, ◌-◌, ◌+◌, Bool, true, false, ◌⊎◌, inl, inr, slice_index_or}
use Rattle.std.specs.Prelude.{if◌then◌else◌, pos}
use Rattle.exact_field.specs.Rational.{ℚ, zero_ℚ, one_ℚ, ◌+ℚ◌, ◌-ℚ◌, ◌*ℚ◌, neg_ℚ, ◌≤ℚ◌, ◌<ℚ◌}
use Rattle.exact_field.specs.Vector.{dot, entry, front}
use Rattle.exact_field.specs.Ring.{v0, v1, ◌⊕◌, ◌⊝◌, ⊖, num}
use Rattle.exact_field.proofs.Inequalities.{difference_from_le}
use Rattle.exact_field.proofs.RingTool.{ring}
use Rattle.exact_field.proofs.Rationals.{rationals}
use Rattle.polyhedra.specs.Cone.{IsInCone}
use Rattle.polyhedra.specs.Hull.{IsValidAt, IsMultiple, IsExtremeDirection}
use Rattle.polyhedra.specs.LiveList.{LiveList, vectors}
use Rattle.polyhedra.specs.Vectors.{zeros, plus, scaled}
use Rattle.polyhedra.proofs.Algebra.{mul_zero}
use Rattle.polyhedra.proofs.Laws.{add_zero, mul_one, le_refl}
use Rattle.polyhedra.proofs.Linear.{dot_comm, dot-zeros, length-zeros, scaled-one}
use Rattle.polyhedra.proofs.LiveSteps.{are_live}
use Rattle.polyhedra.proofs.Members.{all_of_members, member_of}
use Rattle.polyhedra.proofs.Order.{le_or_lt}
use Rattle.tableaux.specs.Simplex.{IsOptimal, IsInfeasible}
use Rattle.vlp_problem.specs.Sides.{side_bounds}
use Rattle.vlp_problem.specs.declared.problem.Problem.{Problem}
use Rattle.upper_image.specs.OrderingCone.{Fits}
use Rattle.upper_image.specs.UpperImage.{IsInWorkingImage}
use Rattle.upper_image.proofs.ConvexCones.{ordering_cone_convex}
use Rattle.lp_form.specs.Programs.{weight_system, u_of, choice_of}
use Rattle.overflows.specs.Base.{AreMultipliersOff, AreFirstMultipliersOff, IsBaseRow, image_of, weight_of}
use Rattle.overflows.specs.Base.IsBaseRow.{of_choice, of_ray, of_cone}
use Rattle.geo_duality.specs.Rows.{exchange_row}
use Rattle.overflows.specs.Turns.{IsRowTurn, said_exchange}
use Rattle.lower_image.proofs.WeightEnds.{weight_cut, weight_choice, weight_ray}
use Rattle.lower_image.specs.Lower.{IsLower, dual_at, weight_at, dual_vector}
use Rattle.lower_image.specs.Laws.{IsWeighted, LowerTurnLaws}
use Rattle.lower_image.proofs.Exchange.{exchange_at, dual_long, one_more}
use Rattle.lower_image.proofs.Generators.{front-weight, in_cone, parts, f_long, lower_generators}
use Rattle.lower_image.proofs.LowerRows.{c_long, some, image_wide, cone_direction, lower_rows}

-- ---- entries of dual vectors
at_seam : (f xs : List ℚ) (k : ℕ) → slice_index_or (f ++ xs) (length f + k) zero_ℚ ≡ slice_index_or xs k zero_ℚ
at_seam [] xs k = let none : length {A = ℚ} [] + k ≡ k = omega arith in ap (λ (n : ℕ). slice_index_or xs n zero_ℚ) none
at_seam (x ∷ f) xs k = let step : length (x ∷ f) + k ≡ suc (length f + k) = omega arith in ap (λ (n : ℕ). slice_index_or (x ∷ (f ++ xs)) n zero_ℚ) step ∙ at_seam f xs k

pub entry_bound : (q : ℕ) (f : List ℚ) (gamma s : ℚ) → 1 ≤ q → length f ≡ q - 1 → entry (dual_at f gamma s) q ≡ gamma
entry_bound q f gamma s low long =
    let place : q - 1 ≡ length f + 0 = omega (arith, low, long) in
    ap (λ (n : ℕ). slice_index_or (dual_at f gamma s) n zero_ℚ) place ∙ at_seam f (gamma ∷ s ∷ []) 0

pub entry_last : (q : ℕ) (f : List ℚ) (gamma s : ℚ) → 1 ≤ q → length f ≡ q - 1 → entry (dual_at f gamma s) (suc q) ≡ s
entry_last q f gamma s low long =
    let place : suc q - 1 ≡ length f + 1 = omega (arith, low, long) in
    ap (λ (n : ℕ). slice_index_or (dual_at f gamma s) n zero_ℚ) place ∙ at_seam f (gamma ∷ s ∷ []) 1

pub entry-scaled : (k : ℚ) (v : List ℚ) (i : ℕ) → entry (scaled k v) i ≡ k *ℚ entry v i
entry-scaled k v i = go v (i - 1)
  where
    go : (u : List ℚ) (n : ℕ) → slice_index_or (scaled k u) n zero_ℚ ≡ k *ℚ slice_index_or u n zero_ℚ
    go [] n = sym (mul_zero k)
    go (x ∷ u) zero = refl
    go (x ∷ u) (suc n) = go u n

plus_dual : (f : List ℚ) (a b s : ℚ) → plus (dual_at f a s) (dual_at (zeros (length f)) b zero_ℚ) ≡ dual_at f (a +ℚ b) s
plus_dual [] a b s = ap (λ (r : ℚ). (a +ℚ b) ∷ r ∷ []) (add_zero s)
plus_dual (x ∷ f) a b s = ap₂ (λ (r : ℚ) (v : List ℚ). r ∷ v) (add_zero x) (plus_dual f a b s)

module _ (file : Problem) (c : List ℚ) (rows : List (List ℚ)) (list : LiveList) (g : List ℚ) (fits : Fits file c) (h : IsLower file c rows list)
    (listed : Contains (vectors list.live) g) (other : entry g (suc file.objs) ≢ zero_ℚ) where
  pub told : IsWeighted file c g
  told = lower_generators.weighted file c rows list g fits h listed other

  f : List ℚ
  f = take (file.objs - 1) g

  gamma : ℚ
  gamma = entry g file.objs

  long : length f ≡ file.objs - 1
  unfolding f
  long = f_long file c rows list g fits h listed

  g_is : g ≡ dual_at f gamma one_ℚ
  unfolding f gamma
  g_is = parts file c rows list g fits h listed ∙ ap (λ (a : ℚ). dual_at (take (file.objs - 1) g) (entry g file.objs) a) told.last

  -- ---- the direction in which the bound says less
  less : ℚ → List ℚ
  less d = dual_at (zeros (length f)) (neg_ℚ d) zero_ℚ

  weight_less : weight_at c (zeros (length f)) zero_ℚ ≡ zeros (suc (length f))
  weight_less =
      ap (λ (a : ℚ). zeros (length f) ++ a ∷ []) (ap (λ (a : ℚ). zero_ℚ -ℚ a) (dot-zeros (front c) (length f)) ∙ ring rationals [] (num (pos 0) ⊝ num (pos 0)) (num (pos 0)) refl)
      ∙ one_more (length f)

  row_less : (d : ℚ) → zero_ℚ ≤ℚ d → (y : List ℚ) (t : Bool) → length y ≡ file.objs → zero_ℚ ≤ℚ dot (exchange_row c y t) (less d)
  unfolding less
  row_less d positive y t wide =
      subst (λ (a : ℚ). zero_ℚ ≤ℚ a)
      (sym (exchange_at c y (zeros (length f)) (neg_ℚ d) zero_ℚ t (some file c fits) (wide ∙ sym (c_long file c fits))
      (length-zeros (length f) ∙ long ∙ ap (λ (n : ℕ). n - 1) (sym (c_long file c fits)))
      ∙ ap (λ (a : ℚ). a -ℚ (if t then neg_ℚ d else zero_ℚ)) (ap (λ (v : List ℚ). dot v y) weight_less ∙ dot_comm (zeros (suc (length f))) y ∙ dot-zeros y (suc (length f)))))
      (sign t)
    where
      sign : (t : Bool) → zero_ℚ ≤ℚ zero_ℚ -ℚ (if t then neg_ℚ d else zero_ℚ)
      sign true = subst (λ (a : ℚ). zero_ℚ ≤ℚ a) (ring rationals (d ∷ []) v0 (num (pos 0) ⊝ ⊖ v0) refl) positive
      sign false = subst (λ (a : ℚ). zero_ℚ ≤ℚ a) (ring rationals [] (num (pos 0)) (num (pos 0) ⊝ num (pos 0)) refl) (le_refl zero_ℚ)

  base_less : (d : ℚ) → zero_ℚ ≤ℚ d → (row : List ℚ) → IsBaseRow file c row → zero_ℚ ≤ℚ dot row (less d)
  base_less d positive row (of_choice x k same) =
      subst (λ (v : List ℚ). zero_ℚ ≤ℚ dot v (less d)) (sym same) (row_less d positive (image_of file x) true (image_wide file x))
  base_less d positive row (of_ray r k same) =
      subst (λ (v : List ℚ). zero_ℚ ≤ℚ dot v (less d)) (sym same) (row_less d positive (image_of file r) false (image_wide file r))
  base_less d positive row (of_cone e k same) =
      subst (λ (v : List ℚ). zero_ℚ ≤ℚ dot v (less d)) (sym same)
      (row_less d positive e false ((ordering_cone_convex file).wide e (cone_direction file e k)))

  wide_less : (d : ℚ) → length (less d) ≡ suc file.objs
  unfolding less
  wide_less d = dual_long (zeros (length f)) (neg_ℚ d) zero_ℚ file.objs file.some_objective (length-zeros (length f) ∙ long)

  less_in : (d : ℚ) → zero_ℚ ≤ℚ d → IsInCone (suc file.objs) rows (less d)
  less_in d positive = record {
    wide = wide_less d;
    within = all_of_members (λ r. zero_ℚ ≤ℚ dot r (less d)) rows (λ r k. base_less d positive r (member_of (IsBaseRow file c) rows r h.rows_are.base k));
  }

  -- ---- a valid inequality with this weight says no more
  module _ (b : ℚ) (valid : IsValidAt file.objs (IsInWorkingImage file) c record { normal = weight_of c g; bound = b }) where
    said : List ℚ
    said = dual_at f b one_ℚ

    said_same : dual_vector c (record { normal = weight_of c g; bound = b }) ≡ dual_at f b one_ℚ
    unfolding f
    said_same =
        ap₂ (λ (v : List ℚ) (a : ℚ). v ++ b ∷ a ∷ [])
        (ap front (ap (λ (n : ℕ). take (n - 1) g ++ (one_ℚ -ℚ dot (front c) (take (n - 1) g)) ∷ []) (c_long file c fits)) ∙ front-weight c (take (file.objs - 1) g) one_ℚ)
        told.normed

    said_in : IsInCone (suc file.objs) rows said
    unfolding said
    said_in = record {
      wide = dual_long f b one_ℚ file.objs file.some_objective long;
      within = subst (λ (v : List ℚ). All (λ r. zero_ℚ ≤ℚ dot r v) rows) said_same (lower_rows.holds file c rows (record { normal = weight_of c g; bound = b }) fits h.rows_are valid);
    }

    sum : gamma ≤ℚ b → g ≡ plus said (less (b -ℚ gamma))
    unfolding said less
    sum l = g_is ∙ ap (λ (a : ℚ). dual_at f a one_ℚ) (ring rationals (gamma ∷ b ∷ []) v0 (v1 ⊕ ⊖ (v1 ⊝ v0)) refl) ∙ sym (plus_dual f b (neg_ℚ (b -ℚ gamma)) one_ℚ)

    factor_one : (m : IsMultiple g said) → m.factor ≡ one_ℚ
    unfolding said
    factor_one m =
        sym (mul_one m.factor) ∙ ap (λ (a : ℚ). m.factor *ℚ a) (sym told.last) ∙ sym (entry-scaled m.factor g (suc file.objs))
        ∙ ap (λ (v : List ℚ). entry v (suc file.objs)) (sym m.same) ∙ entry_last file.objs f b one_ℚ file.some_objective long

    bound_same : IsMultiple g said → b ≡ gamma
    unfolding said gamma
    bound_same m =
        sym (entry_bound file.objs f b one_ℚ file.some_objective long)
        ∙ ap (λ (v : List ℚ). entry v file.objs) (m.same ∙ ap (λ (k : ℚ). scaled k g) (factor_one m) ∙ scaled-one g)

    no_more : gamma ≤ℚ b → b ≡ gamma
    no_more l =
        let extreme : IsExtremeDirection (suc file.objs) (IsInCone (suc file.objs) rows) g = ((are_live.extreme (suc file.objs) rows list h.live g).0 listed).0 in
        bound_same (extreme.no_sum said (less (b -ℚ gamma)) said_in (less_in (b -ℚ gamma) (difference_from_le gamma b l)) (sum l)).0

    below : b ≢ entry g file.objs → b <ℚ entry g file.objs
    unfolding gamma
    below differ = go (le_or_lt (entry g file.objs) b)
      where
        go : (entry g file.objs ≤ℚ b) ⊎ (b <ℚ entry g file.objs) → b <ℚ entry g file.objs
        go (inl l) = absurd (differ (no_more l))
        go (inr l) = l

  -- ---- turns
  turned : (y : List ℚ) (row : List ℚ) →
      (AreMultipliersOff (weight_system file (weight_of c g)) y × (dot (weight_of c g) (image_of file (choice_of file y)) <ℚ entry g file.objs) × (row ≡ said_exchange file c y true))
      ⊎ (AreFirstMultipliersOff (weight_system file (weight_of c g)) y × (dot (weight_of c g) (image_of file (choice_of file y)) <ℚ zero_ℚ) × (row ≡ said_exchange file c y false)) →
      IsRowTurn file c rows row
  unfolding gamma
  turned y row r = record {
    c_wide = c_long file c fits;
    front = f;
    gamma = entry g file.objs;
    front_wide = long;
    holds = subst (λ (v : List ℚ). All (λ a. zero_ℚ ≤ℚ dot a v) rows) g_is (in_cone file c rows list g fits h listed).within;
    y = y;
    read = subst (λ (v : List ℚ).
        (AreMultipliersOff (weight_system file (weight_of c v)) y × (dot (weight_of c v) (image_of file (choice_of file y)) <ℚ entry g file.objs) × (row ≡ said_exchange file c y true))
        ⊎ (AreFirstMultipliersOff (weight_system file (weight_of c v)) y × (dot (weight_of c v) (image_of file (choice_of file y)) <ℚ zero_ℚ) × (row ≡ said_exchange file c y false))) g_is r;
  }

  pub choice_turns : (z y : List ℚ) → IsOptimal (weight_system file (weight_of c g)) z y → AreMultipliersOff (weight_system file (weight_of c g)) y →
      dot (side_bounds file) (u_of file z) ≢ entry g file.objs →
      IsRowTurn file c rows (said_exchange file c y true) × IsBaseRow file c (said_exchange file c y true)
  choice_turns z y optimal off differ = (
    turned y (said_exchange file c y true) (inl (
      off,
      subst (λ (a : ℚ). a <ℚ entry g file.objs) (sym (weight_choice.value file (weight_of c g) z y told.wide told.in_dual optimal))
          (below (dot (side_bounds file) (u_of file z)) (weight_cut.valid file c (weight_of c g) z y told.wide told.normed told.in_dual optimal) differ),
      refl,
    )),
    of_choice (choice_of file y) (record {
      feasible = weight_choice.feasible file (weight_of c g) z y told.wide optimal;
      read = inr (weight_of c g, y, told.wide, off, refl);
    }) refl,
  )

  pub ray_turns : (y : List ℚ) → IsInfeasible (weight_system file (weight_of c g)) y → AreFirstMultipliersOff (weight_system file (weight_of c g)) y →
      IsRowTurn file c rows (said_exchange file c y false) × IsBaseRow file c (said_exchange file c y false)
  ray_turns y infeasible off = (
    turned y (said_exchange file c y false) (inr (off, weight_ray.falls file (weight_of c g) y told.wide told.in_dual infeasible, refl)),
    of_ray (choice_of file y) (record {
      recedes = weight_ray.recedes file (weight_of c g) y told.wide infeasible;
      weight = weight_of c g;
      wide = told.wide;
      multipliers = y;
      read = off;
      same = refl;
    }) refl,
  )

pub lower_turns : LowerTurnLaws
lower_turns = record {
  choice = λ file c rows list g z y fits h listed other optimal off differ. choice_turns file c rows list g fits h listed other z y optimal off differ;
  ray = λ file c rows list g y fits h listed other infeasible off. ray_turns file c rows list g fits h listed other y infeasible off;
}
