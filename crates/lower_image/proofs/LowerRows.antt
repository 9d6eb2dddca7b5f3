-- Base rows at the dual vectors of valid inequalities, and that they have full rank.
use Rattle.std.proofs.Common.{◌≡◌, ℕ, suc, List, [], ◌∷◌, ◌++◌, length, take, All, refl, sym, ap, ap₂, ◌∙◌, subst, arith, ◌≤◌, ◌-◌, Bool, true, false, length-append}
use Rattle.std.specs.Prelude.{if◌then◌else◌, IsTrue, pos, negsuc}
use Rattle.std.proofs.lemmas.List.{length-take-le, map-append}
use Rattle.std.proofs.lemmas.List.Elements.{All-append, All-cons, All-nil, Contains-append_left}
use Rattle.exact_field.specs.Rational.{ℚ, zero_ℚ, one_ℚ, ◌+ℚ◌, ◌-ℚ◌, neg_ℚ, ◌≤ℚ◌}
use Rattle.exact_field.specs.Vector.{dot, entry, front}
use Rattle.exact_field.specs.Ring.{v0, ◌⊝◌, num}
use Rattle.exact_field.proofs.Inequalities.{difference_from_le}
use Rattle.exact_field.proofs.RingTool.{ring, ring_by}
use Rattle.exact_field.proofs.Rationals.{rationals}
use Rattle.polyhedra.specs.Hull.{IsValidAt}
use Rattle.polyhedra.specs.Inequality.{Inequality}
use Rattle.polyhedra.specs.LiveList.{LiveList, step}
use Rattle.polyhedra.specs.Negatives.{negated}
use Rattle.polyhedra.specs.Vectors.{zeros, plus, values, scaled}
use Rattle.polyhedra.proofs.Algebra.{neg_zero, zero_add}
use Rattle.polyhedra.proofs.ConvexSets.{direction_value}
use Rattle.polyhedra.proofs.Generated.{generated_generator}
use Rattle.polyhedra.proofs.Laws.{add_zero, le_antisymm, add_neg}
use Rattle.polyhedra.proofs.Linear.{dot_comm, dot-plus, dot-zeros, length-zeros, length-scaled}
use Rattle.polyhedra.proofs.Lists.{HasWidth}
use Rattle.polyhedra.proofs.LiveSteps.{are_live}
use Rattle.polyhedra.proofs.Members.{all_of_members, member_of}
use Rattle.polyhedra.proofs.Negatives.{dot-negated}
use Rattle.polyhedra.proofs.Order.{le_of_difference, le_of_eq}
use Rattle.tableaux.specs.Table.{minus}
use Rattle.vlp_problem.specs.Cones.{cone_fits}
use Rattle.vlp_problem.specs.Sides.{sides, IsFeasible, IsRecession}
use Rattle.vlp_problem.specs.declared.problem.Problem.{Problem}
use Rattle.vlp_problem.specs.declared.problem.Cone.{Cone}
use Rattle.vlp_problem.specs.declared.problem.Cone.TheVariants.{Orthant, Gens, Dual}
use Rattle.upper_image.specs.OrderingCone.{Fits, IsIn, IsInDualCone, IsInOrderingCone}
use Rattle.upper_image.specs.UpperImage.{objectives, IsInWorkingImage, IsWorkingDirection}
use Rattle.upper_image.proofs.Absorbing.{zero_at_interior}
use Rattle.upper_image.proofs.ConvexCones.{ordering_cone_convex}
use Rattle.upper_image.proofs.WorkingImage.{feasible_meets, recession_meets, value_wide, working_image_convex}
use Rattle.lp_form.proofs.Systems.{cone_wide, length-negated, length-unit}
use Rattle.cone_rules.proofs.Ranks.{unit_nonneg}
use Rattle.overflows.specs.Base.{IsBaseRow, IsConeDirection, IsDirectionOf, image_of}
use Rattle.overflows.specs.Base.IsBaseRow.{of_choice, of_ray, of_cone}
use Rattle.geo_duality.specs.Rows.{exchange_row}
use Rattle.overflows.proofs.Making.{generator_laws}
use Rattle.overflows.proofs.Violated.{length-minus}
use Rattle.lower_image.specs.Lower.{AreLowerRows, IsLower, dual_at, weight_at, dual_vector}
use Rattle.lower_image.specs.Laws.{LowerRowLaws}
use Rattle.lower_image.proofs.Exchange.{exchange_at, two_more, weight_again, weight_normed, dual_parts, front_zero}

-- ---- what base rows are made of
-- a direction of the ordering cone is in it
direction_in : (q : ℕ) (cone : Cone) (e : List ℚ) → IsTrue (cone_fits q cone) → IsDirectionOf q cone e → IsIn q cone e
direction_in q Orthant e fits (i, low, high, same) = record {
  wide = ap (λ (v : List ℚ). length v) same ∙ length-unit q i;
  entries = subst (λ (v : List ℚ). All (λ x. zero_ℚ ≤ℚ x) v) (sym same) (unit_nonneg q i);
}
direction_in q (Gens vectors) e fits listed = generated_generator q vectors e (cone_wide q (Gens vectors) fits) listed
direction_in q (Dual vectors) e fits generator = generator.extreme.member

module _ (file : Problem) where
  pub cone_direction : (e : List ℚ) → IsConeDirection file e → IsInOrderingCone file e
  cone_direction e h = direction_in file.objs file.cone e file.cone_vectors h

  pub image_wide : (x : List ℚ) → length (image_of file x) ≡ file.objs
  image_wide x = value_wide file x

  beside : (r y : List ℚ) → dot r (plus y (zeros file.objs)) ≡ dot r y
  beside r y = dot-plus r y (zeros file.objs) ∙ ap (λ q. dot r y +ℚ q) (dot-zeros r file.objs) ∙ add_zero (dot r y)

  point_in : (x : List ℚ) → IsFeasible file x → IsInWorkingImage file (plus (image_of file x) (zeros file.objs))
  point_in x h = record {
    solution = x;
    wide = h.width;
    meets = feasible_meets file x h;
    beyond = zeros file.objs;
    in_cone = (ordering_cone_convex file).zero;
    same = refl;
  }

  ray_in : (x : List ℚ) → IsRecession file x → IsWorkingDirection file (plus (image_of file x) (zeros file.objs))
  ray_in x h = record {
    solution = x;
    wide = h.width;
    meets = recession_meets file x h;
    beyond = zeros file.objs;
    in_cone = (ordering_cone_convex file).zero;
    same = refl;
  }

  rest_still : IsRecession file (zeros file.cols)
  rest_still = record {
    width = length-zeros file.cols;
    meets = all_of_members (λ s. zero_ℚ ≤ℚ dot s.normal (zeros file.cols)) (sides file) (λ s k. le_of_eq zero_ℚ _ (sym (dot-zeros s.normal file.cols)));
  }

  member_in : (e : List ℚ) → IsInOrderingCone file e → IsWorkingDirection file (plus (image_of file (zeros file.cols)) e)
  member_in e h = record {
    solution = zeros file.cols;
    wide = length-zeros file.cols;
    meets = recession_meets file (zeros file.cols) rest_still;
    beyond = e;
    in_cone = h;
    same = refl;
  }

-- ---- rows at valid inequalities
module _ (file : Problem) (c : List ℚ) (fits : Fits file c) where
  pub c_long : length c ≡ file.objs
  c_long = (ordering_cone_convex file).wide c fits.interior.member

  pub c_last : entry c (length c) ≡ one_ℚ
  c_last = ap (λ (n : ℕ). entry c n) c_long ∙ fits.last

  pub some : 1 ≤ length c
  some = omega (arith, c_long, file.some_objective)

  module _ (e : Inequality) (valid : IsValidAt file.objs (IsInWorkingImage file) c e) where
    normal_long : length e.normal ≡ length c
    normal_long = valid.wide ∙ sym c_long

    front_long : length (front e.normal) ≡ length c - 1
    front_long = length-take-le (length e.normal - 1) e.normal (omega arith) ∙ omega (arith, normal_long)

    -- the row of a vector at the dual vector of the inequality
    at : (y : List ℚ) (t : Bool) → length y ≡ file.objs → dot (exchange_row c y t) (dual_vector c e) ≡ dot e.normal y -ℚ (if t then e.bound else zero_ℚ)
    at y t long =
        exchange_at c y (front e.normal) e.bound (dot e.normal c) t some (long ∙ sym c_long) front_long
        ∙ ap (λ w. dot w y -ℚ (if t then e.bound else zero_ℚ)) (weight_again c e.normal some normal_long c_last)

    no_bound : (a : ℚ) → a -ℚ zero_ℚ ≡ a
    no_bound a = ring rationals (a ∷ []) (v0 ⊝ num (pos 0)) v0 refl

    pub point_holds : (x : List ℚ) → IsFeasible file x → e.bound ≤ℚ dot e.normal (image_of file x)
    point_holds x h = subst (λ (a : ℚ). e.bound ≤ℚ a) (beside file e.normal (image_of file x)) (valid.holds _ (point_in file x h))

    along : (y d : List ℚ) → IsInWorkingImage file y → IsWorkingDirection file d → zero_ℚ ≤ℚ dot e.normal d
    along y d y_in d_in = direction_value file.objs (IsInWorkingImage file) (IsWorkingDirection file) (working_image_convex file) e y d valid.valid y_in d_in

    pub row_holds : (x row : List ℚ) → IsFeasible file x → IsBaseRow file c row → zero_ℚ ≤ℚ dot row (dual_vector c e)
    row_holds x0 row x0_in (of_choice x h same) =
        subst (λ (a : ℚ). zero_ℚ ≤ℚ a) (sym (ap (λ (r : List ℚ). dot r (dual_vector c e)) same ∙ at (image_of file x) true (image_wide file x)))
        (difference_from_le e.bound (dot e.normal (image_of file x)) (point_holds x h.feasible))
    row_holds x0 row x0_in (of_ray r h same) =
        subst (λ (a : ℚ). zero_ℚ ≤ℚ a)
        (beside file e.normal (image_of file r) ∙ sym (ap (λ (v : List ℚ). dot v (dual_vector c e)) same ∙ at (image_of file r) false (image_wide file r) ∙ no_bound _))
        (along _ _ (point_in file x0 x0_in) (ray_in file r h.recedes))
    row_holds x0 row x0_in (of_cone d h same) =
        subst (λ (a : ℚ). zero_ℚ ≤ℚ a)
        (nothing d ∙ sym (ap (λ (v : List ℚ). dot v (dual_vector c e)) same ∙ at d false ((ordering_cone_convex file).wide d (cone_direction file d h)) ∙ no_bound _))
        (along _ _ (point_in file x0 x0_in) (member_in file d (cone_direction file d h)))
      where
        nothing : (d : List ℚ) → dot e.normal (plus (image_of file (zeros file.cols)) d) ≡ dot e.normal d
        nothing d =
            dot-plus e.normal (image_of file (zeros file.cols)) d
            ∙ ap (λ a. a +ℚ dot e.normal d) (ap (λ v. dot e.normal v) (all_zero (objectives file)) ∙ dot-zeros e.normal (length (objectives file)))
            ∙ zero_add (dot e.normal d)
          where
            all_zero : (os : List (List ℚ)) → values os (zeros file.cols) ≡ zeros (length os)
            all_zero [] = refl
            all_zero (o ∷ os) = ap₂ (λ a b. a ∷ b) (dot-zeros o file.cols) (all_zero os)

  holds : (rows : List (List ℚ)) (e : Inequality) → AreLowerRows file c rows → IsValidAt file.objs (IsInWorkingImage file) c e →
      All (λ r. zero_ℚ ≤ℚ dot r (dual_vector c e)) rows
  holds rows e h valid = all_of_members (λ r. zero_ℚ ≤ℚ dot r (dual_vector c e)) rows
      (λ r k. row_holds e valid h.point r h.feasible (member_of (IsBaseRow file c) rows r h.base k))

-- ---- rank
module _ (file : Problem) (c : List ℚ) (fits : Fits file c) (rows : List (List ℚ)) (h : AreLowerRows file c rows) (z : List ℚ)
    (long : length z ≡ suc file.objs) (tight : All (λ r. dot r z ≡ zero_ℚ) rows) where
  q : ℕ
  q = file.objs

  f : List ℚ
  f = take (file.objs - 1) z

  gamma : ℚ
  gamma = entry z file.objs

  s : ℚ
  s = entry z (suc file.objs)

  parts : z ≡ dual_at f gamma s
  unfolding f gamma s
  parts = dual_parts file.objs z file.some_objective long

  f_long : length f ≡ file.objs - 1
  unfolding f
  f_long = length-take-le (file.objs - 1) z (omega (arith, long))

  f_again : length f ≡ length c - 1
  f_again = f_long ∙ ap (λ (n : ℕ). n - 1) (sym (c_long file c fits))

  inside : IsInDualCone file (weight_at c f s)
  inside = h.in_dual f gamma s f_long (all_of_members (λ r. zero_ℚ ≤ℚ dot r (dual_at f gamma s)) rows
      (λ r k. le_of_eq zero_ℚ _ (sym (ap (λ (v : List ℚ). dot r v) (sym parts) ∙ member_of (λ r. dot r z ≡ zero_ℚ) rows r tight k))))

  turned : negated z ≡ dual_at (negated f) (neg_ℚ gamma) (neg_ℚ s)
  turned = ap negated parts ∙ map-append neg_ℚ f (gamma ∷ s ∷ [])

  outside : IsInDualCone file (weight_at c (negated f) (neg_ℚ s))
  outside = h.in_dual (negated f) (neg_ℚ gamma) (neg_ℚ s) (length-negated f (file.objs - 1) f_long)
      (all_of_members (λ r. zero_ℚ ≤ℚ dot r (dual_at (negated f) (neg_ℚ gamma) (neg_ℚ s))) rows
      (λ r k. le_of_eq zero_ℚ _ (sym (ap (λ (v : List ℚ). dot r v) (sym turned) ∙ dot-negated r z
      ∙ ap neg_ℚ (member_of (λ r. dot r z ≡ zero_ℚ) rows r tight k) ∙ neg_zero))))

  level_up : zero_ℚ ≤ℚ s
  level_up = subst (λ (a : ℚ). zero_ℚ ≤ℚ a) (weight_normed c f s (some file c fits) f_again (c_last file c fits)) (inside.within c fits.interior.member)

  level_down : zero_ℚ ≤ℚ neg_ℚ s
  level_down =
      subst (λ (a : ℚ). zero_ℚ ≤ℚ a)
      (weight_normed c (negated f) (neg_ℚ s) (some file c fits) (length-negated f (length c - 1) f_again) (c_last file c fits))
      (outside.within c fits.interior.member)

  s_zero : s ≡ zero_ℚ
  s_zero = le_antisymm s zero_ℚ (le_of_difference s zero_ℚ (neg_ℚ s) level_down (add_neg s)) level_up

  weight_zero : weight_at c f s ≡ zeros file.objs
  weight_zero = zero_at_interior file.objs (IsInOrderingCone file) c (weight_at c f s) fits.interior inside
      (weight_normed c f s (some file c fits) f_again (c_last file c fits) ∙ s_zero)

  gamma_zero : gamma ≡ zero_ℚ
  gamma_zero = out gamma
      (ap (λ (a : ℚ). a -ℚ gamma) (sym (ap (λ (v : List ℚ). dot v (image_of file h.point)) weight_zero ∙ dot_comm (zeros file.objs) _ ∙ dot-zeros _ file.objs))
      ∙ sym (exchange_at c (image_of file h.point) f gamma s true (some file c fits) (image_wide file h.point ∙ sym (c_long file c fits)) f_again)
      ∙ ap (λ (v : List ℚ). dot (exchange_row c (image_of file h.point) true) v) (sym parts)
      ∙ member_of (λ r. dot r z ≡ zero_ℚ) rows _ tight h.listed)
    where
      out : (a : ℚ) → zero_ℚ -ℚ a ≡ zero_ℚ → a ≡ zero_ℚ
      out a e = ring_by rationals (a ∷ []) v0 (num (pos 0)) (num (negsuc 0)) (num (pos 0) ⊝ v0) (num (pos 0)) e refl

  pub nothing_tight : z ≡ zeros (suc file.objs)
  nothing_tight =
      let whole : suc (suc (file.objs - 1)) ≡ suc file.objs = omega (arith, file.some_objective) in
      parts ∙ ap₂ (λ (v : List ℚ) (a : ℚ). v ++ a ∷ s ∷ []) (front_zero c f s file.objs f_long weight_zero) gamma_zero ∙ ap (λ (a : ℚ). zeros (file.objs - 1) ++ zero_ℚ ∷ a ∷ []) s_zero
      ∙ two_more (file.objs - 1) ∙ ap (λ (n : ℕ). zeros n) whole

-- ---- growing
grows : (file : Problem) (c : List ℚ) (rows : List (List ℚ)) (row : List ℚ) → AreLowerRows file c rows → IsBaseRow file c row →
    AreLowerRows file c (rows ++ row ∷ [])
grows file c rows row h b = record {
  base = All-append (IsBaseRow file c) rows (row ∷ []) h.base (All-cons (IsBaseRow file c) row [] b (All-nil (IsBaseRow file c)));
  point = h.point;
  feasible = h.feasible;
  listed = Contains-append_left rows (row ∷ []) _ h.listed;
  in_dual = λ f gamma s long k. h.in_dual f gamma s long
      (all_of_members (λ r. zero_ℚ ≤ℚ dot r (dual_at f gamma s)) rows
      (λ r m. member_of (λ r. zero_ℚ ≤ℚ dot r (dual_at f gamma s)) (rows ++ row ∷ []) r k (Contains-append_left rows (row ∷ []) r m)));
}

exchange_long : (c y : List ℚ) (t : Bool) (q : ℕ) → 1 ≤ q → length c ≡ q → length y ≡ q → length (exchange_row c y t) ≡ suc q
exchange_long c y t q low c_is y_is =
    length-append (minus (front y) (scaled (entry y (length y)) (front c))) _
    ∙ omega (
      arith,
      low,
      length-minus (q - 1) (front y) (scaled (entry y (length y)) (front c))
          (length-take-le (length y - 1) y (omega arith) ∙ omega (arith, y_is))
          (length-scaled (entry y (length y)) (front c) ∙ length-take-le (length c - 1) c (omega arith) ∙ omega (arith, c_is)),
    )

pub base_long : (file : Problem) (c row : List ℚ) → length c ≡ file.objs → IsBaseRow file c row → length row ≡ suc file.objs
base_long file c row long (of_choice x h same) =
    ap (λ (v : List ℚ). length v) same ∙ exchange_long c (image_of file x) true file.objs file.some_objective long (image_wide file x)
base_long file c row long (of_ray r h same) =
    ap (λ (v : List ℚ). length v) same ∙ exchange_long c (image_of file r) false file.objs file.some_objective long (image_wide file r)
base_long file c row long (of_cone e h same) =
    ap (λ (v : List ℚ). length v) same ∙ exchange_long c e false file.objs file.some_objective long ((ordering_cone_convex file).wide e (cone_direction file e h))

lower_step : (file : Problem) (c : List ℚ) (rows : List (List ℚ)) (list : LiveList) (row : List ℚ) → length c ≡ file.objs → IsLower file c rows list →
    IsBaseRow file c row → IsLower file c (rows ++ row ∷ []) (step rows list row)
lower_step file c rows list row long h b = record {
  rows_are = grows file c rows row h.rows_are b;
  live = are_live.after (suc file.objs) rows list (row ∷ [])
      (record { wide = All-cons (HasWidth (suc file.objs)) row [] (base_long file c row long b) (All-nil (HasWidth (suc file.objs))) }) h.live;
  made = generator_laws.grows (suc file.objs) rows list row h.made;
}

pub lower_rows : LowerRowLaws
lower_rows = record {
  grows = grows;
  step = lower_step;
  rank = λ file c rows fits h z long tight. nothing_tight file c fits rows h z long tight;
  holds = λ file c rows e fits h valid. holds file c fits rows e h valid;
}
