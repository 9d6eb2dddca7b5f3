-- What an end of Benson's program says, where some point is feasible and some cut is valid.
use Rattle.std.proofs.Common.{◌≡◌, ℕ, List, map, length, refl, sym, ap, ap₂, ◌∙◌, subst, arith, Bool, true, false, ◌≢◌, ◌<◌, ◌-◌, slice_index_or}
use Rattle.std.proofs.lemmas.List.{length-map, length-take-le}
use Rattle.exact_field.specs.Rational.{ℚ, zero_ℚ, inverse_ℚ, neg_ℚ, ◌-ℚ◌, ◌<ℚ◌, ◌≤ℚ◌}
use Rattle.exact_field.specs.Vector.{dot}
use Rattle.exact_field.proofs.Rationals.{difference_self}
use Rattle.frac128.specs.declared.vectors.Spot.{Spot}
use Rattle.polyhedra.specs.DoubleDescription.{magnitude}
use Rattle.polyhedra.specs.Exactness.{row_of}
use Rattle.polyhedra.specs.Vectors.{zeros}
use Rattle.polyhedra.proofs.Algebra.{neg_neg, neg_zero}
use Rattle.polyhedra.proofs.Homogenised.{homogenised-same}
use Rattle.polyhedra.proofs.Linear.{length-scaled}
use Rattle.polyhedra.proofs.Order.{lt_irrefl}
use Rattle.tableaux.specs.Table.{System}
use Rattle.vlp_problem.specs.Sides.{side_bounds, IsFeasible}
use Rattle.vlp_problem.specs.declared.problem.Problem.{Problem}
use Rattle.vlp_problem.specs.declared.problem.Cone.{Cone}
use Rattle.vlp_problem.specs.declared.problem.Cone.TheVariants.{Orthant, Gens, Dual}
use Rattle.upper_image.specs.OrderingCone.{Fits}
use Rattle.upper_image.specs.Shows.{ShowsInterior}
use Rattle.upper_image.specs.Spots.{dense, product, IsVector}
use Rattle.upper_image.proofs.Solid.{duality_fits}
use Rattle.lp_form.specs.Data.{IsDataOf, cone_of}
use Rattle.lp_form.specs.declared.data.Data.{Data}
use Rattle.lp_form.proofs.Figures.{objective_number}
use Rattle.lp_form.specs.Programs.{benson_system, choice_of, generators, value_of, u_of, w_of, v_of}
use Rattle.overflows.specs.Trails.{divided_by}
use Rattle.overflows.specs.Turns.{said_row}
use Rattle.benson_program.specs.Laws.{IsCutNormal}
use Rattle.benson_program.proofs.AsCut.{benson_cut}
use Rattle.benson_program.proofs.Excluded.{answers_exclude}
use Rattle.benson_program.proofs.AsPreimage.{multipliers_long}
use Rattle.benson_program.proofs.AsWhole.{benson_whole}
use Rattle.benson_program.specs.Cuts.{IsCutOf}
use Rattle.benson_program.specs.Ends.{CanStart, IsBensonEnd, IsEmptyAt, IsOptimumAt}
use Rattle.benson_program.specs.Preimages.{AreLowMultipliers}
use Rattle.benson_program.specs.Wholes.{AreEmptyAtOrigin}
use Rattle.benson_program.specs.declared.ends.BensonEnd.{BensonEnd}
use Rattle.benson_program.specs.declared.ends.BensonEnd.TheVariants.{Optimal, Empty}
use Rattle.benson_program.proofs.Counted.{last_is, some_last}
use Rattle.lp_form.specs.Sparse.{IsSparseOf}
use Rattle.lp_form.specs.declared.shown.Cut.{Cut}
use Rattle.benson_program.proofs.Read.{parts_there}
use Rattle.benson_program.proofs.Spread.{spots}
use Rattle.outer_approx.specs.Cuts.{IsCutFor, said_by}
use Rattle.outer_approx.specs.Task.{Task, IsFitting}
use Rattle.recession.specs.Asking.{IsProper, IsAskedCut}
use Rattle.recession.proofs.Agreeing.{same_benson}
use Rattle.recession.proofs.Written.{written}

-- some spots are the sparse vector of a list
pub sparse_there : {F : Type 0} (value : F → ℚ) (list : List F) → (m : List Spot) × IsSparseOf value list m
sparse_there value list =
    let w = written (map value list) in
    let long : length (map value list) ≡ length list = length-map list value in
    (w.0, record { vector = subst (λ (n : ℕ). IsVector n w.0) long w.1.vector; same = ap (λ (n : ℕ). dense n w.0) (sym long) ∙ w.1.same })

-- there is a weight for each generator
weights_each : (q : ℕ) (cone : Cone) (c weights : List ℚ) (picks : List ℕ) (inverse : List ℚ) → ShowsInterior q cone c weights picks inverse →
    length weights ≡ length (generators cone)
weights_each q Orthant c weights picks inverse h = ap length h.0.weights_none
weights_each q (Gens vectors) c weights picks inverse h = h.weight_each
weights_each q (Dual vectors) c weights picks inverse h = ap length h.0.weights_none

module _ (holds : ℚ → Bool) (task : Task) (fitting : IsFitting holds task) where
  pub fits : Fits task.file task.c
  fits = duality_fits task.file task.c task.weights fitting.picks fitting.inverse fitting.fits

  pub c_long : length task.c ≡ task.file.objs
  c_long = fitting.fits.lengths

  pub weights_long : length task.weights ≡ length (generators task.file.cone)
  weights_long = weights_each task.file.objs task.file.cone task.c task.weights fitting.picks fitting.inverse fitting.fits.interior

  -- Benson's program has a solution
  pub never_empty : (v : List ℚ) (t : Bool) (basis : List ℕ) (y : List ℚ) → length v ≡ task.file.objs → IsProper task →
      IsEmptyAt (benson_system task.file task.c v t) basis y → ⊥
  never_empty v t basis y v_long proper h =
      let file : Problem = task.file in
      let point : List ℚ = proper.feasible.0 in
      let x = written point in
      let x_vector : IsVector file.cols x.0 = subst (λ (n : ℕ). IsVector n x.0) proper.feasible.1.width x.1.vector in
      let x_same : dense file.cols x.0 ≡ point = ap (λ (n : ℕ). dense n x.0) (sym proper.feasible.1.width) ∙ x.1.same in
      let r : List ℚ = divided_by (value_of y) (choice_of file y) in
      let y_long = multipliers_long file task.c v t y c_long v_long h.infeasible.one_each in
      let r_long : length r ≡ file.cols =
      length-scaled (inverse_ℚ (magnitude (value_of y))) (choice_of file y) ∙ length-take-le file.cols y (omega (arith, y_long)) in
      let ray = written r in
      let ray_vector : IsVector file.cols ray.0 = subst (λ (n : ℕ). IsVector n ray.0) r_long ray.1.vector in
      let ray_same : dense file.cols ray.0 ≡ r = ap (λ (n : ℕ). dense n ray.0) (sym r_long) ∙ ray.1.same in
      answers_exclude.whole file task.c proper.bounded.0 x.0 ray.0
      (benson_whole.whole file task.c v t y x.0 ray.0 fits v_long h.infeasible x_vector (subst (IsFeasible file) (sym x_same) proper.feasible.1) ray_vector ray_same)
      proper.bounded.1

module _ {F : Type 0} (value : F → ℚ) (task : Task) (cut : Cut F) where
  pub cut_normal : IsCutFor value task cut → IsCutNormal task.file task.c (map value cut.w)
  cut_normal h =
      let u = sparse_there value cut.u in
      let v = sparse_there value cut.v in
      (value cut.gamma, u.0, v.0, h.shown u.0 v.0 u.1 v.1)

  module _ (z : List ℚ) (h : IsCutOf value task.file task.c z cut) where
    pub cut_for : IsCutFor value task cut
    cut_for =
        let u = sparse_there value cut.u in
        let v = sparse_there value cut.v in
        record {
          wide = sym (length-map cut.w value) ∙ (h.shown u.0 v.0 u.1 v.1).lengths;
          shown = h.shown;
          base = h.base;
        }

    cut_says : row_of (said_by value cut) ≡ said_row task.file z
    cut_says =
        ap₂ (λ (w : List ℚ) (b : ℚ). row_of (record { normal = w; bound = b })) h.w_read
        (h.bound ∙ ap (dot (side_bounds task.file)) h.u_read)

    pub asked_cut : (v : List ℚ) (t : Bool) (basis : List ℕ) (y : List ℚ) → IsOptimumAt (benson_system task.file task.c v t) basis z y →
        zero_ℚ <ℚ value_of y → IsAskedCut value task v t cut
    asked_cut v t basis y optimum positive =
        record { z = z; multipliers = y; basis = basis; optimum = optimum; positive = positive; says = cut_says; is = cut_for }

  -- the normal of an asked cut at a direction is not 0 at it
  module _ (v : List ℚ) (h : IsAskedCut value task v false cut) (c_wide : length task.c ≡ task.file.objs) (v_wide : length v ≡ task.file.objs) where
    pub off : dot (map value cut.w) v ≢ zero_ℚ
    off e =
        let file : Problem = task.file in
        let u = spots (u_of file h.z) in
        let m = spots (v_of file file.cone h.z) in
        let parts = parts_there file task.c v false h.basis h.z h.multipliers c_wide v_wide h.optimum in
        let level : dot (w_of file h.z) v -ℚ zero_ℚ ≡ neg_ℚ (value_of h.multipliers) =
        benson_cut.value file task.c v false h.z h.multipliers (product (side_bounds file) u) u m c_wide v_wide h.optimum.optimal parts refl in
        let same : map value cut.w ≡ w_of file h.z =
        (homogenised-same (map value cut.w) (w_of file h.z) (neg_ℚ (value cut.gamma)) (neg_ℚ (dot (side_bounds file) (u_of file h.z))) h.says).0 in
        let flat : dot (w_of file h.z) v ≡ zero_ℚ = ap (λ (w : List ℚ). dot w v) (sym same) ∙ e in
        let none : value_of h.multipliers ≡ zero_ℚ =
        sym (neg_neg (value_of h.multipliers)) ∙ ap neg_ℚ (sym level ∙ ap (λ (q : ℚ). q -ℚ zero_ℚ) flat ∙ difference_self zero_ℚ) ∙ neg_zero in
        lt_irrefl zero_ℚ (subst (λ (q : ℚ). zero_ℚ <ℚ q) none h.positive)

-- ---- the arguments of a call
module _ {F : Type 0} (value : F → ℚ) (holds : ℚ → Bool) (task : Task) (fitting : IsFitting holds task) (form : Data F) (stands : IsDataOf value task.file form) where
  pub wide_in : (v : List F) → length v ≡ task.file.objs → length v ≡ length form.p
  wide_in v long = long ∙ sym (objective_number value task.file form stands)

  pub c_wide_in : (c : List F) → map value c ≡ task.c → length c ≡ length form.p
  c_wide_in c is = wide_in c (sym (length-map c value) ∙ ap length is ∙ c_long holds task fitting)

  pub weights_in : (weights : List F) → map value weights ≡ task.weights → length weights ≡ length (generators (cone_of value form.cone))
  weights_in weights is =
      sym (length-map weights value) ∙ ap length is ∙ weights_long holds task fitting ∙ ap (λ (e : Cone). length (generators e)) (sym stands.cone)

  pub can_start : (c : List ℚ) (t : Bool) → c ≡ task.c → (t ≡ true → (x : List ℚ) × IsFeasible task.file x) → CanStart value form c t
  can_start c t is solvable =
      subst (λ (d : List ℚ). CanStart value form d t) (sym is)
      (record { file = task.file; stands = stands; interior = (fits holds task fitting).interior; solvable = solvable })

  -- an optimum of the program, whichever file the data stand for
  pub optimum_in : (file : Problem) → IsDataOf value file form → (c v : List ℚ) (t : Bool) (basis : List ℕ) (z y : List ℚ) → c ≡ task.c →
      IsOptimumAt (benson_system task.file task.c v t) basis z y → IsOptimumAt (benson_system file c v t) basis z y
  optimum_in file other c v t basis z y is h =
      subst (λ (d : List ℚ). IsOptimumAt (benson_system file d v t) basis z y) (sym is)
      (subst (λ (s : System). IsOptimumAt s basis z y) (same_benson value form task.file file stands other task.c v t) h)

  -- the last multiplier
  module _ (v : List ℚ) (t : Bool) (basis : List ℕ) (z : List ℚ) (dual : List F) (v_long : length v ≡ task.file.objs)
      (h : IsOptimumAt (benson_system task.file task.c v t) basis z (map value dual)) where
    pub last_in : (i : ℕ) (x : F) → x ≡ slice_index_or dual i x → i ≡ length dual - 1 → value x ≡ value_of (map value dual)
    last_in i x is e =
        let long = multipliers_long task.file task.c v t (map value dual) (c_long holds task fitting) v_long h.optimal.one_each in
        last_is value dual i x (subst (λ (k : ℕ). k < length dual) (sym e) (some_last value form task.file stands dual long)) is e

    pub low_in : value_of (map value dual) ≤ℚ zero_ℚ → AreLowMultipliers task.file task.c v t (map value dual)
    low_in low = record { c_wide = c_long holds task fitting; v_wide = v_long; basis = basis; solution = z; optimum = h; low = low }

  -- the ends of the program
  module _ (c : List ℚ) (v : List ℚ) (t : Bool) (e : BensonEnd F) (c_is : c ≡ task.c) (k : IsBensonEnd value task.file c v t e) where
    pub optimum_seen : (z dual zs duals : List F) (basis : List ℕ) → e ≡ Optimal z dual basis → zs ≡ z → duals ≡ dual →
        IsOptimumAt (benson_system task.file task.c v t) basis (map value zs) (map value duals)
    optimum_seen z dual zs duals basis is zs_are duals_are =
        let P : List ℚ → List F → List F → Type 0 = λ d a b. IsOptimumAt (benson_system task.file d v t) basis (map value a) (map value b) in
        subst (λ (d : List ℚ). P d zs duals) c_is
        (subst (λ (a : List F). P c a duals) (sym zs_are)
        (subst (λ (b : List F). P c z b) (sym duals_are) (subst (λ (x : BensonEnd F). IsBensonEnd value task.file c v t x) is k)))

    pub empty_seen : (dual duals : List F) (basis : List ℕ) → e ≡ Empty dual basis → duals ≡ dual →
        IsEmptyAt (benson_system task.file task.c v t) basis (map value duals)
    empty_seen dual duals basis is duals_are =
        let P : List ℚ → List F → Type 0 = λ d b. IsEmptyAt (benson_system task.file d v t) basis (map value b) in
        subst (λ (d : List ℚ). P d duals) c_is
        (subst (λ (b : List F). P c b) (sym duals_are) (subst (λ (x : BensonEnd F). IsBensonEnd value task.file c v t x) is k))

    -- where v is the origin
    pub empty_at_origin : (dual duals : List F) (basis : List ℕ) → v ≡ zeros task.file.objs → t ≡ true → e ≡ Empty dual basis → duals ≡ dual →
        AreEmptyAtOrigin task.file task.c (map value duals)
    empty_at_origin dual duals basis v_is t_is is duals_are = record {
      c_wide = c_long holds task fitting;
      basis = basis;
      empty =
          subst (λ (b : Bool). IsEmptyAt (benson_system task.file task.c (zeros task.file.objs) b) basis (map value duals)) t_is
          (subst (λ (u : List ℚ). IsEmptyAt (benson_system task.file task.c u t) basis (map value duals)) v_is (empty_seen dual duals basis is duals_are));
    }
