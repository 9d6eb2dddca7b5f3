-- What the program of a generator's weight says, in numbers.
use Rattle.std.proofs.Common.{◌≡◌, ◌≢◌, ◌≤◌, ℕ, zero, suc, Bool, true, false, List, [], ◌∷◌, ◌++◌, ◌-◌, length, map, take, refl, sym, ap, ap₂, ◌∙◌, subst, arith, slice_index_or, inr}
use Rattle.std.proofs.lemmas.List.{length-map, get_or-map, map_push, take-map}
use Rattle.exact_field.specs.Rational.{ℚ, zero_ℚ, one_ℚ, neg_ℚ, ◌+ℚ◌, ◌*ℚ◌}
use Rattle.exact_field.specs.Vector.{dot, entry, front}
use Rattle.polyhedra.specs.Hull.{IsValidAt}
use Rattle.polyhedra.specs.Negatives.{negated}
use Rattle.polyhedra.proofs.Laws.{mul_one}
use Rattle.polyhedra.proofs.LiveSteps.{are_live}
use Rattle.polyhedra.proofs.Negatives.{dot-negated_left}
use Rattle.vlp_problem.specs.Sides.{side_bounds}
use Rattle.upper_image.specs.OrderingCone.{Fits}
use Rattle.upper_image.specs.UpperImage.{IsInWorkingImage}
use Rattle.upper_image.proofs.Solid.{duality_fits}
use Rattle.deriv_log.specs.declared.entry.Entry.{Entry}
use Rattle.lp_form.specs.Data.{IsDataOf}
use Rattle.lp_form.specs.declared.data.Data.{Data}
use Rattle.vlp_problem.specs.declared.problem.Problem.{Problem}
use Rattle.lp_form.specs.Programs.{weight_system, u_of, choice_of}
use Rattle.overflows.specs.Base.{AreMultipliersOff, AreFirstMultipliersOff, IsBaseChoice, IsBaseRay, IsBaseRow, IsGeneratorOf, image_of, weight_of}
use Rattle.geo_duality.specs.Rows.{exchange_row}
use Rattle.overflows.specs.Products.{AreMultiplied}
use Rattle.overflows.specs.Turns.{IsRowTurn, said_exchange}
use Rattle.benson_program.specs.Ends.{IsOptimumAt, IsEmptyAt}
use Rattle.outer_approx.specs.Task.{Task, IsFitting, setting}
use Rattle.lower_image.proofs.WeightEnds.{weight_choice, weight_ray}
use Rattle.lower_image.specs.Laws.{IsWeighted}
use Rattle.lower_image.proofs.Generators.{in_cone, lower_generators}
use Rattle.lower_image.proofs.Turns.{lower_turns}
use Rattle.benson_program.specs.Cuts.{IsCutOf}
use Rattle.lp_form.specs.declared.shown.Cut.{Cut}
use Rattle.lower_image.specs.Ends.{IsWeightEnd}
use Rattle.lower_image.specs.Rows.{IsWeighable, Certifies}
use Rattle.lower_image.specs.declared.ends.WeightEnd.{WeightEnd}
use Rattle.lower_image.specs.declared.ends.WeightEnd.TheVariants.{Optimal, Empty}

-- ---- the entry with which the product with c is 1
pub weight_entry : (c f : List ℚ) (s : ℚ) → s ≡ one_ℚ → dot (one_ℚ ∷ negated (front c)) (s ∷ f) ≡ one_ℚ +ℚ neg_ℚ (dot (front c) f)
weight_entry c f s e = ap₂ (λ a b. a +ℚ b) (ap (λ x. one_ℚ *ℚ x) e ∙ mul_one one_ℚ) (dot-negated_left (front c) f)

pub weight_made : {F : Type 0} (value : F → ℚ) (c : List ℚ) (g w : List F) (k : ℕ) (e : F) → length c ≡ suc k → w ≡ take k g ++ e ∷ [] →
    value e ≡ one_ℚ +ℚ neg_ℚ (dot (front c) (take k (map value g))) → map value w ≡ weight_of c (map value g)
weight_made value c g w k e long made is =
    let short : k ≡ length c - 1 = omega (arith, long) in
    ap (map value) made ∙ map_push value (take k g) e
    ∙ ap₂ (λ (l : List ℚ) (a : ℚ). l ++ a ∷ []) (sym (take-map value k g)) is
    ∙ ap (λ (n : ℕ). take n (map value g) ++ (one_ℚ +ℚ neg_ℚ (dot (front c) (take n (map value g)))) ∷ []) short

-- ---- of a generator
module _ (task : Task) (holds : ℚ → Bool) (fit : IsFitting holds task) where
  pub fits : Fits task.file task.c
  fits = duality_fits task.file task.c task.weights fit.picks fit.inverse fit.fits

  pub c_wide : length task.c ≡ task.file.objs
  c_wide = fit.fits.lengths

  module _ (rows : List (List ℚ)) (g : List ℚ) (h : IsWeighable task rows g) where
    pub told : IsWeighted task.file task.c g
    told = lower_generators.weighted task.file task.c rows h.list g fits h.lower h.listed h.weighted

    pub wide : length g ≡ suc task.file.objs
    wide = (in_cone task.file task.c rows h.list g fits h.lower h.listed).wide

    pub weight_wide : length (weight_of task.c g) ≡ task.file.objs
    weight_wide = told.wide

    pub generator : IsGeneratorOf (suc task.file.objs) rows g
    generator =
        let is = (are_live.extreme (suc task.file.objs) rows h.list h.lower.live g).0 h.listed in
        record { pointed = h.lower.live.described.pointed; extreme = is.0; normed = is.1 }

    pub multiplied : (trail : List Entry) → AreMultiplied (setting task trail) (one_ℚ ∷ negated (front task.c))
        (entry g (suc task.file.objs) ∷ take (length task.c - 1) g)
    multiplied trail = AreMultiplied.last_weight task.c g rows refl h.lower.rows_are.base generator refl refl

    -- an optimum
    module _ (basis : List ℕ) (z y : List ℚ) (o : IsOptimumAt (weight_system task.file (weight_of task.c g)) basis z y) where
      read_off : AreMultipliersOff (weight_system task.file (weight_of task.c g)) y
      read_off = record { basis = basis; dictionary = o.dictionary; full = o.read.feasible.full; reads = o.read.dual_read }

      pub choice : IsBaseChoice task.file (choice_of task.file y)
      choice = record {
        feasible = weight_choice.feasible task.file (weight_of task.c g) z y weight_wide o.optimal;
        read = inr (weight_of task.c g, y, weight_wide, read_off, refl);
      }

      pub choice_turns : dot (side_bounds task.file) (u_of task.file z) ≢ entry g task.file.objs →
          IsRowTurn task.file task.c rows (said_exchange task.file task.c y true) × IsBaseRow task.file task.c (said_exchange task.file task.c y true)
      choice_turns other = lower_turns.choice task.file task.c rows h.list g z y fits h.lower h.listed h.weighted o.optimal read_off other

    -- no solution
    module _ (basis : List ℕ) (y : List ℚ) (o : IsEmptyAt (weight_system task.file (weight_of task.c g)) basis y) where
      empty_off : AreFirstMultipliersOff (weight_system task.file (weight_of task.c g)) y
      empty_off = record { basis = basis; dictionary = o.dictionary; full = o.read.full; reads = o.read.farkas_read }

      pub ray : IsBaseRay task.file (choice_of task.file y)
      ray = record {
        recedes = weight_ray.recedes task.file (weight_of task.c g) y weight_wide o.infeasible;
        weight = weight_of task.c g;
        wide = weight_wide;
        multipliers = y;
        read = empty_off;
        same = refl;
      }

      pub ray_turns : IsRowTurn task.file task.c rows (said_exchange task.file task.c y false) × IsBaseRow task.file task.c (said_exchange task.file task.c y false)
      ray_turns = lower_turns.ray task.file task.c rows h.list g y fits h.lower h.listed h.weighted o.infeasible empty_off

-- ---- in a field
pub choice_is : {F : Type 0} (value : F → ℚ) (file : Problem) (form : Data F) → IsDataOf value file form → (y : List F) →
    choice_of file (map value y) ≡ map value (take form.cols y)
choice_is value file form stands y = take-map value file.cols y ∙ ap (λ (n : ℕ). map value (take n y)) (sym stands.cols)

pub row_said : {F : Type 0} (value : F → ℚ) (task : Task) (form : Data F) → IsDataOf value task.file form → (dual : List F) (t : Bool) (y : List ℚ) →
    y ≡ image_of task.file (map value (take form.cols dual)) → exchange_row task.c y t ≡ said_exchange task.file task.c (map value dual) t
row_said value task form stands dual t y is =
    ap (λ (v : List ℚ). exchange_row task.c v t) (is ∙ ap (image_of task.file) (sym (choice_is value task.file form stands dual)))

module _ {F : Type 0} (value : F → ℚ) (file : Problem) (w W : List ℚ) (end : WeightEnd F) (same : w ≡ W) (h : IsWeightEnd value file w end) where
  pub empty_said : (dual : List F) (basis : List ℕ) (y : List ℚ) → end ≡ Empty dual basis → y ≡ map value dual →
      IsEmptyAt (weight_system file W) basis y
  empty_said dual basis y is read =
      subst (λ (v : List ℚ). IsEmptyAt (weight_system file v) basis y) same
      (subst (λ (v : List ℚ). IsEmptyAt (weight_system file w) basis v) (sym read) (subst (IsWeightEnd value file w) is h))

  pub optimum_said : (z dual : List F) (basis : List ℕ) (x y : List ℚ) → end ≡ Optimal z dual basis → x ≡ map value z → y ≡ map value dual →
      IsOptimumAt (weight_system file W) basis x y
  optimum_said z dual basis x y is x_read y_read =
      subst (λ (v : List ℚ). IsOptimumAt (weight_system file v) basis x y) same
      (subst (λ (v : List ℚ). IsOptimumAt (weight_system file w) basis x v) (sym y_read)
      (subst (λ (v : List ℚ). IsOptimumAt (weight_system file w) basis v (map value dual)) (sym x_read) (subst (IsWeightEnd value file w) is h)))

pub long_enough : (n : ℕ) (xs : List ℚ) → length (take n xs) ≡ n → n ≤ length xs
long_enough zero xs e = omega arith
long_enough (suc n) [] e = absurd (omega (arith, e))
long_enough (suc n) (x ∷ xs) e = let more = long_enough n xs (omega (arith, e)) in omega (arith, more)

-- the entry of a generator that is the bound
pub bound_entry : {F : Type 0} (value : F → ℚ) (gen : List F) (x : F) (q : ℕ) → 1 ≤ q → length (map value gen) ≡ suc q →
    x ≡ slice_index_or gen (length gen - 2) x → value x ≡ entry (map value gen) q
bound_entry value gen x q some wide is =
    let long : length (map value gen) ≡ length gen = length-map gen value in
    let place : length gen - 2 ≡ q - 1 = omega (arith, long, wide, some) in
    ap value is ∙ sym (get_or-map value gen (length gen - 2) x zero_ℚ (omega (arith, long, wide, some)))
    ∙ ap (λ (n : ℕ). slice_index_or (map value gen) n zero_ℚ) place

pub certifies : {F : Type 0} (value : F → ℚ) (task : Task) (g : List ℚ) (cut : Cut F) (z : List ℚ) → IsCutOf value task.file task.c z cut →
    length (weight_of task.c g) ≡ task.file.objs → map value cut.w ≡ weight_of task.c g → value cut.gamma ≡ entry g task.file.objs →
    IsValidAt task.file.objs (IsInWorkingImage task.file) task.c (record { normal = weight_of task.c g; bound = dot (side_bounds task.file) (u_of task.file z) }) →
    Certifies value task g cut
certifies value task g cut z h wide normal bound valid = record {
  is = record {
    wide = sym (length-map cut.w value) ∙ ap length normal ∙ wide;
    shown = h.shown;
    base = h.base;
  };
  says = ap₂ (λ (n : List ℚ) (b : ℚ). record { normal = n; bound = b }) normal bound;
  valid = subst (λ (b : ℚ). IsValidAt task.file.objs (IsInWorkingImage task.file) task.c (record { normal = weight_of task.c g; bound = b }))
      (ap (dot (side_bounds task.file)) (sym h.u_read) ∙ sym h.bound ∙ bound) valid;
}
