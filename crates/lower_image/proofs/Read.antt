-- What is read off an optimum of the program of a weight.
use Rattle.std.proofs.Common.{◌≡◌, ℕ, List, map, length, sym, ap, ap₂, ◌∙◌, subst, arith, ◌<◌, ◌+◌, ◌-◌, ◌⊎◌, inl, inr, slice_index_or}
use Rattle.std.proofs.lemmas.List.{length-map, get_or-map}
use Rattle.exact_field.specs.Rational.{ℚ, zero_ℚ, one_ℚ}
use Rattle.exact_field.specs.Vector.{dot}
use Rattle.frac128.specs.declared.vectors.Spot.{Spot}
use Rattle.tableaux.specs.Dictionary.{solution}
use Rattle.tableaux.specs.Table.{System, unknown_count}
use Rattle.vlp_problem.specs.Sides.{side_bounds}
use Rattle.vlp_problem.specs.declared.problem.Problem.{Problem}
use Rattle.upper_image.specs.OrderingCone.{IsInDualCone}
use Rattle.upper_image.specs.Shows.{ShowsCut}
use Rattle.upper_image.specs.Spots.{dense, IsVector}
use Rattle.lp_form.specs.declared.data.Data.{Data}
use Rattle.lp_form.specs.declared.name.LpName.TheVariants.{Weight}
use Rattle.lp_form.specs.Data.{IsDataOf, cone_of}
use Rattle.lp_form.specs.Programs.{side_total, weight_system, weight_unknowns, u_of, w_of, v_of}
use Rattle.lp_form.specs.Reading.{HasColumns, IsSplit}
use Rattle.lp_form.proofs.Figures.{side_number, objective_number}
use Rattle.lp_form.proofs.Systems.{weight_ok}
use Rattle.overflows.specs.Base.{AreCutParts, IsBaseCut, IsBaseWeight}
use Rattle.overflows.specs.Products.{IsBaseU}
use Rattle.overflows.specs.Settings.{Setting, Knows}
use Rattle.cone_rules.proofs.Opposite.{opposite_columns}
use Rattle.benson_program.proofs.Spread.{spots, spots-dense}
use Rattle.benson_program.specs.Cuts.{IsCutOf}
use Rattle.benson_program.specs.Ends.{IsOptimumAt}
use Rattle.benson_program.proofs.SolutionParts.{u_long}
use Rattle.benson_program.proofs.Read.{wide_in}
use Rattle.benson_program.proofs.Made.{parts, proves, v_many}
use Rattle.lp_form.specs.declared.shown.Cut.{Cut}
use Rattle.lower_image.proofs.WeightEnds.{weight_cut}
use Rattle.lower_image.proofs.WeightEquations.{weight_total, length-weight_cost}
use Rattle.lower_image.proofs.Opposite.{opposite_entries}

-- ---- in numbers
module _ (file : Problem) (w : List ℚ) (basis : List ℕ) (z y : List ℚ) (w_long : length w ≡ file.objs) (h : IsOptimumAt (weight_system file w) basis z y) where
  abbrev s : System
  s = weight_system file w

  pub z_long : length z ≡ weight_total file
  z_long = h.optimal.wide ∙ length-weight_cost file

  -- of the two columns of an entry of w at most one is not 0
  split : (i : ℕ) → i < file.objs →
      (slice_index_or z (side_total file + i) zero_ℚ ≡ zero_ℚ) ⊎ (slice_index_or z (side_total file + file.objs + i) zero_ℚ ≡ zero_ℚ)
  split i inside =
      let j : ℕ = side_total file + i in
      let k : ℕ = side_total file + file.objs + i in
      let first : j + 1 - 1 ≡ j = omega arith in
      let second : k + 1 - 1 ≡ k = omega arith in
      let many : unknown_count s ≡ weight_total file = length-weight_cost file in
      let P : ℕ → ℕ → List ℚ → Type 0 = λ a b x. (slice_index_or x a zero_ℚ ≡ zero_ℚ) ⊎ (slice_index_or x b zero_ℚ ≡ zero_ℚ) in
      let off : P (j + 1 - 1) (k + 1 - 1) (solution s basis h.dictionary) =
      opposite_columns s basis h.dictionary (j + 1) (k + 1) (weight_ok file w w_long) h.read.feasible.full (omega arith)
      (omega (arith, many, inside)) (omega arith) (omega (arith, many, inside)) (λ e. omega (arith, e, inside)) (opposite_entries file i inside) in
      subst (λ (x : List ℚ). P j k x) (sym h.read.x_read)
      (subst (λ (a : ℕ). P a k (solution s basis h.dictionary)) first (subst (λ (b : ℕ). P (j + 1 - 1) b (solution s basis h.dictionary)) second off))

  -- some sparse vectors are the parts of z
  parts_there : AreCutParts file z (spots (u_of file z)) (spots (v_of file file.cone z))
  parts_there = record {
    dual = subst (λ (n : ℕ). dense n (spots (u_of file z)) ≡ u_of file z) (u_long file (weight_unknowns file.cone) z z_long) (spots-dense (u_of file z));
    cone = spots-dense (v_of file file.cone z);
  }

  pub base : (c : List ℚ) (u m : List Spot) → IsBaseWeight file c w → AreCutParts file z u m → IsBaseCut file c w u m
  base c u m weight parts = IsBaseCut.of_weight z weight
      (record { basis = basis; dictionary = h.dictionary; full = h.read.feasible.full; reads = h.read.x_read }, h.optimal.solves) parts

  pub base_u : (setting : Setting) (c : List ℚ) → setting.file ≡ file → Knows setting c → IsBaseWeight file c w → IsBaseU setting (u_of file z)
  base_u setting c same known weight =
      subst (λ (f : Problem). IsBaseCut f c w (spots (u_of file z)) (spots (v_of file file.cone z)) →
      u_of file z ≡ dense (side_total f) (spots (u_of file z)) → IsBaseU setting (u_of file z)) same
      (λ b e. inl (c, w, spots (u_of file z), spots (v_of file file.cone z), known, b, e))
      (base c (spots (u_of file z)) (spots (v_of file file.cone z)) weight parts_there) (sym parts_there.dual)

-- ---- in a field
module _ {F : Type 0} (value : F → ℚ) (form : Data F) (file : Problem) (stands : IsDataOf value file form) where
  module _ (w z : List F) (basis : List ℕ) (y : List ℚ) (w_long : length w ≡ length form.p)
      (h : IsOptimumAt (weight_system file (map value w)) basis (map value z) y) where
    unknowns_long : length z ≡ weight_total file
    unknowns_long = sym (length-map z value) ∙ z_long file (map value w) basis (map value z) y (wide_in value form file stands w w_long) h

    unknowns_are : length form.sides + length form.p + length form.p + weight_unknowns (cone_of value form.cone) ≡ weight_total file
    unknowns_are =
        ap₂ (λ a b. a + b) (ap₂ (λ m q. m + q + q) (side_number value file form stands) (objective_number value file form stands))
        (ap weight_unknowns stands.cone)

    split_in : IsSplit value (length form.sides) (length form.p) z
    split_in i x x' inside =
        let m_is : length form.sides ≡ side_total file = side_number value file form stands in
        let q_is : length form.p ≡ file.objs = objective_number value file form stands in
        let first : length form.sides + i < length z = omega (arith, unknowns_long, m_is, q_is, inside) in
        let second : length form.sides + length form.p + i < length z = omega (arith, unknowns_long, m_is, q_is, inside) in
        let P : ℕ → ℕ → Type 0 = λ a b. (slice_index_or (map value z) a zero_ℚ ≡ zero_ℚ) ⊎ (slice_index_or (map value z) b zero_ℚ ≡ zero_ℚ) in
        let there : P (side_total file + i) (side_total file + file.objs + i) =
        split file (map value w) basis (map value z) y (wide_in value form file stands w w_long) h i (subst (λ (q : ℕ). i < q) q_is inside) in
        let here : P (length form.sides + i) (length form.sides + length form.p + i) =
        subst (λ (a : ℕ). P a (length form.sides + length form.p + i)) (ap (λ a. a + i) (sym m_is))
        (subst (λ (b : ℕ). P (side_total file + i) b) (ap₂ (λ a b. a + b + i) (sym m_is) (sym q_is)) there) in
        elim here [
          | inl e ↦ inl (sym (get_or-map value z (length form.sides + i) x zero_ℚ first) ∙ e)
          | inr e ↦ inr (sym (get_or-map value z (length form.sides + length form.p + i) x' zero_ℚ second) ∙ e)
        ]

    pub columns_in : HasColumns value form (Weight w) z
    columns_in = (unknowns_long ∙ sym unknowns_are, split_in)

    pub sides_in : (u : List F) → map value u ≡ u_of file (map value z) → length u ≡ length form.sides
    sides_in u e =
        sym (length-map u value) ∙ ap length e
        ∙ u_long file (weight_unknowns file.cone) (map value z) (z_long file (map value w) basis (map value z) y (wide_in value form file stands w w_long) h)
        ∙ sym (side_number value file form stands)

-- ---- the cut
module _ {F : Type 0} (value : F → ℚ) (file : Problem) (c w : List ℚ) (basis : List ℕ) (z y : List ℚ) (w_long : length w ≡ file.objs)
    (h : IsOptimumAt (weight_system file w) basis z y) (weight : IsBaseWeight file c w) (inside : IsInDualCone file w) (normed : dot w c ≡ one_ℚ)
    (cut : Cut F) (u_read : map value cut.u ≡ u_of file z) (w_read : map value cut.w ≡ w_of file z) (v_read : map value cut.v ≡ v_of file file.cone z) where
  u_many : length cut.u ≡ side_total file
  u_many = sym (length-map cut.u value) ∙ ap length u_read ∙ u_long file (weight_unknowns file.cone) z (z_long file w basis z y w_long h)

  pub normal_is : map value cut.w ≡ w
  normal_is = w_read ∙ weight_cut.normal file w z y w_long h.optimal

  pub made : value cut.gamma ≡ dot (side_bounds file) (map value cut.u) → IsCutOf value file c z cut
  made bound = record {
    u_read = u_read;
    w_read = w_read;
    v_read = v_read;
    bound = bound;
    shown = λ u m left right. subst (λ (v : List ℚ). ShowsCut file c v (value cut.gamma) u m) (sym normal_is)
        (weight_cut.cut file c w z y (value cut.gamma) u m w_long normed inside h.optimal (subst (λ (n : ℕ). IsVector n u) u_many left.vector)
        (subst (λ (n : ℕ). IsVector n m) (v_many value file z cut u_many u_read v_read) right.vector) (parts value file z cut u_many u_read v_read u m left right)
        (proves value file z cut u_many u_read v_read u m left right bound));
    base = λ u m left right. subst (λ (v : List ℚ). IsBaseCut file c v u m) (sym normal_is)
        (base file w basis z y w_long h c u m weight (parts value file z cut u_many u_read v_read u m left right));
  }
