-- What is read off an optimum of Benson's program.
use Rattle.std.proofs.Common.{◌≡◌, ℕ, List, map, length, sym, ap, ap₂, ◌∙◌, subst, arith, ◌<◌, ◌+◌, ◌-◌, ◌⊎◌, inl, inr, Bool, slice_index_or}
use Rattle.std.proofs.lemmas.List.{length-map, get_or-map}
use Rattle.exact_field.specs.Rational.{ℚ, zero_ℚ}
use Rattle.frac128.specs.declared.vectors.Spot.{Spot}
use Rattle.tableaux.specs.Dictionary.{solution}
use Rattle.tableaux.specs.Table.{System, unknown_count}
use Rattle.vlp_problem.specs.Sides.{side_bounds}
use Rattle.vlp_problem.specs.declared.problem.Problem.{Problem}
use Rattle.upper_image.specs.Spots.{dense}
use Rattle.lp_form.specs.declared.data.Data.{Data}
use Rattle.lp_form.specs.declared.data.SideOf.{SideOf}
use Rattle.lp_form.specs.declared.name.LpName.TheVariants.{Benson}
use Rattle.lp_form.specs.Data.{IsDataOf, cone_of}
use Rattle.lp_form.specs.Programs.{side_total, dual_unknowns, benson_system, u_of, w_of, v_of}
use Rattle.lp_form.specs.Reading.{HasColumns, IsSplit}
use Rattle.lp_form.proofs.Figures.{side_number, objective_number}
use Rattle.lp_form.proofs.Systems.{benson_ok}
use Rattle.overflows.specs.Base.{AreCutParts, IsBaseCut}
use Rattle.overflows.specs.Products.{IsBaseU}
use Rattle.overflows.specs.Settings.{Setting, Knows}
use Rattle.overflows.proofs.Cuts.{benson_unknowns, length-benson_cost}
use Rattle.overflows.proofs.CutTurns.{cuts_are_base}
use Rattle.cone_rules.proofs.Opposite.{opposite_columns}
use Rattle.benson_program.proofs.Opposite.{opposite_entries}
use Rattle.benson_program.proofs.Spread.{spots, spots-dense}
use Rattle.benson_program.specs.Ends.{IsOptimumAt}
use Rattle.benson_program.proofs.SolutionParts.{u_long}

-- ---- in numbers
module _ (file : Problem) (c v : List ℚ) (t : Bool) (basis : List ℕ) (z y : List ℚ) (c_long : length c ≡ file.objs) (v_long : length v ≡ file.objs)
    (h : IsOptimumAt (benson_system file c v t) basis z y) where
  abbrev s : System
  s = benson_system file c v t

  pub z_long : length z ≡ benson_unknowns file
  z_long = h.optimal.wide ∙ length-benson_cost file v t v_long

  -- of the two columns of an entry of w at most one is not 0
  pub split : (i : ℕ) → i < file.objs →
      (slice_index_or z (side_total file + i) zero_ℚ ≡ zero_ℚ) ⊎ (slice_index_or z (side_total file + file.objs + i) zero_ℚ ≡ zero_ℚ)
  split i inside =
      let j : ℕ = side_total file + i in
      let k : ℕ = side_total file + file.objs + i in
      let first : j + 1 - 1 ≡ j = omega arith in
      let second : k + 1 - 1 ≡ k = omega arith in
      let many : unknown_count s ≡ benson_unknowns file = length-benson_cost file v t v_long in
      let P : ℕ → ℕ → List ℚ → Type 0 = λ a b x. (slice_index_or x a zero_ℚ ≡ zero_ℚ) ⊎ (slice_index_or x b zero_ℚ ≡ zero_ℚ) in
      let off : P (j + 1 - 1) (k + 1 - 1) (solution s basis h.dictionary) =
      opposite_columns s basis h.dictionary (j + 1) (k + 1) (benson_ok file c v t c_long v_long) h.read.feasible.full (omega arith)
      (omega (arith, many, inside)) (omega arith) (omega (arith, many, inside)) (λ e. omega (arith, e, inside)) (opposite_entries file c i c_long inside) in
      subst (λ (x : List ℚ). P j k x) (sym h.read.x_read)
      (subst (λ (a : ℕ). P a k (solution s basis h.dictionary)) first (subst (λ (b : ℕ). P (j + 1 - 1) b (solution s basis h.dictionary)) second off))

  -- some sparse vectors are the parts of z
  pub parts_there : AreCutParts file z (spots (u_of file z)) (spots (v_of file file.cone z))
  parts_there = record {
    dual = subst (λ (n : ℕ). dense n (spots (u_of file z)) ≡ u_of file z) (u_long file (dual_unknowns file.objs file.cone) z z_long) (spots-dense (u_of file z));
    cone = spots-dense (v_of file file.cone z);
  }

  pub base : (u m : List Spot) → AreCutParts file z u m → IsBaseCut file c (w_of file z) u m
  base u m parts = cuts_are_base file c v t z y basis h.dictionary u m c_long v_long h.optimal h.read parts

  pub base_u : (setting : Setting) → setting.file ≡ file → Knows setting c → IsBaseU setting (u_of file z)
  base_u setting same known =
      subst (λ (f : Problem). IsBaseCut f c (w_of file z) (spots (u_of file z)) (spots (v_of file file.cone z)) →
      u_of file z ≡ dense (side_total f) (spots (u_of file z)) → IsBaseU setting (u_of file z)) same
      (λ b e. inl (c, w_of file z, spots (u_of file z), spots (v_of file file.cone z), known, b, e))
      (base (spots (u_of file z)) (spots (v_of file file.cone z)) parts_there) (sym parts_there.dual)

-- ---- in a field
module _ {F : Type 0} (value : F → ℚ) (form : Data F) (file : Problem) (stands : IsDataOf value file form) where
  pub wide_in : (v : List F) → length v ≡ length form.p → length (map value v) ≡ file.objs
  wide_in v long = length-map v value ∙ long ∙ objective_number value file form stands

  module _ (c v z : List F) (t : Bool) (basis : List ℕ) (y : List ℚ) (c_long : length c ≡ length form.p) (v_long : length v ≡ length form.p)
      (h : IsOptimumAt (benson_system file (map value c) (map value v) t) basis (map value z) y) where
    unknowns_long : length z ≡ benson_unknowns file
    unknowns_long = sym (length-map z value) ∙ z_long file (map value c) (map value v) t basis (map value z) y (wide_in c c_long) (wide_in v v_long) h

    unknowns_are : length form.sides + length form.p + length form.p + dual_unknowns (length form.p) (cone_of value form.cone) ≡ benson_unknowns file
    unknowns_are =
        ap₂ (λ a b. a + b) (ap₂ (λ m q. m + q + q) (side_number value file form stands) (objective_number value file form stands))
        (ap₂ dual_unknowns (objective_number value file form stands) stands.cone)

    split_in : IsSplit value (length form.sides) (length form.p) z
    split_in i x x' inside =
        let m_is : length form.sides ≡ side_total file = side_number value file form stands in
        let q_is : length form.p ≡ file.objs = objective_number value file form stands in
        let first : length form.sides + i < length z = omega (arith, unknowns_long, m_is, q_is, inside) in
        let second : length form.sides + length form.p + i < length z = omega (arith, unknowns_long, m_is, q_is, inside) in
        let P : ℕ → ℕ → Type 0 = λ a b. (slice_index_or (map value z) a zero_ℚ ≡ zero_ℚ) ⊎ (slice_index_or (map value z) b zero_ℚ ≡ zero_ℚ) in
        let there : P (side_total file + i) (side_total file + file.objs + i) =
        split file (map value c) (map value v) t basis (map value z) y (wide_in c c_long) (wide_in v v_long) h i (subst (λ (q : ℕ). i < q) q_is inside) in
        let here : P (length form.sides + i) (length form.sides + length form.p + i) =
        subst (λ (a : ℕ). P a (length form.sides + length form.p + i)) (ap (λ a. a + i) (sym m_is))
        (subst (λ (b : ℕ). P (side_total file + i) b) (ap₂ (λ a b. a + b + i) (sym m_is) (sym q_is)) there) in
        elim here [
          | inl e ↦ inl (sym (get_or-map value z (length form.sides + i) x zero_ℚ first) ∙ e)
          | inr e ↦ inr (sym (get_or-map value z (length form.sides + length form.p + i) x' zero_ℚ second) ∙ e)
        ]

    pub columns_in : HasColumns value form (Benson v t) z
    columns_in = (unknowns_long ∙ sym unknowns_are, split_in)

    pub sides_in : (u : List F) → map value u ≡ u_of file (map value z) → length u ≡ length form.sides
    sides_in u e =
        sym (length-map u value) ∙ ap length e
        ∙ u_long file (dual_unknowns file.objs file.cone) (map value z) (z_long file (map value c) (map value v) t basis (map value z) y (wide_in c c_long) (wide_in v v_long) h)
        ∙ sym (side_number value file form stands)

module _ {F : Type 0} (value : F → ℚ) (form : Data F) (s : Setting) (stands : IsDataOf value s.file form) where
  -- the bounds of the sides
  pub bounds_in : (sides : List (SideOf F)) (bounds list : List F) → sides ≡ form.sides → map value bounds ≡ map (λ k. value k.beta) sides → list ≡ bounds →
      map value list ≡ side_bounds s.file
  bounds_in sides bounds list e h k = ap (map value) k ∙ h ∙ ap (map (λ (a : SideOf F). value a.beta)) e ∙ stands.bounds
