-- The columns that are written have the numbers of the program of a weight, equation by equation.
use Rattle.std.proofs.Common.{◌≡◌, ℕ, List, [], ◌++◌, length, map, refl, sym, ap, ap₂, ◌∙◌, arith, ◌<◌, ◌≤◌, ◌-◌, ◌+◌, inl, inr, ◌⊎◌, slice_index_or}
use Rattle.std.proofs.lemmas.Bool.{cases_lt}
use Rattle.std.proofs.lemmas.List.{append-nil, append_assoc, get_or-append_right, get_or_append_left, length-append, length-map, map-append}
use Rattle.std.proofs.lemmas.Simd.{map-map}
use Rattle.exact_field.specs.Rational.{ℚ, zero_ℚ, one_ℚ, ◌+ℚ◌, neg_ℚ}
use Rattle.exact_field.proofs.Rationals.{add-zero_ℚ, zero-add_ℚ}
use Rattle.polyhedra.specs.Negatives.{negated}
use Rattle.polyhedra.specs.Vectors.{zeros}
use Rattle.tableaux.specs.Table.{Table, listed, row_of, unit}
use Rattle.tableaux.proofs.Places.{length-list_from, listed-place}
use Rattle.lin_rows.specs.Lines.{entries, sum_at}
use Rattle.lin_rows.specs.declared.spots.Spot.{Spot}
use Rattle.upper_image.specs.UpperImage.{objective_column}
use Rattle.vlp_problem.specs.Sides.{side_column}
use Rattle.vlp_problem.specs.declared.problem.Problem.{Problem}
use Rattle.vlp_problem.specs.declared.problem.Cone.{Cone}
use Rattle.vlp_problem.specs.declared.problem.Cone.TheVariants.{Orthant, Gens, Dual}
use Rattle.lp_form.specs.Data.{IsDataOf}
use Rattle.lp_form.specs.Programs.{on_parts, side_total, weight_equations, weight_members, weight_system, weight_unknowns}
use Rattle.lp_form.specs.declared.data.Data.{Data}
use Rattle.lp_form.proofs.Figures.{objective_column_is, objective_number, side_column_is, side_number}
use Rattle.program_columns.specs.Entries.{across, given_entry, given_equations, given_row, single}
use Rattle.program_columns.specs.Written.{AreGiven, IsDirect}
use Rattle.program_columns.proofs.BensonRows.{mapped, objective-zero, same_listed, side-zero, units}
use Rattle.program_columns.proofs.Entered.{single_none}

-- ---- a cone that is not in dual form
pub no_unknowns : (cone : Cone) → IsDirect cone → weight_unknowns cone ≡ 0
no_unknowns Orthant h = refl
no_unknowns (Gens vectors) h = refl
no_unknowns (Dual vectors) h = absurd h

pub no_equations : (q : ℕ) (cone : Cone) → IsDirect cone → weight_equations q cone ≡ 0
no_equations q Orthant h = refl
no_equations q (Gens vectors) h = refl
no_equations q (Dual vectors) h = absurd h

no_members : (m q : ℕ) (cone : Cone) → IsDirect cone → weight_members m q cone ≡ []
no_members m q Orthant h = refl
no_members m q (Gens vectors) h = refl
no_members m q (Dual vectors) h = absurd h

-- ---- the equations of the program
module _ {F : Type 0} (value : F → ℚ) (file : Problem) (form : Data F) (w : List F)
    (stands : IsDataOf value file form) (w_long : length w ≡ length form.p)
    (direct : IsDirect file.cone) where
  abbrev m : ℕ
  m = length form.sides

  abbrev q : ℕ
  q = length form.p

  -- what the sides have in equation k
  abbrev side_row : ℕ → List ℚ
  side_row k = map (λ s. sum_at (entries value s.g) k) form.sides

  abbrev row : ℕ → List ℚ
  row k = on_parts (side_row k) (given_row value form k) []

  -- the equations of the columns
  first_row : (k : ℕ) → 1 ≤ k → k ≤ form.cols →
      row k ≡ on_parts (side_column file k) (negated (objective_column file k)) []
  first_row k low high =
      ap₂ (λ u v. on_parts u v []) (side_column_is value file form stands k low high)
      (same_listed q (λ i. given_entry value form i k)
      (λ i. neg_ℚ (sum_at (entries value (slice_index_or form.p (i - 1) [])) k))
      (λ i from_one to_end.
      ap (λ b. neg_ℚ (sum_at (entries value (slice_index_or form.p (i - 1) [])) k) +ℚ b)
      (single_none (form.cols + i) one_ℚ k (omega arith))
      ∙ add-zero_ℚ (neg_ℚ (sum_at (entries value (slice_index_or form.p (i - 1) [])) k)))
      ∙ mapped (λ r. neg_ℚ (sum_at (entries value r) k)) [] form.p
      ∙ objective_column_is value file form stands k low high)

  -- those of the weight's entries
  last_row : (i : ℕ) → 1 ≤ i → row (form.cols + i) ≡ on_parts (zeros m) (unit q i) []
  last_row i low =
      let k : ℕ = form.cols + i in
      ap₂ (λ u v. on_parts u v []) (side-zero value file form w stands w_long k (omega arith))
      (same_listed q (λ j. given_entry value form j k) (λ j. single (form.cols + j) one_ℚ k)
      (λ j from_one to_end.
      ap (λ a. a +ℚ single (form.cols + j) one_ℚ k)
      (objective-zero value file form w stands w_long j k from_one to_end (omega arith))
      ∙ zero-add_ℚ (single (form.cols + j) one_ℚ k))
      ∙ units form.cols q q i)

  abbrev front : Table
  front = listed form.cols
      (λ j. on_parts (side_column file j) (negated (objective_column file j)) [])

  abbrev fixed : Table
  fixed = listed q (λ i. on_parts (zeros m) (unit q i) [])

  front-long : length front ≡ form.cols
  front-long =
      length-list_from 1 form.cols
      (λ j. on_parts (side_column file j) (negated (objective_column file j)) [])

  row_is : (k : ℕ) → 1 ≤ k → k ≤ given_equations form → row k ≡ row_of (front ++ fixed) k
  row_is k low high = by_place (cases_lt form.cols k)
    where
      by_place : (form.cols < k) ⊎ (k ≤ form.cols) → row k ≡ row_of (front ++ fixed) k
      by_place (inl over) =
          let i : ℕ = k - form.cols in
          let place : k ≡ form.cols + i = omega arith in
          let from_one : 1 ≤ i = omega arith in
          ap row place ∙ last_row i from_one
          ∙ sym (get_or-append_right front fixed form.cols (k - 1) [] front-long (omega arith)
          ∙ ap (λ j. slice_index_or fixed j [])
          (let same : k - 1 - form.cols ≡ i - 1 = omega arith in same)
          ∙ listed-place q (λ g. on_parts (zeros m) (unit q g) []) i [] from_one (omega arith))
      by_place (inr inside) =
          first_row k low inside
          ∙ sym (get_or_append_left front fixed [] (k - 1) (omega (arith, front-long))
          ∙ listed-place form.cols
          (λ j. on_parts (side_column file j) (negated (objective_column file j)) []) k [] low inside)

  -- the equations are those of the file
  equations_are : (v : List ℚ) → front ++ fixed ≡ (weight_system file v).equations
  equations_are v =
      let m_is : m ≡ side_total file = side_number value file form stands in
      let q_is : q ≡ file.objs = objective_number value file form stands in
      let none : [] ≡ zeros (weight_unknowns file.cone) =
      ap zeros (sym (no_unknowns file.cone direct)) in
      sym (append-nil (front ++ fixed))
      ∙ ap₂ (λ a b. a ++ b)
      (ap₂ (λ a b. a ++ b)
      (ap₂ (λ n z. listed n
      (λ j. on_parts (side_column file j) (negated (objective_column file j)) z))
      stands.cols none)
      (ap (λ n. listed q (λ i. on_parts (zeros n) (unit q i) [])) m_is
      ∙ ap₂ (λ n z. listed n (λ i. on_parts (zeros (side_total file)) (unit n i) z)) q_is none))
      (sym (no_members (side_total file) file.objs file.cone direct))

  -- the numbers of the columns in equation k
  pub given_row_is : (others : List (List (Spot F))) (v : List ℚ) (k : ℕ) →
      ((j : ℕ) → across value j others ≡ given_row value form j ++ negated (given_row value form j)) →
      1 ≤ k → k ≤ given_equations form →
      across value k (map (λ s. s.g) form.sides ++ others)
      ≡ row_of (weight_system file v).equations k
  given_row_is others v k numbers low high =
      map-append (λ spots. sum_at (entries value spots) k) (map (λ s. s.g) form.sides) others
      ∙ ap₂ (λ a b. a ++ b)
      (map-map (λ spots. sum_at (entries value spots) k) (λ s. s.g) form.sides) (numbers k)
      ∙ sym (append_assoc (side_row k) (given_row value form k) (negated (given_row value form k)))
      ∙ sym (append-nil ((side_row k ++ given_row value form k) ++ negated (given_row value form k)))
      ∙ row_is k low high ∙ ap (λ rows. row_of rows k) (equations_are v)

-- how many columns there are
pub given_long : {F : Type 0} (value : F → ℚ) (form : Data F) (others : List (List (Spot F))) →
    AreGiven value form others → length others ≡ length form.p + length form.p
given_long value form others h =
    let v : List ℚ = given_row value form 0 in
    let v_long : length v ≡ length form.p =
    length-list_from 1 (length form.p) (λ i. given_entry value form i 0) in
    sym (length-map others (λ spots. sum_at (entries value spots) 0)) ∙ ap length (h.numbers 0)
    ∙ omega (arith, length-append v (negated v), length-map v neg_ℚ, v_long)
