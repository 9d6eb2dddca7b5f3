-- A program in numbers.
use Rattle.std.proofs.Common.{◌≡◌, ℕ, List, length, map, take, drop, sym, ap, ◌∙◌, arith, ◌<◌, ◌≤◌, ◌+◌, ◌-◌, ◌*◌}
use Rattle.std.proofs.Math.Nat.{mul-le-mul_left}
use Rattle.std.proofs.lemmas.List.{length-map, length-take-le, length-drop}
use Rattle.exact_field.specs.Rational.{ℚ}
use Rattle.tableaux.specs.Table.{IsSystem, row_of, equation_count, unknown_count, right_column}
use Rattle.tableaux.proofs.Places.{length-list_from, list_from-place, listed-place}
use Rattle.lin_rows.specs.declared.system.System.{System as Program}
use Rattle.lin_rows.specs.System.{HasLengths, coefficients_of, system_of}

module _ {F : Type 0} (value : F → ℚ) (p : Program F) (h : HasLengths p) where
  abbrev rows_of : ℕ → List ℚ
  rows_of i = map value (coefficients_of p i)

  pub equation_count_is : equation_count (system_of value p) ≡ p.rows
  equation_count_is = length-list_from 1 p.rows rows_of

  pub unknown_count_is : unknown_count (system_of value p) ≡ p.cols
  unknown_count_is = length-map p.cost value ∙ h.cost

  pub right_column_is : right_column (system_of value p) ≡ p.cols + p.rows + 1
  right_column_is = omega (arith, equation_count_is, unknown_count_is)

  -- the end of row k, counted from 0, is inside
  pub row_inside : (k : ℕ) → k < p.rows → k * p.cols + p.cols ≤ length p.a
  row_inside k l = let next : k + 1 ≤ p.rows = omega arith in omega (arith, mul-le-mul_left p.cols next, h.coefficients)

  pub length-coefficients : (i : ℕ) → 1 ≤ i → i ≤ p.rows → length (coefficients_of p i) ≡ p.cols
  length-coefficients i l u =
      let k : ℕ = i - 1 in
      let start : ℕ = k * p.cols in
      let inside : start + p.cols ≤ length p.a = row_inside k (omega arith) in
      let same : start + p.cols - start ≡ p.cols = omega arith in
      ap (λ m. length (take m (drop start p.a))) same
      ∙ length-take-le p.cols (drop start p.a) (omega (arith, inside, length-drop start p.a))

  pub equation-row : (i : ℕ) → 1 ≤ i → i ≤ p.rows → row_of (system_of value p).equations i ≡ map value (coefficients_of p i)
  equation-row i l u = listed-place p.rows rows_of i _ l u

  pub system_ok : IsSystem (system_of value p)
  system_ok = record {
    wide = record {
      wide = λ i e l.
          let inside : i < p.rows = omega (arith, l, length-list_from 1 p.rows rows_of) in
          ap length (list_from-place 1 p.rows rows_of i e inside) ∙ length-map (coefficients_of p (1 + i)) value
          ∙ length-coefficients (1 + i) (omega arith) (omega arith) ∙ sym unknown_count_is;
    };
    right_each = length-map p.b value ∙ h.right ∙ sym equation_count_is;
  }
