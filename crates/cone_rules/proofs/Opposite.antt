-- Opposite columns stay opposite in the rows of a dictionary that have a column, so that not both
-- have a row.
use Rattle.std.proofs.Common.{◌≡◌, ◌≢◌, ℕ, suc, List, [], length, refl, sym, ap, ap₂, ◌∙◌, subst, arith, ◌<◌, ◌≤◌, ◌+◌, ◌-◌, ◌⊎◌, inl, inr, slice_index_or}
use Rattle.std.proofs.lemmas.Bool.{cases_lt}
use Rattle.exact_field.specs.Rational.{ℚ, zero_ℚ, one_ℚ, ◌+ℚ◌, ◌*ℚ◌, neg_ℚ, ◌<ℚ◌}
use Rattle.exact_field.specs.Vector.{entry, dot}
use Rattle.polyhedra.specs.Negatives.{negated}
use Rattle.polyhedra.specs.Vectors.{plus}
use Rattle.polyhedra.proofs.Algebra.{mul_zero, zero_mul}
use Rattle.polyhedra.proofs.Laws.{add_comm, add_neg, add_zero, zero_lt_one}
use Rattle.polyhedra.proofs.Linear.{dot-plus}
use Rattle.polyhedra.proofs.Order.{lt_irrefl}
use Rattle.polyhedra.proofs.Entries.{slice-negated}
use Rattle.tableaux.specs.Table.{Table, System, IsSystem, row_of, at, column_of, table_of, equation_count, unknown_count, right_column}
use Rattle.tableaux.specs.Dictionary.{basic_column, IsFullDictionaryOf, IsBasicCombination, value_of_column, solution}
use Rattle.tableaux.proofs.Eliminated.{dot_none}
use Rattle.tableaux.proofs.Entries.{table-long, equation-unknown}
use Rattle.tableaux.proofs.Places.{listed-place, slice-plus, delta-same, delta-other}
use Rattle.tableaux.proofs.Products.{value-is}
use Rattle.tableaux.proofs.Ties.{column_entry}
use Rattle.tableaux.proofs.Unique.{entry-combination, column-long}
use Rattle.cone_rules.specs.Laws.{OppositeColumns}

-- the value at a column is 0, or some row has the column
value_or_row : (basis : List ℕ) (vs : List ℚ) (j : ℕ) →
    (value_of_column basis vs j ≡ zero_ℚ) ⊎ ((r : ℕ) × (r < length vs) × (slice_index_or basis r 0 ≡ j))
value_or_row basis vs j =
    value-is (λ x. (x ≡ zero_ℚ) ⊎ ((r : ℕ) × (r < length vs) × (slice_index_or basis r 0 ≡ j))) basis vs j (inl refl) (λ r l e. inr (r, l, e))

next : (k : ℕ) → 1 + k - 1 ≡ k
next k = omega arith

module _ (s : System) (basis : List ℕ) (d : Table) (j k : ℕ) (ok : IsSystem s) (h : IsFullDictionaryOf s basis d) (j_low : 1 ≤ j) (j_high : j ≤ unknown_count s)
    (k_low : 1 ≤ k) (k_high : k ≤ unknown_count s) (other : j ≢ k) (opposite : column_of s.equations j ≡ negated (column_of s.equations k)) where
  abbrev t : Table
  t = table_of s

  t_long : length t ≡ suc (suc (equation_count s))
  t_long = table-long s ok

  equation_column : (i c : ℕ) → 1 ≤ i → i ≤ equation_count s → 1 ≤ c → c ≤ unknown_count s → at t i c ≡ slice_index_or (column_of s.equations c) (i - 1) zero_ℚ
  equation_column i c l u a b = equation-unknown s ok i c l u a b ∙ sym (column_entry s.equations c (i - 1) (omega (arith, l, u)))

  opposite_at : (i : ℕ) → 1 ≤ i → i ≤ equation_count s → at t i j +ℚ at t i k ≡ zero_ℚ
  opposite_at i l u =
      ap (λ x. x +ℚ at t i k)
      (equation_column i j l u j_low j_high ∙ ap (λ v. slice_index_or v (i - 1) zero_ℚ) opposite ∙ slice-negated (column_of s.equations k) (i - 1)
      ∙ ap neg_ℚ (sym (equation_column i k l u k_low k_high)))
      ∙ add_comm (neg_ℚ (at t i k)) (at t i k) ∙ add_neg (at t i k)

  -- so they are opposite in each row that has a column
  row_opposite : (i : ℕ) → 1 ≤ i → i ≤ length t → basic_column basis i ≢ 0 → at d i j +ℚ at d i k ≡ zero_ℚ
  row_opposite i l u some =
      ap₂ (λ a b. a +ℚ b) (reads j) (reads k) ∙ sym (dot-plus row.multipliers (column_of t j) (column_of t k))
      ∙ dot_none row.multipliers (plus (column_of t j) (column_of t k)) each
    where
      row : IsBasicCombination (right_column s) t basis (row_of d i)
      row = h.dictionary.dictionary.basic_rows i l u some

      reads : (c : ℕ) → at d i c ≡ dot row.multipliers (column_of t c)
      reads c = ap (λ v. entry v c) row.combined ∙ entry-combination (right_column s) row.multipliers t c

      sum_at : (r : ℕ) → r < length t → slice_index_or (plus (column_of t j) (column_of t k)) r zero_ℚ ≡ at t (1 + r) j +ℚ at t (1 + r) k
      sum_at r low =
          slice-plus (column_of t j) (column_of t k) r
          ∙ ap₂ (λ a b. a +ℚ b) (column_entry t j r low ∙ ap (λ x. entry (slice_index_or t x []) j) (sym (next r)))
          (column_entry t k r low ∙ ap (λ x. entry (slice_index_or t x []) k) (sym (next r)))

      long : length (plus (column_of t j) (column_of t k)) ≡ length t
      long = Rattle.polyhedra.proofs.Linear.length-plus (length t) (column_of t j) (column_of t k) (column-long t j) (column-long t k)

      each : (r : ℕ) → r < length (plus (column_of t j) (column_of t k)) →
          slice_index_or row.multipliers r zero_ℚ *ℚ slice_index_or (plus (column_of t j) (column_of t k)) r zero_ℚ ≡ zero_ℚ
      each r low = elim (cases_lt r (equation_count s)) [
        | inl equation ↦
            ap (λ x. slice_index_or row.multipliers r zero_ℚ *ℚ x) (sum_at r (omega (arith, low, long)) ∙ opposite_at (1 + r) (omega arith) (omega (arith, equation)))
            ∙ mul_zero (slice_index_or row.multipliers r zero_ℚ)
        | inr cost ↦
            ap (λ x. x *ℚ slice_index_or (plus (column_of t j) (column_of t k)) r zero_ℚ)
            (ap (λ x. slice_index_or row.multipliers x zero_ℚ) (sym (next r))
            ∙ row.basic.basic (1 + r) (omega arith) (omega (arith, low, long)) (h.dictionary.columns.equations_only (1 + r) (omega (arith, cost))))
            ∙ zero_mul (slice_index_or (plus (column_of t j) (column_of t k)) r zero_ℚ)
      ]

  not_both : (a b : ℕ) → a < length t → b < length t → slice_index_or basis a 0 ≡ j → slice_index_or basis b 0 ≡ k → ⊥
  not_both a b a_low b_low a_has b_has =
      let column_a : basic_column basis (1 + a) ≡ j = ap (λ i. slice_index_or basis i 0) (next a) ∙ a_has in
      let column_b : basic_column basis (1 + b) ≡ k = ap (λ i. slice_index_or basis i 0) (next b) ∙ b_has in
      let some_a : basic_column basis (1 + a) ≢ 0 = λ z. omega (arith, z, column_a, j_low) in
      let some_b : basic_column basis (1 + b) ≢ 0 = λ z. omega (arith, z, column_b, k_low) in
      let apart : 1 + a ≢ 1 + b = λ e. other (sym column_a ∙ ap (λ i. basic_column basis i) e ∙ column_b) in
      let units = h.dictionary.dictionary.unit_columns in
      let one : at d (1 + a) j ≡ one_ℚ =
      ap (at d (1 + a)) (sym column_a) ∙ units (1 + a) (1 + a) (omega arith) (omega (arith, a_low)) (omega arith) (omega (arith, a_low)) some_a
      ∙ delta-same (1 + a) (1 + a) refl in
      let none : at d (1 + a) k ≡ zero_ℚ =
      ap (at d (1 + a)) (sym column_b) ∙ units (1 + a) (1 + b) (omega arith) (omega (arith, a_low)) (omega arith) (omega (arith, b_low)) some_b
      ∙ delta-other (1 + a) (1 + b) apart in
      let one_is_zero : one_ℚ ≡ zero_ℚ =
      sym (add_zero one_ℚ) ∙ ap₂ (λ x y. x +ℚ y) (sym one) (sym none) ∙ row_opposite (1 + a) (omega arith) (omega (arith, a_low)) some_a in
      lt_irrefl zero_ℚ (subst (λ (x : ℚ). zero_ℚ <ℚ x) one_is_zero zero_lt_one)

  one_is_zero : (entry (solution s basis d) j ≡ zero_ℚ) ⊎ (entry (solution s basis d) k ≡ zero_ℚ)
  one_is_zero = go (value_or_row basis vs j) (value_or_row basis vs k)
    where
      vs : List ℚ
      vs = column_of d (right_column s)

      vs_long : length vs ≡ length t
      vs_long = column-long d (right_column s) ∙ h.dictionary.dictionary.one_each

      reads : (c : ℕ) → 1 ≤ c → c ≤ unknown_count s → entry (solution s basis d) c ≡ value_of_column basis vs c
      reads c l u = listed-place (unknown_count s) (value_of_column basis vs) c zero_ℚ l u

      go : (value_of_column basis vs j ≡ zero_ℚ) ⊎ ((r : ℕ) × (r < length vs) × (slice_index_or basis r 0 ≡ j)) →
          (value_of_column basis vs k ≡ zero_ℚ) ⊎ ((r : ℕ) × (r < length vs) × (slice_index_or basis r 0 ≡ k)) →
          (entry (solution s basis d) j ≡ zero_ℚ) ⊎ (entry (solution s basis d) k ≡ zero_ℚ)
      go (inl z) x = inl (reads j j_low j_high ∙ z)
      go (inr a) (inl z) = inr (reads k k_low k_high ∙ z)
      go (inr a) (inr b) = absurd (not_both a.0 b.0 (omega (arith, a.1, vs_long)) (omega (arith, b.1, vs_long)) a.2 b.2)

pub opposite_columns : OppositeColumns
opposite_columns s basis d j k ok h a b e f other opposite = one_is_zero s basis d j k ok h a b e f other opposite
