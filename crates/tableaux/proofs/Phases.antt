-- The laws of the two phases.
use Rattle.std.proofs.Common.{◌≡◌, ◌≢◌, ℕ, zero, suc, List, length, sym, ap, ap₂, ◌∙◌, subst, arith, ◌<◌, ◌≤◌, ◌+◌, ◌-◌, inl, inr, slice_index_or}
use Rattle.std.specs.Prelude.{◌==◌}
use Rattle.std.proofs.lemmas.Bool.{cases_lt}
use Rattle.exact_field.specs.Rational.{ℚ, zero_ℚ, one_ℚ, ◌+ℚ◌, ◌*ℚ◌, neg_ℚ, inverse_ℚ, ◌≤ℚ◌, ◌<ℚ◌}
use Rattle.exact_field.specs.Vector.{entry}
use Rattle.exact_field.proofs.Inequalities.{mul-nonpositive, neg-nonpositive}
use Rattle.polyhedra.specs.Vectors.{plus, scaled}
use Rattle.polyhedra.proofs.Laws.{add_comm, add_zero, le_refl, le_antisymm, le_of_lt, add_neg, mul_comm, zero_lt_one, mul_nonneg}
use Rattle.polyhedra.proofs.Algebra.{zero_add, mul_zero, one_mul, neg_neg, add_cancel}
use Rattle.polyhedra.proofs.Order.{add_nonneg, add_le_both, add_zero_left, add_zero_right, not_lt_of_le, neg_nonneg}
use Rattle.polyhedra.proofs.Linear.{dot_comm, dot-plus_left, length-scaled}
use Rattle.tableaux.specs.Table.{Table, System, IsSystem, row_of, at, column_of, listed, unit, table_of, pivoted, equation_count, unknown_count, right_column, first_cost}
use Rattle.tableaux.specs.Dictionary.{basic_column, IsDictionaryOf, IsFullDictionaryOf, IsExchanged}
use Rattle.tableaux.specs.Simplex.{IsFeasibleAt}
use Rattle.tableaux.specs.Phases.{AreIdle, PhaseLaws}
use Rattle.tableaux.proofs.Places.{length-list_from, list_from-place, slice-plus, delta, delta-other, row-wide, same_or_other, if_true, if_false}
use Rattle.tableaux.proofs.Matrix.{cleared, pivoted-row, entry-cleared}
use Rattle.tableaux.proofs.Lexicographic.{nothing_added}
use Rattle.tableaux.proofs.Entries.{table-long, first-unknown, first-artificial, first-right}
use Rattle.tableaux.proofs.Products.{total, total-same, dot-total, dot_same}
use Rattle.tableaux.proofs.Unique.{testers, dot-unit, column-long}
use Rattle.tableaux.proofs.Ties.{column_entry}
use Rattle.tableaux.proofs.Reading.{slice-past, back, tester_low, tester_high, column_at}

-- ---- sums of one sign
total-nonneg : (n : ℕ) (f : ℕ → ℚ) → ((k : ℕ) → k < n → zero_ℚ ≤ℚ f k) → zero_ℚ ≤ℚ total n f
total-nonneg zero f h = le_refl zero_ℚ
total-nonneg (suc n) f h = add_nonneg (f 0) (total n (λ k. f (suc k))) (h 0 (omega arith)) (total-nonneg n (λ k. f (suc k)) (λ k l. h (suc k) (omega arith)))

total-nonpos : (n : ℕ) (f : ℕ → ℚ) → ((k : ℕ) → k < n → f k ≤ℚ zero_ℚ) → total n f ≤ℚ zero_ℚ
total-nonpos zero f h = le_refl zero_ℚ
total-nonpos (suc n) f h =
    subst (λ (q : ℚ). f 0 +ℚ total n (λ k. f (suc k)) ≤ℚ q) (add_zero zero_ℚ)
    (add_le_both (f 0) zero_ℚ (total n (λ k. f (suc k))) zero_ℚ (h 0 (omega arith)) (total-nonpos n (λ k. f (suc k)) (λ k l. h (suc k) (omega arith))))

total-parts : (n : ℕ) (f : ℕ → ℚ) → ((k : ℕ) → k < n → zero_ℚ ≤ℚ f k) → total n f ≡ zero_ℚ → (k : ℕ) → k < n → f k ≡ zero_ℚ
total-parts zero f h e k l = absurd (omega arith)
total-parts (suc n) f h e zero l = add_zero_left (f 0) (total n (λ k. f (suc k))) (h 0 (omega arith)) (total-nonneg n (λ k. f (suc k)) (λ k l. h (suc k) (omega arith))) e
total-parts (suc n) f h e (suc k) l =
    total-parts n (λ k. f (suc k)) (λ k l. h (suc k) (omega arith))
    (add_zero_right (f 0) (total n (λ k. f (suc k))) (h 0 (omega arith)) (total-nonneg n (λ k. f (suc k)) (λ k l. h (suc k) (omega arith))) e) k (omega arith)

-- ---- the first cost row is its original less the rows with an artificial column
module _ (s : System) (ok : IsSystem s) (basis : List ℕ) (d : Table) (h : IsFullDictionaryOf s basis d) where
  abbrev n : ℕ
  n = unknown_count s

  abbrev m : ℕ
  m = equation_count s

  -- what an equation brings to the first cost
  abbrev brought : ℕ → ℕ → ℚ
  brought j k = at (table_of s) (first_cost s) (basic_column basis (1 + k)) *ℚ at d (1 + k) j

  weight-one : (c : ℕ) → n < c → c < right_column s → at (table_of s) (first_cost s) c ≡ one_ℚ
  weight-one c l u = ap (at (table_of s) (first_cost s)) (omega arith) ∙ first-artificial s ok (c - n) (omega arith) (omega arith)

  weight-nonneg : (k : ℕ) → k < m → zero_ℚ ≤ℚ at (table_of s) (first_cost s) (basic_column basis (1 + k))
  weight-nonneg k l =
      let c : ℕ = basic_column basis (1 + k) in
      let some : c ≢ 0 = h.full (1 + k) (omega arith) (omega arith) in
      let within : c < right_column s = h.dictionary.columns.within (1 + k) (omega arith) in
      elim (cases_lt n c) [
        | inl over ↦ subst (λ (q : ℚ). zero_ℚ ≤ℚ q) (sym (weight-one c over within)) (le_of_lt zero_ℚ one_ℚ zero_lt_one)
        | inr inside ↦ subst (λ (q : ℚ). zero_ℚ ≤ℚ q) (sym (first-unknown s ok c (omega (arith, some)) inside)) (le_refl zero_ℚ)
      ]

  pub balance : (j : ℕ) → at (table_of s) (first_cost s) j ≡ total m (brought j) +ℚ at d (first_cost s) j
  balance j =
      let i : ℕ = suc m in
      let size : ℕ = suc (suc m) in
      let v : List ℚ = column_of d j in
      let d_long : length d ≡ size = h.dictionary.dictionary.one_each ∙ table-long s ok in
      let v_long : length v ≡ size = column-long d j ∙ d_long in
      let f : ℕ → ℚ = λ (k : ℕ). at (table_of s) i (basic_column basis k) in
      let p : List ℚ = listed m f in
      let p_long : length p ≡ m = length-list_from 1 m f in
      let own : List ℚ = unit size i in
      let p_at : (k : ℕ) → k < m → slice_index_or p k zero_ℚ ≡ f (1 + k) = λ k l. list_from-place 1 m f k zero_ℚ l in
      let own_at : (k : ℕ) → k < size → slice_index_or own k zero_ℚ ≡ delta (1 + k) i = λ k l. list_from-place 1 size (λ x. delta x i) k zero_ℚ l in
      back s ok basis d h i j (omega arith) (omega arith)
      ∙ dot_same size (column_of (testers 0 (table_of s) basis) i) v (plus p own) v (omega (arith, v_long)) (omega (arith, v_long))
      (λ k l. ap (λ x. x *ℚ slice_index_or v k zero_ℚ)
      (elim (cases_lt k m) [
        | inl low ↦ tester_low s ok basis d h i k (omega arith) (omega arith) low ∙ sym (add_zero (f (1 + k)))
            ∙ ap₂ (λ x y. x +ℚ y) (sym (p_at k low)) (sym (own_at k l ∙ delta-other (1 + k) i (λ e. omega (arith, e, low))))
        | inr high ↦ tester_high s ok basis d h i k (omega arith) (omega arith) high l ∙ sym (zero_add (delta (1 + k) i))
            ∙ ap₂ (λ x y. x +ℚ y) (sym (slice-past p k (omega (arith, high, p_long)))) (sym (own_at k l))
      ]
      ∙ sym (slice-plus p own k)))
      ∙ dot-plus_left p own v
      ∙ ap₂ (λ x y. x +ℚ y)
      (dot_comm p v ∙ dot-total m v p (omega (arith, p_long))
      ∙ total-same m (λ k. slice_index_or v k zero_ℚ *ℚ slice_index_or p k zero_ℚ) (brought j)
      (λ k l. ap₂ (λ x y. x *ℚ y) (column_at s ok basis d h j k (omega arith)) (p_at k l) ∙ mul_comm (at d (1 + k) j) (f (1 + k))))
      (dot-unit size i v (omega arith) (omega arith) ∙ column_entry d j (i - 1) (omega (arith, d_long)))

  -- where the original is 0, the first cost is minus the sum
  opposite : (j : ℕ) → at (table_of s) (first_cost s) j ≡ zero_ℚ → at d (first_cost s) j ≡ neg_ℚ (total m (brought j))
  opposite j e =
      let x : ℚ = total m (brought j) in
      let y : ℚ = at d (first_cost s) j in
      add_cancel y (neg_ℚ x) x (add_comm y x ∙ sym (balance j) ∙ e ∙ sym (add_neg x) ∙ add_comm x (neg_ℚ x))

  pub phase_limited : (col : ℕ) → 1 ≤ col → col ≤ n → at d (first_cost s) col <ℚ zero_ℚ → ((i : ℕ) → 1 ≤ i → i ≤ m → at d i col ≤ℚ zero_ℚ) → ⊥
  phase_limited col l u below none =
      let sum : total m (brought col) ≤ℚ zero_ℚ = total-nonpos m (brought col) (λ k a.
      let w : ℚ = at (table_of s) (first_cost s) (basic_column basis (1 + k)) in
      subst (λ (q : ℚ). q ≤ℚ zero_ℚ) (mul_comm (at d (1 + k) col) w) (mul-nonpositive (at d (1 + k) col) w (none (1 + k) (omega arith) (omega arith)) (weight-nonneg k a))) in
      not_lt_of_le zero_ℚ (at d (first_cost s) col)
      (subst (λ (q : ℚ). zero_ℚ ≤ℚ q) (sym (opposite col (first-unknown s ok col l u))) (neg_nonneg (total m (brought col)) sum)) below

  pub phase_feasible : ((i : ℕ) → 1 ≤ i → i ≤ m → zero_ℚ ≤ℚ at d i (right_column s)) → zero_ℚ ≤ℚ at d (first_cost s) (right_column s) → IsFeasibleAt s basis d
  phase_feasible right not_below =
      let j : ℕ = right_column s in
      let each : (k : ℕ) → k < m → zero_ℚ ≤ℚ brought j k = λ k a.
      mul_nonneg (at (table_of s) (first_cost s) (basic_column basis (1 + k))) (at d (1 + k) j) (weight-nonneg k a) (right (1 + k) (omega arith) (omega arith)) in
      let sum : total m (brought j) ≡ zero_ℚ =
      le_antisymm (total m (brought j)) zero_ℚ
      (subst (λ (q : ℚ). q ≤ℚ zero_ℚ) (neg_neg (total m (brought j)))
      (neg-nonpositive (neg_ℚ (total m (brought j))) (subst (λ (q : ℚ). zero_ℚ ≤ℚ q) (opposite j (first-right s ok)) not_below)))
      (total-nonneg m (brought j) each) in
      record {
        full = h;
        right = right;
        artificial = λ i l u over.
            let back_at : 1 + (i - 1) ≡ i = omega arith in
            let c : ℕ = basic_column basis i in
            let one : at (table_of s) (first_cost s) c ≡ one_ℚ = weight-one c over (h.dictionary.columns.within i l) in
            sym (one_mul (at d i j)) ∙ ap (λ q. q *ℚ at d i j) (sym one)
            ∙ ap (λ k. at (table_of s) (first_cost s) (basic_column basis k) *ℚ at d k j) (sym back_at)
            ∙ total-parts m (brought j) each sum (i - 1) (omega arith);
      }

-- ---- idle rows
module _ (s : System) (ok : IsSystem s) (basis : List ℕ) (d : Table) (h : IsDictionaryOf s basis d) (row col : ℕ) (row_low : 1 ≤ row) (row_high : row ≤ equation_count s) where
  d_many : length d ≡ suc (suc (equation_count s))
  d_many = h.dictionary.one_each ∙ table-long s ok

  abbrev p : ℚ
  p = at d row col

  row_after : (i : ℕ) → 1 ≤ i → i ≤ equation_count s → row_of (pivoted d row col) i ≡ cleared p (at d i col) d row i
  row_after i l u = pivoted-row (right_column s) d row col i h.dictionary.wide row_low (omega (arith, row_high, d_many)) l (omega (arith, u, d_many))

  pub stays_at : (i j : ℕ) → 1 ≤ i → i ≤ equation_count s → at d row j ≡ zero_ℚ → at (pivoted d row col) i j ≡ at d i j
  stays_at i j l u none =
      let f : ℚ = at d i col in
      let gone : inverse_ℚ p *ℚ at d row j ≡ zero_ℚ = ap (λ q. inverse_ℚ p *ℚ q) none ∙ mul_zero (inverse_ℚ p) in
      ap (λ r. entry r j) (row_after i l u) ∙ entry-cleared p f d row i j
      ∙ elim (same_or_other i row) [
        | inl e ↦ if_true (i == row) (inverse_ℚ p *ℚ at d row j) (at d i j +ℚ neg_ℚ f *ℚ (inverse_ℚ p *ℚ at d row j)) e.1
            ∙ gone ∙ sym none ∙ ap (λ x. at d x j) (sym e.0)
        | inr o ↦ if_false (i == row) (inverse_ℚ p *ℚ at d row j) (at d i j +ℚ neg_ℚ f *ℚ (inverse_ℚ p *ℚ at d row j)) o.1
            ∙ ap (λ q. at d i j +ℚ neg_ℚ f *ℚ q) gone ∙ ap (λ q. at d i j +ℚ q) (mul_zero (neg_ℚ f)) ∙ add_zero (at d i j)
      ]

  module _ (idle : AreIdle s basis d) (col_low : 1 ≤ col) (col_high : col ≤ unknown_count s) (after : List ℕ) (moved : IsExchanged basis row col after) where
    other_row : (i : ℕ) → unknown_count s < basic_column after i → i ≢ row
    other_row i over e = omega (arith, over, ap (basic_column after) e ∙ moved.here, col_high)

    before : (i : ℕ) → 1 ≤ i → unknown_count s < basic_column after i → unknown_count s < basic_column basis i
    before i l over = subst (λ (c : ℕ). unknown_count s < c) (moved.elsewhere i l (other_row i over)) over

    pub row_stays : (i : ℕ) → 1 ≤ i → i ≤ equation_count s → unknown_count s < basic_column after i → row_of (pivoted d row col) i ≡ row_of d i
    row_stays i l u over =
        let f : ℚ = at d i col in
        let w : List ℚ = scaled (inverse_ℚ p) (row_of d row) in
        let i_long = row-wide (right_column s) d i h.dictionary.wide l (omega (arith, u, d_many)) in
        let r_long = row-wide (right_column s) d row h.dictionary.wide row_low (omega (arith, row_high, d_many)) in
        row_after i l u
        ∙ elim (same_or_other i row) [
          | inl e ↦ absurd (other_row i over e.0)
          | inr o ↦ if_false (i == row) w (plus (row_of d i) (scaled (neg_ℚ f) w)) o.1
              ∙ nothing_added f (row_of d i) w (i_long ∙ sym (length-scaled (inverse_ℚ p) (row_of d row) ∙ r_long)) (idle.unknown i col l u (before i l over) col_low col_high)
        ]

    pub stay_idle : AreIdle s after (pivoted d row col)
    stay_idle =
        record {
          unknown = λ i j l u over a b. ap (λ r. entry r j) (row_stays i l u over) ∙ idle.unknown i j l u (before i l over) a b;
          right = λ i l u over. ap (λ r. entry r (right_column s)) (row_stays i l u over) ∙ idle.right i l u (before i l over);
        }

pub phase_laws : PhaseLaws
phase_laws =
    record {
      limited = λ s basis d col ok h. phase_limited s ok basis d h col;
      feasible = λ s basis d ok h. phase_feasible s ok basis d h;
      right_stays = λ s basis d row col i ok h a b e l u. stays_at s ok basis d h row col a b i (right_column s) l u e;
      idle_stays = λ s basis d row col i after ok h idle a b l u moved. row_stays s ok basis d h row col a b idle l u after moved i;
      idle_kept = λ s basis d row col after ok h idle a b l u moved. stay_idle s ok basis d h row col a b idle l u after moved;
    }
