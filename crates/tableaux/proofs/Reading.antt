-- What is read off a dictionary of a system at a full basis: each row of the table by the values at the basis, and each cost row by
-- multipliers of the equations.
use Rattle.std.proofs.Common.{◌≡◌, ◌≢◌, ℕ, zero, suc, List, [], ◌∷◌, length, map, refl, sym, ap, ap₂, ◌∙◌, subst, arith, ◌<◌, ◌≤◌, ◌+◌, ◌-◌, inl, inr, slice_index_or}
use Rattle.std.specs.Prelude.{◌==◌}
use Rattle.std.proofs.lemmas.Bool.{cases_lt}
use Rattle.exact_field.specs.Rational.{ℚ, zero_ℚ, one_ℚ, ◌+ℚ◌, ◌*ℚ◌, ◌<ℚ◌}
use Rattle.exact_field.specs.Vector.{entry, dot}
use Rattle.polyhedra.specs.Vectors.{plus, scaled, combination}
use Rattle.polyhedra.proofs.Laws.{add_zero, mul_assoc, mul_one, zero_lt_one}
use Rattle.polyhedra.proofs.Algebra.{zero_add, one_mul, mul_zero, zero_mul}
use Rattle.polyhedra.proofs.Order.{lt_irrefl}
use Rattle.polyhedra.proofs.Linear.{dot_comm, dot-plus_left, dot-scaled, length-scaled}
use Rattle.tableaux.specs.Table.{Table, System, IsSystem, row_of, at, column_of, listed, unit, table_of, equation_count, unknown_count, right_column}
use Rattle.tableaux.specs.Dictionary.{basic_column, IsChanged, IsFullDictionaryOf, value_of_column}
use Rattle.tableaux.proofs.Places.{length-list_from, list_from-place, listed-place, entry-scaled, entry-plus, slice-plus, same_or_other, if_true, if_false, delta, delta-same, delta-other}
use Rattle.tableaux.proofs.Matrix.{HasMatrix}
use Rattle.tableaux.proofs.Unique.{tester, testers, dot-unit, entry-combination, column-long}
use Rattle.tableaux.proofs.Definition.{matrix_form, unit_entry, delta_sym}
use Rattle.tableaux.proofs.Ties.{column_entry}
use Rattle.tableaux.proofs.Products.{dot_same, dot-values, unit-none, IsOnce}
use Rattle.tableaux.proofs.Back.{way_back}
use Rattle.tableaux.proofs.Entries.{sign_of, sign-squared, table-long, table-wide, equation-artificial}

slice-map : (f : ℕ → ℚ) → f 0 ≡ zero_ℚ → (basis : List ℕ) (k : ℕ) → slice_index_or (map f basis) k zero_ℚ ≡ f (slice_index_or basis k 0)
slice-map f e [] k = sym e
slice-map f e (c ∷ basis) zero = refl
slice-map f e (c ∷ basis) (suc k) = slice-map f e basis k

pub slice-past : (v : List ℚ) (k : ℕ) → length v ≤ k → slice_index_or v k zero_ℚ ≡ zero_ℚ
slice-past [] k h = refl
slice-past (x ∷ v) zero h = absurd (omega arith)
slice-past (x ∷ v) (suc k) h = slice-past v k (omega arith)

next : (k : ℕ) → 1 + k - 1 ≡ k
next k = omega arith

module _ (s : System) (ok : IsSystem s) (basis : List ℕ) (d : Table) (h : IsFullDictionaryOf s basis d) where
  abbrev n : ℕ
  n = unknown_count s

  abbrev m : ℕ
  m = equation_count s

  abbrev t : Table
  t = table_of s

  t_long : length t ≡ suc (suc m)
  t_long = table-long s ok

  d_long : length d ≡ suc (suc m)
  d_long = h.dictionary.dictionary.one_each ∙ t_long

  matrix : (x : Table) × HasMatrix (right_column s) t basis d x
  matrix = matrix_form (right_column s) t basis d (table-wide s ok) h.dictionary.dictionary

  -- no column stands twice
  pub once : IsOnce (suc (suc m)) basis
  once k l less high some same =
      let here : basic_column basis (1 + k) ≡ slice_index_or basis k 0 = ap (λ i. slice_index_or basis i 0) (next k) in
      let there : basic_column basis (1 + l) ≡ slice_index_or basis l 0 = ap (λ i. slice_index_or basis i 0) (next l) in
      let units = h.dictionary.dictionary.unit_columns in
      let one : at d (1 + k) (basic_column basis (1 + k)) ≡ delta (1 + k) (1 + k) =
      units (1 + k) (1 + k) (omega arith) (omega (arith, t_long)) (omega arith) (omega (arith, t_long)) (λ e. some (sym here ∙ e)) in
      let none : at d (1 + k) (basic_column basis (1 + l)) ≡ delta (1 + k) (1 + l) =
      units (1 + k) (1 + l) (omega arith) (omega (arith, t_long)) (omega arith) (omega (arith, t_long)) (λ e. some (same ∙ sym there ∙ e)) in
      let one_is_zero : one_ℚ ≡ zero_ℚ =
      sym (delta-same (1 + k) (1 + k) refl) ∙ sym one ∙ ap (at d (1 + k)) (here ∙ same ∙ sym there) ∙ none ∙ delta-other (1 + k) (1 + l) (λ e. omega (arith, e)) in
      lt_irrefl zero_ℚ (subst (λ (q : ℚ). zero_ℚ <ℚ q) one_is_zero zero_lt_one)

  -- ---- the testers
  tester_at : (i k : ℕ) → k < suc (suc m) → slice_index_or (column_of (testers 0 t basis) i) k zero_ℚ ≡ entry (tester 0 t basis (1 + k)) i
  tester_at i k l =
      column_entry (testers 0 t basis) i k (omega (arith, l, t_long, length-list_from 1 (length t) (tester 0 t basis)))
      ∙ ap (λ r. entry r i) (list_from-place 1 (length t) (tester 0 t basis) k [] (omega (arith, l, t_long)))

  -- at an equation: its column
  pub tester_low : (i k : ℕ) → 1 ≤ i → i ≤ suc (suc m) → k < m → slice_index_or (column_of (testers 0 t basis) i) k zero_ℚ ≡ at t i (basic_column basis (1 + k))
  tester_low i k i_low i_high l =
      let c : ℕ = basic_column basis (1 + k) in
      tester_at i k (omega arith)
      ∙ elim (same_or_other c 0) [
        | inl e ↦ absurd (h.full (1 + k) (omega arith) (omega arith) e.0)
        | inr o ↦ ap (λ x. entry x i) (if_false (c == 0) (unit (length t) (1 + k)) (column_of t c) o.1) ∙ column_entry t c (i - 1) (omega (arith, t_long))
      ]

  -- at a cost row: a unit vector
  pub tester_high : (i k : ℕ) → 1 ≤ i → i ≤ suc (suc m) → m ≤ k → k < suc (suc m) → slice_index_or (column_of (testers 0 t basis) i) k zero_ℚ ≡ delta (1 + k) i
  tester_high i k i_low i_high l high =
      let c : ℕ = basic_column basis (1 + k) in
      tester_at i k high
      ∙ elim (same_or_other c 0) [
        | inl e ↦ ap (λ x. entry x i) (if_true (c == 0) (unit (length t) (1 + k)) (column_of t c) e.1)
        | inr o ↦ absurd (o.0 (h.dictionary.columns.equations_only (1 + k) (omega arith)))
      ]
      ∙ unit_entry (length t) (1 + k) i i_low (omega (arith, i_high, t_long))

  pub column_at : (j k : ℕ) → k < suc (suc m) → slice_index_or (column_of d j) k zero_ℚ ≡ at d (1 + k) j
  column_at j k l = column_entry d j k (omega (arith, l, d_long)) ∙ ap (λ x. entry (slice_index_or d x []) j) (sym (next k))

  pub back : (i j : ℕ) → 1 ≤ i → i ≤ suc (suc m) → at t i j ≡ dot (column_of (testers 0 t basis) i) (column_of d j)
  back i j l u = way_back (right_column s) t basis d matrix.0 (table-wide s ok) matrix.1 i j l (omega (arith, u, t_long))

  -- ---- rows by the values at the basis
  module _ (i j : ℕ) (a g : List ℚ) (i_low : 1 ≤ i) (i_high : i ≤ suc (suc m))
      (front : (c : ℕ) → 1 ≤ c → c ≤ n → at t i c ≡ entry a c)
      (g_low : (k : ℕ) → k < m → slice_index_or g k zero_ℚ ≡ zero_ℚ)
      (g_high : (k : ℕ) → m ≤ k → k < suc (suc m) → slice_index_or g k zero_ℚ ≡ delta (1 + k) i)
      (artificial : (k : ℕ) → 1 ≤ k → k ≤ m → n < basic_column basis k → at d k j ≡ zero_ℚ) where
    abbrev v : List ℚ
    v = column_of d j

    abbrev u : List ℚ
    u = map (λ c. dot a (unit n c)) basis

    none_at_zero : dot a (unit n 0) ≡ zero_ℚ
    none_at_zero = unit-none n 0 a (λ l e. omega (arith, l))

    u_at : (k : ℕ) → slice_index_or u k zero_ℚ ≡ dot a (unit n (basic_column basis (1 + k)))
    u_at k = slice-map (λ c. dot a (unit n c)) none_at_zero basis k ∙ ap (λ x. dot a (unit n (slice_index_or basis x 0))) (sym (next k))

    right_side : (k : ℕ) → slice_index_or (plus u g) k zero_ℚ ≡ dot a (unit n (basic_column basis (1 + k))) +ℚ slice_index_or g k zero_ℚ
    right_side k = slice-plus u g k ∙ ap (λ x. x +ℚ slice_index_or g k zero_ℚ) (u_at k)

    at_basis : (k : ℕ) → k < m → basic_column basis (1 + k) ≤ n → slice_index_or (column_of (testers 0 t basis) i) k zero_ℚ ≡ slice_index_or (plus u g) k zero_ℚ
    at_basis k l low =
        let c : ℕ = basic_column basis (1 + k) in
        let some : c ≢ 0 = h.full (1 + k) (omega arith) (omega arith) in
        tester_low i k i_low i_high l ∙ front c (omega (arith, some)) low
        ∙ sym (dot_comm a (unit n c) ∙ dot-unit n c a (omega (arith, some)) low)
        ∙ sym (add_zero (dot a (unit n c))) ∙ ap (λ x. dot a (unit n c) +ℚ x) (sym (g_low k l)) ∙ sym (right_side k)

    at_cost : (k : ℕ) → m ≤ k → k < suc (suc m) → slice_index_or (column_of (testers 0 t basis) i) k zero_ℚ ≡ slice_index_or (plus u g) k zero_ℚ
    at_cost k l high =
        let none : basic_column basis (1 + k) ≡ 0 = h.dictionary.columns.equations_only (1 + k) (omega arith) in
        tester_high i k i_low i_high l high
        ∙ sym (g_high k l high) ∙ sym (zero_add (slice_index_or g k zero_ℚ))
        ∙ ap (λ x. x +ℚ slice_index_or g k zero_ℚ) (sym (ap (λ c. dot a (unit n c)) none ∙ none_at_zero))
        ∙ sym (right_side k)

    at_place : (k : ℕ) → k < suc (suc m) →
        slice_index_or (column_of (testers 0 t basis) i) k zero_ℚ *ℚ slice_index_or v k zero_ℚ ≡ slice_index_or (plus u g) k zero_ℚ *ℚ slice_index_or v k zero_ℚ
    at_place k l =
        elim (cases_lt k m) [
          | inl low ↦ elim (cases_lt n (basic_column basis (1 + k))) [
            | inl over ↦
                let gone : slice_index_or v k zero_ℚ ≡ zero_ℚ = column_at j k l ∙ artificial (1 + k) (omega arith) (omega arith) over in
                ap (λ x. slice_index_or (column_of (testers 0 t basis) i) k zero_ℚ *ℚ x) gone ∙ mul_zero (slice_index_or (column_of (testers 0 t basis) i) k zero_ℚ)
                ∙ sym (ap (λ x. slice_index_or (plus u g) k zero_ℚ *ℚ x) gone ∙ mul_zero (slice_index_or (plus u g) k zero_ℚ))
            | inr inside ↦ ap (λ x. x *ℚ slice_index_or v k zero_ℚ) (at_basis k low inside)
          ]
          | inr high ↦ ap (λ x. x *ℚ slice_index_or v k zero_ℚ) (at_cost k high l)
        ]

    pub reads : at t i j ≡ dot a (listed n (value_of_column basis v)) +ℚ dot g v
    reads =
        let v_long : length v ≡ suc (suc m) = column-long d j ∙ d_long in
        back i j i_low i_high
        ∙ dot_same (suc (suc m)) (column_of (testers 0 t basis) i) v (plus u g) v (omega (arith, v_long)) (omega (arith, v_long)) at_place
        ∙ dot-plus_left u g v
        ∙ ap (λ x. x +ℚ dot g v) (sym (dot-values n a basis v (subst (λ (l : ℕ). IsOnce l basis) (sym v_long) once)))

  -- ---- cost rows by multipliers
  module _ (i : ℕ) (i_low : m < i) (i_high : i ≤ suc (suc m)) where
    pub changed : IsChanged (right_column s) t basis (row_of t i) (row_of d i)
    changed = h.dictionary.dictionary.other_rows i (omega arith) (omega (arith, i_high, t_long)) (h.dictionary.columns.equations_only i i_low)

    abbrev pub shares : List ℚ
    shares = changed.multipliers

    share_none : (k : ℕ) → m ≤ k → k < suc (suc m) → slice_index_or shares k zero_ℚ ≡ zero_ℚ
    share_none k l u =
        ap (λ x. slice_index_or shares x zero_ℚ) (sym (next k))
        ∙ changed.basic.basic (1 + k) (omega arith) (omega (arith, u, t_long)) (h.dictionary.columns.equations_only (1 + k) (omega arith))

    -- an entry of the cost row, where q is the column of the equations
    pub cost_reads : (f : ℕ → ℚ) → ((k : ℕ) → 1 ≤ k → k ≤ m → f k ≡ entry shares k) →
        (j : ℕ) (q : List ℚ) → length q ≡ m → ((k : ℕ) → 1 ≤ k → k ≤ m → entry q k ≡ at t k j) → at d i j ≡ at t i j +ℚ dot (listed m f) q
    cost_reads f same j q q_long q_at =
        ap (λ r. entry r j) changed.changed ∙ entry-plus (row_of t i) (combination (right_column s) shares t) j
        ∙ ap (λ x. at t i j +ℚ x) (entry-combination (right_column s) shares t j
        ∙ dot_same (suc (suc m)) shares (column_of t j) (listed m f) q (omega (arith, column-long t j, t_long)) (omega (arith, q_long)) here)
      where
        here : (k : ℕ) → k < suc (suc m) → slice_index_or shares k zero_ℚ *ℚ slice_index_or (column_of t j) k zero_ℚ ≡ slice_index_or (listed m f) k zero_ℚ *ℚ slice_index_or q k zero_ℚ
        here k l =
            elim (cases_lt k m) [
              | inl low ↦ ap₂ (λ x y. x *ℚ y)
                  (ap (λ x. slice_index_or shares x zero_ℚ) (sym (next k)) ∙ sym (same (1 + k) (omega arith) (omega arith))
                  ∙ sym (listed-place m f (1 + k) zero_ℚ (omega arith) (omega arith)) ∙ ap (λ x. slice_index_or (listed m f) x zero_ℚ) (next k))
                  (column_entry t j k (omega (arith, l, t_long)) ∙ ap (λ x. entry (slice_index_or t x []) j) (sym (next k))
                  ∙ sym (q_at (1 + k) (omega arith) (omega arith)) ∙ ap (λ x. slice_index_or q x zero_ℚ) (next k))
              | inr high ↦ ap (λ x. x *ℚ slice_index_or (column_of t j) k zero_ℚ) (share_none k high l) ∙ zero_mul (slice_index_or (column_of t j) k zero_ℚ)
                  ∙ sym (ap (λ x. slice_index_or (listed m f) k zero_ℚ *ℚ x) (slice-past q k (omega arith)) ∙ mul_zero (slice_index_or (listed m f) k zero_ℚ))
            ]

    -- its entry in an artificial column
    pub artificial_reads : (k : ℕ) → 1 ≤ k → k ≤ m → at d i (n + k) ≡ at t i (n + k) +ℚ sign_of s ok k *ℚ entry shares k
    artificial_reads k l u =
        let σ : ℚ = sign_of s ok k in
        cost_reads (entry shares) (λ x a b. refl) (n + k) (scaled σ (unit m k)) (length-scaled σ (unit m k) ∙ length-list_from 1 m (λ x. delta x k))
        (λ x a b. entry-scaled σ (unit m k) x ∙ ap (λ y. σ *ℚ y) (unit_entry m k x a b) ∙ signs x ∙ sym (equation-artificial s ok x k a b l u))
        ∙ ap (λ x. at t i (n + k) +ℚ x) (dot-scaled (listed m (entry shares)) σ (unit m k)
        ∙ ap (λ x. σ *ℚ x) (dot_comm (listed m (entry shares)) (unit m k) ∙ dot-unit m k (listed m (entry shares)) l u ∙ listed-place m (entry shares) k zero_ℚ l u))
      where
        signs : (x : ℕ) → sign_of s ok k *ℚ delta k x ≡ sign_of s ok x *ℚ delta x k
        signs x =
            elim (same_or_other k x) [
              | inl e ↦ ap₂ (λ a b. sign_of s ok a *ℚ b) e.0 (delta_sym k x)
              | inr o ↦ ap (λ b. sign_of s ok k *ℚ b) (delta-other k x o.0) ∙ mul_zero (sign_of s ok k)
                  ∙ sym (ap (λ b. sign_of s ok x *ℚ b) (delta-other x k (λ e. o.0 (sym e))) ∙ mul_zero (sign_of s ok x))
            ]

  -- the sign of an equation, times that sign and a number
  pub sign_twice : (k : ℕ) (x : ℚ) → 1 ≤ k → k ≤ m → at t k (n + k) *ℚ (sign_of s ok k *ℚ x) ≡ x
  sign_twice k x l u =
      let σ : ℚ = sign_of s ok k in
      ap (λ y. y *ℚ (σ *ℚ x)) (equation-artificial s ok k k l u l u ∙ ap (λ y. σ *ℚ y) (delta-same k k refl) ∙ mul_one σ)
      ∙ sym (mul_assoc σ σ x) ∙ ap (λ y. y *ℚ x) (sign-squared s ok k) ∙ one_mul x
