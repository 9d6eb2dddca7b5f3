-- The ends that are read off a dictionary meet the equations and signs.
use Rattle.std.proofs.Common.{◌≡◌, ℕ, zero, suc, List, [], ◌∷◌, length, map, All, refl, sym, ap, ap₂, ◌∙◌, subst, arith, ◌<◌, ◌≤◌, ◌+◌, ◌-◌, inl, inr, slice_index_or}
use Rattle.std.specs.Prelude.{◌==◌, if◌then◌else◌}
use Rattle.std.proofs.lemmas.Bool.{cases_lt}
use Rattle.exact_field.specs.Rational.{ℚ, zero_ℚ, one_ℚ, ◌+ℚ◌, ◌-ℚ◌, ◌*ℚ◌, neg_ℚ, ◌≤ℚ◌, ◌<ℚ◌}
use Rattle.exact_field.specs.Vector.{entry, dot}
use Rattle.polyhedra.specs.Vectors.{zeros, values, plus, scaled}
use Rattle.polyhedra.proofs.Laws.{add_comm, add_assoc, add_zero, add_neg, le_refl, le_of_lt, zero_lt_one}
use Rattle.polyhedra.proofs.Algebra.{zero_add, neg_zero, neg_neg, neg_mul, one_mul, cancel, add_cancel, neg_add}
use Rattle.polyhedra.proofs.Order.{neg_nonneg, neg_positive, le_of_difference, not_zero_of_negative}
use Rattle.polyhedra.proofs.Linear.{dot_comm, dot-plus, dot-scaled, length-plus, length-scaled, length-zeros}
use Rattle.tableaux.specs.Table.{Table, System, IsSystem, row_of, at, column_of, listed, unit, table_of, equation_count, unknown_count, right_column, first_cost, second_cost}
use Rattle.tableaux.specs.Dictionary.{basic_column, IsFullDictionaryOf, value_of_column, solution, ray, multipliers, first_multipliers}
use Rattle.tableaux.specs.Simplex.{IsSolution, IsOptimal, IsInfeasible, IsUnbounded, OptimalAt, InfeasibleAt, UnboundedAt, EndsAreRight}
use Rattle.tableaux.proofs.Places.{length-list_from, list_from-place, listed-place, listed-is, entry-scaled, entry-plus, same_or_other, if_true, if_false, delta, delta-same, delta-other}
use Rattle.tableaux.proofs.Unique.{dot-unit, column-long, slice-zeros}
use Rattle.tableaux.proofs.Definition.{unit_entry, delta_sym, slice_eq, value_at}
use Rattle.tableaux.proofs.Ties.{column_entry}
use Rattle.tableaux.proofs.Products.{value-is}
use Rattle.tableaux.proofs.Back.{length-values}
use Rattle.tableaux.proofs.Entries.{table-long, sign_of, equation-unknown, equation-right, first-unknown, first-artificial, first-right, second-unknown, second-artificial, second-right}
use Rattle.tableaux.proofs.Reading.{reads, shares, cost_reads, artificial_reads, sign_twice}

dot-costs : (c x : List ℚ) → dot (map neg_ℚ c) x ≡ neg_ℚ (dot c x)
dot-costs [] x = sym neg_zero
dot-costs (a ∷ c) [] = sym neg_zero
dot-costs (a ∷ c) (b ∷ x) = ap₂ (λ p q. p +ℚ q) (neg_mul a b) (dot-costs c x) ∙ sym (neg_add (a *ℚ b) (dot c x))

entry-costs : (c : List ℚ) (k : ℕ) → slice_index_or (map neg_ℚ c) k zero_ℚ ≡ neg_ℚ (slice_index_or c k zero_ℚ)
entry-costs [] k = sym neg_zero
entry-costs (a ∷ c) zero = refl
entry-costs (a ∷ c) (suc k) = entry-costs c k

-- all of f 1, .., f n
all-listed : (n : ℕ) (f : ℕ → ℚ) (P : ℚ → Type 0) → ((j : ℕ) → 1 ≤ j → j ≤ n → P (f j)) → All P (listed n f)
all-listed n f P h i e l =
    let inside : i < n = omega (arith, l, length-list_from 1 n f) in
    subst P (sym (list_from-place 1 n f i e inside)) (h (1 + i) (omega arith) (omega arith))

-- vectors are one where they are at each place
values_are : (t : Table) (x right : List ℚ) → length right ≡ length t → ((i : ℕ) → 1 ≤ i → i ≤ length t → dot (row_of t i) x ≡ entry right i) → values t x ≡ right
values_are t x right l h =
    slice_eq (values t x) right (length-values t x ∙ sym l)
    (λ k u. let inside : k < length t = omega (arith, u, length-values t x) in
    let back : 1 + k - 1 ≡ k = omega arith in
    value_at t x k inside ∙ ap (λ i. dot (slice_index_or t i []) x) (sym back) ∙ h (1 + k) (omega arith) (omega arith) ∙ ap (λ i. slice_index_or right i zero_ℚ) back)

module _ (s : System) (ok : IsSystem s) (basis : List ℕ) (d : Table) (full : IsFullDictionaryOf s basis d) where
  abbrev n : ℕ
  n = unknown_count s

  abbrev m : ℕ
  m = equation_count s

  -- column j is 0 at the rows with an artificial column
  abbrev pub IsClean : ℕ → Type 0
  IsClean j = (k : ℕ) → 1 ≤ k → k ≤ m → n < basic_column basis k → at d k j ≡ zero_ℚ

  -- the values of column j at the basis
  abbrev at_basis : ℕ → List ℚ
  at_basis j = listed n (value_of_column basis (column_of d j))

  pub equation_reads : (i j : ℕ) → 1 ≤ i → i ≤ m → IsClean j → at (table_of s) i j ≡ dot (row_of s.equations i) (at_basis j)
  equation_reads i j l u clean =
      reads s ok basis d full i j (row_of s.equations i) [] l (omega arith) (λ c a b. equation-unknown s ok i c l u a b)
      (λ k b. refl) (λ k a b. sym (delta-other (1 + k) i (λ e. omega (arith, e)))) clean
      ∙ add_zero (dot (row_of s.equations i) (at_basis j))

  d_long : length d ≡ suc (suc m)
  d_long = full.dictionary.dictionary.one_each ∙ table-long s ok

  pub second_reads : (j : ℕ) → IsClean j → at (table_of s) (second_cost s) j ≡ neg_ℚ (dot s.cost (at_basis j)) +ℚ at d (second_cost s) j
  second_reads j clean =
      let i : ℕ = suc (suc m) in
      let own : List ℚ = unit i i in
      let own_at : (k : ℕ) → k < i → slice_index_or own k zero_ℚ ≡ delta (1 + k) i = λ k b.
      ap (λ x. slice_index_or own x zero_ℚ) (omega arith) ∙ unit_entry i i (1 + k) (omega arith) (omega arith) ∙ delta_sym i (1 + k) in
      reads s ok basis d full i j (map neg_ℚ s.cost) own (omega arith) (omega arith) (second-unknown s ok)
      (λ k b. own_at k (omega arith) ∙ delta-other (1 + k) i (λ e. omega (arith, e, b))) (λ k a b. own_at k b) clean
      ∙ ap₂ (λ x y. x +ℚ y) (dot-costs s.cost (at_basis j))
      (dot-unit i i (column_of d j) (omega arith) (omega arith) ∙ column_entry d j (i - 1) (omega (arith, d_long)))

  -- a number that each row has at the basis, or 0
  basis_is : (P : ℚ → Type 0) (j c : ℕ) → P zero_ℚ → 1 ≤ c → ((k : ℕ) → 1 ≤ k → k ≤ m → basic_column basis k ≡ c → P (at d k j)) → P (value_of_column basis (column_of d j) c)
  basis_is P j c none low each =
      value-is P basis (column_of d j) c none
      (λ k l e. let here : basic_column basis (1 + k) ≡ c = ap (λ x. slice_index_or basis x 0) (omega arith) ∙ e in
      elim (cases_lt k m) [
        | inl below ↦ subst P (sym (column_entry d j k (omega (arith, l, column-long d j)) ∙ ap (λ x. entry (slice_index_or d x []) j) (omega arith)))
            (each (1 + k) (omega arith) (omega arith) here)
        | inr above ↦ absurd (omega (arith, low, here, full.dictionary.columns.equations_only (1 + k) (omega arith)))
      ])

  -- ---- the solution
  module _ (right : (i : ℕ) → 1 ≤ i → i ≤ m → zero_ℚ ≤ℚ at d i (right_column s)) (clean : IsClean (right_column s)) where
    pub solves : IsSolution s.equations s.right (solution s basis d)
    solves =
        record {
          at_least_zero = all-listed n (value_of_column basis (column_of d (right_column s))) (λ q. zero_ℚ ≤ℚ q)
              (λ j l u. basis_is (λ q. zero_ℚ ≤ℚ q) (right_column s) j (le_refl zero_ℚ) l (λ k a b e. right k a b));
          equal = values_are s.equations (solution s basis d) s.right ok.right_each
              (λ i l u. sym (equation_reads i (right_column s) l u clean) ∙ equation-right s ok i l u);
        }

    -- its cost stands in the second cost row
    pub cost_is : dot s.cost (solution s basis d) ≡ at d (second_cost s) (right_column s)
    cost_is =
        let x : ℚ = dot s.cost (solution s basis d) in
        let y : ℚ = at d (second_cost s) (right_column s) in
        let balance : neg_ℚ x +ℚ y ≡ zero_ℚ = sym (second_reads (right_column s) clean) ∙ second-right s ok in
        add_cancel x y (neg_ℚ x) (add_neg x ∙ sym balance ∙ add_comm (neg_ℚ x) y)

  -- ---- multipliers
  module _ (i : ℕ) (i_low : m < i) (i_high : i ≤ suc (suc m)) (f : ℕ → ℚ)
      (shared : (k : ℕ) → 1 ≤ k → k ≤ m → f k ≡ entry (shares s ok basis d full i i_low i_high) k) where
    pub unknown_reads : (j : ℕ) → 1 ≤ j → j ≤ n → at d i j ≡ at (table_of s) i j +ℚ dot (listed m f) (column_of s.equations j)
    unknown_reads j l u =
        cost_reads s ok basis d full i i_low i_high f shared j (column_of s.equations j) (column-long s.equations j)
        (λ k a b. column_entry s.equations j (k - 1) (omega arith) ∙ sym (equation-unknown s ok k j a b l u))

    pub right_reads : at d i (right_column s) ≡ at (table_of s) i (right_column s) +ℚ dot (listed m f) s.right
    right_reads =
        cost_reads s ok basis d full i i_low i_high f shared (right_column s) s.right ok.right_each (λ k a b. sym (equation-right s ok k a b))

  second_high : second_cost s ≤ suc (suc m)
  second_high = omega arith

  second_low : m < second_cost s
  second_low = omega arith

  first_high : first_cost s ≤ suc (suc m)
  first_high = omega arith

  first_low : m < first_cost s
  first_low = omega arith

  second_shared : (k : ℕ) → 1 ≤ k → k ≤ m → at (table_of s) k (n + k) *ℚ at d (second_cost s) (n + k) ≡ entry (shares s ok basis d full (second_cost s) second_low second_high) k
  second_shared k l u =
      let share : ℚ = entry (shares s ok basis d full (second_cost s) second_low second_high) k in
      let entry_is : at d (second_cost s) (n + k) ≡ sign_of s ok k *ℚ share =
      artificial_reads s ok basis d full (second_cost s) second_low second_high k l u
      ∙ ap (λ x. x +ℚ sign_of s ok k *ℚ share) (second-artificial s ok k l u) ∙ zero_add (sign_of s ok k *ℚ share) in
      ap (λ x. at (table_of s) k (n + k) *ℚ x) entry_is ∙ sign_twice s ok basis d full k share l u

  first_shared : (k : ℕ) → 1 ≤ k → k ≤ m →
      at (table_of s) k (n + k) *ℚ (at d (first_cost s) (n + k) -ℚ one_ℚ) ≡ entry (shares s ok basis d full (first_cost s) first_low first_high) k
  first_shared k l u =
      let share : ℚ = entry (shares s ok basis d full (first_cost s) first_low first_high) k in
      let σ : ℚ = sign_of s ok k in
      let entry_is : at d (first_cost s) (n + k) -ℚ one_ℚ ≡ σ *ℚ share =
      ap (λ x. x -ℚ one_ℚ) (artificial_reads s ok basis d full (first_cost s) first_low first_high k l u
      ∙ ap (λ x. x +ℚ σ *ℚ share) (first-artificial s ok k l u) ∙ add_comm one_ℚ (σ *ℚ share)) ∙ cancel (σ *ℚ share) one_ℚ in
      ap (λ x. at (table_of s) k (n + k) *ℚ x) entry_is ∙ sign_twice s ok basis d full k share l u

  -- ---- the ray of a column that is none of the basis
  module _ (col : ℕ) (low : 1 ≤ col) (high : col ≤ n) (fresh : value_of_column basis (column_of d col) col ≡ zero_ℚ) where
    abbrev away : List ℚ
    away = scaled (neg_ℚ one_ℚ) (at_basis col)

    away_long : length away ≡ n
    away_long = length-scaled (neg_ℚ one_ℚ) (at_basis col) ∙ length-list_from 1 n (value_of_column basis (column_of d col))

    unit_long : length (unit n col) ≡ n
    unit_long = length-list_from 1 n (λ j. delta j col)

    opposite : (x : ℚ) → neg_ℚ one_ℚ *ℚ x ≡ neg_ℚ x
    opposite x = neg_mul one_ℚ x ∙ ap neg_ℚ (one_mul x)

    ray_at : (j : ℕ) → (if j == col then one_ℚ else neg_ℚ (value_of_column basis (column_of d col) j)) ≡ delta col j +ℚ neg_ℚ (value_of_column basis (column_of d col) j)
    ray_at j =
        let x : ℚ = value_of_column basis (column_of d col) j in
        elim (same_or_other j col) [
          | inl e ↦ if_true (j == col) one_ℚ (neg_ℚ x) e.1 ∙ sym (add_zero one_ℚ)
              ∙ ap₂ (λ a b. a +ℚ b) (sym (delta-same col j (sym e.0))) (sym (ap neg_ℚ (ap (value_of_column basis (column_of d col)) e.0 ∙ fresh) ∙ neg_zero))
          | inr o ↦ if_false (j == col) one_ℚ (neg_ℚ x) o.1 ∙ sym (zero_add (neg_ℚ x)) ∙ ap (λ a. a +ℚ neg_ℚ x) (sym (delta-other col j (λ e. o.0 (sym e))))
        ]

    ray_is : ray s basis d col ≡ plus (unit n col) away
    ray_is =
        listed-is n (λ j. if j == col then one_ℚ else neg_ℚ (value_of_column basis (column_of d col) j)) (plus (unit n col) away)
        (length-plus n (unit n col) away unit_long away_long)
        (λ j l u. ray_at j ∙ sym (entry-plus (unit n col) away j ∙ ap₂ (λ x y. x +ℚ y) (unit_entry n col j l u)
        (entry-scaled (neg_ℚ one_ℚ) (at_basis col) j ∙ opposite (entry (at_basis col) j) ∙ ap neg_ℚ (listed-place n (value_of_column basis (column_of d col)) j zero_ℚ l u))))

    dot_ray : (a : List ℚ) → dot a (ray s basis d col) ≡ entry a col +ℚ neg_ℚ (dot a (at_basis col))
    dot_ray a =
        ap (λ u. dot a u) ray_is ∙ dot-plus a (unit n col) away
        ∙ ap₂ (λ x y. x +ℚ y) (dot_comm a (unit n col) ∙ dot-unit n col a low high) (dot-scaled a (neg_ℚ one_ℚ) (at_basis col) ∙ opposite (dot a (at_basis col)))

    pub along : IsClean col → ((i : ℕ) → 1 ≤ i → i ≤ m → at d i col ≤ℚ zero_ℚ) → IsSolution s.equations (zeros m) (ray s basis d col)
    along clean unlimited =
        record {
          at_least_zero = all-listed n (λ j. if j == col then one_ℚ else neg_ℚ (value_of_column basis (column_of d col) j)) (λ q. zero_ℚ ≤ℚ q)
              (λ j l u. let x : ℚ = value_of_column basis (column_of d col) j in
              elim (same_or_other j col) [
                | inl e ↦ subst (λ (q : ℚ). zero_ℚ ≤ℚ q) (sym (if_true (j == col) one_ℚ (neg_ℚ x) e.1)) (le_of_lt zero_ℚ one_ℚ zero_lt_one)
                | inr o ↦ subst (λ (q : ℚ). zero_ℚ ≤ℚ q) (sym (if_false (j == col) one_ℚ (neg_ℚ x) o.1))
                    (neg_nonneg x (basis_is (λ q. q ≤ℚ zero_ℚ) col j (le_refl zero_ℚ) l (λ k a b e. unlimited k a b)))
              ]);
          equal = values_are s.equations (ray s basis d col) (zeros m) (length-zeros m)
              (λ i l u. dot_ray (row_of s.equations i)
              ∙ ap₂ (λ x y. x +ℚ neg_ℚ y) (sym (equation-unknown s ok i col l u low high)) (sym (equation_reads i col l u clean))
              ∙ add_neg (at (table_of s) i col) ∙ sym (slice-zeros m (i - 1)));
        }

    pub rises : IsClean col → dot s.cost (ray s basis d col) ≡ neg_ℚ (at d (second_cost s) col)
    rises clean =
        let c : ℚ = entry s.cost col in
        let x : ℚ = dot s.cost (at_basis col) in
        let e : ℚ = at d (second_cost s) col in
        let balance : neg_ℚ c ≡ neg_ℚ x +ℚ e = sym (entry-costs s.cost (col - 1)) ∙ sym (second-unknown s ok col low high) ∙ second_reads col clean in
        let less : x +ℚ neg_ℚ c ≡ e = ap (λ q. x +ℚ q) balance ∙ sym (add_assoc x (neg_ℚ x) e) ∙ ap (λ q. q +ℚ e) (add_neg x) ∙ zero_add e in
        dot_ray s.cost ∙ add_comm c (neg_ℚ x) ∙ ap (λ q. neg_ℚ x +ℚ q) (sym (neg_neg c)) ∙ sym (neg_add x (neg_ℚ c)) ∙ ap neg_ℚ less

-- ---- the ends
optimal_right : (s : System) (basis : List ℕ) (d : Table) (x dual : List ℚ) → IsSystem s → OptimalAt s basis d x dual → IsOptimal s (solution s basis d) (multipliers s d)
optimal_right s basis d x dual ok h =
    let m : ℕ = equation_count s in
    let full : IsFullDictionaryOf s basis d = h.feasible.full in
    let i : ℕ = second_cost s in
    let f : ℕ → ℚ = λ (k : ℕ). at (table_of s) k (unknown_count s + k) *ℚ at d i (unknown_count s + k) in
    let shared = second_shared s ok basis d full in
    record {
      wide = length-list_from 1 (unknown_count s) (value_of_column basis (column_of d (right_column s)));
      solves = solves s ok basis d full h.feasible.right h.feasible.artificial;
      one_each = length-list_from 1 m f;
      bounds = λ j l u.
          let c : ℚ = entry s.cost j in
          let y : ℚ = dot (multipliers s d) (column_of s.equations j) in
          let reads : at d i j ≡ neg_ℚ c +ℚ y =
          unknown_reads s ok basis d full i (second_low s ok basis d full) (second_high s ok basis d full) f shared j l u
          ∙ ap (λ q. q +ℚ y) (second-unknown s ok j l u ∙ entry-costs s.cost (j - 1)) in
          le_of_difference c y (at d i j) (h.best j l u)
          (ap (λ q. c +ℚ q) reads ∙ sym (add_assoc c (neg_ℚ c) y) ∙ ap (λ q. q +ℚ y) (add_neg c) ∙ zero_add y);
      equal = cost_is s ok basis d full h.feasible.right h.feasible.artificial
          ∙ right_reads s ok basis d full i (second_low s ok basis d full) (second_high s ok basis d full) f shared
          ∙ ap (λ q. q +ℚ dot (multipliers s d) s.right) (second-right s ok) ∙ zero_add (dot (multipliers s d) s.right);
    }

infeasible_right : (s : System) (basis : List ℕ) (d : Table) (farkas : List ℚ) → IsSystem s → InfeasibleAt s basis d farkas → IsInfeasible s (first_multipliers s d)
infeasible_right s basis d farkas ok h =
    let m : ℕ = equation_count s in
    let full : IsFullDictionaryOf s basis d = h.full in
    let i : ℕ = first_cost s in
    let f : ℕ → ℚ = λ (k : ℕ). at (table_of s) k (unknown_count s + k) *ℚ (at d i (unknown_count s + k) -ℚ one_ℚ) in
    let shared = first_shared s ok basis d full in
    let y : List ℚ = first_multipliers s d in
    record {
      one_each = length-list_from 1 m f;
      bounds = λ j l u. subst (λ (q : ℚ). zero_ℚ ≤ℚ q)
          (unknown_reads s ok basis d full i (first_low s ok basis d full) (first_high s ok basis d full) f shared j l u
          ∙ ap (λ q. q +ℚ dot y (column_of s.equations j)) (first-unknown s ok j l u) ∙ zero_add (dot y (column_of s.equations j)))
          (h.best j l u);
      below = subst (λ (q : ℚ). q <ℚ zero_ℚ)
          (right_reads s ok basis d full i (first_low s ok basis d full) (first_high s ok basis d full) f shared
          ∙ ap (λ q. q +ℚ dot y s.right) (first-right s ok) ∙ zero_add (dot y s.right))
          h.below;
    }

unbounded_right : (s : System) (basis : List ℕ) (d : Table) (col : ℕ) (x ray_read : List ℚ) → IsSystem s → UnboundedAt s basis d col x ray_read →
    IsUnbounded s (solution s basis d) (ray s basis d col)
unbounded_right s basis d col x ray_read ok h =
    let full : IsFullDictionaryOf s basis d = h.feasible.full in
    let n : ℕ = unknown_count s in
    let dict = full.dictionary.dictionary in
    let fresh : value_of_column basis (column_of d col) col ≡ zero_ℚ =
    basis_is s ok basis d full (λ q. q ≡ zero_ℚ) col col refl h.from_one
    (λ k a b e. absurd (not_zero_of_negative (at d (second_cost s) col) h.betters
    (ap (at d (second_cost s)) (sym e)
    ∙ dict.unit_columns (second_cost s) k (omega arith) (omega (arith, table-long s ok)) a (omega (arith, b, table-long s ok)) (λ z. omega (arith, z, e, h.from_one))
    ∙ delta-other (second_cost s) k (λ z. omega (arith, z, b))))) in
    record {
      wide = length-list_from 1 n (value_of_column basis (column_of d (right_column s)));
      solves = solves s ok basis d full h.feasible.right h.feasible.artificial;
      ray_wide = length-list_from 1 n (λ j. if j == col then one_ℚ else neg_ℚ (value_of_column basis (column_of d col) j));
      along = along s ok basis d full col h.from_one h.unknown fresh h.artificial h.unlimited;
      rises = subst (λ (q : ℚ). zero_ℚ <ℚ q) (sym (rises s ok basis d full col h.from_one h.unknown fresh h.artificial))
          (neg_positive (at d (second_cost s) col) h.betters);
    }

pub ends_are_right : EndsAreRight
ends_are_right =
    record {
      optimal = λ s basis d x dual ok h.
          subst (λ (v : List ℚ). IsOptimal s v dual) (sym h.x_read)
          (subst (λ (v : List ℚ). IsOptimal s (solution s basis d) v) (sym h.dual_read) (optimal_right s basis d x dual ok h));
      infeasible = λ s basis d farkas ok h. subst (λ (v : List ℚ). IsInfeasible s v) (sym h.farkas_read) (infeasible_right s basis d farkas ok h);
      unbounded = λ s basis d col x way ok h.
          subst (λ (v : List ℚ). IsUnbounded s v way) (sym h.x_read)
          (subst (λ (v : List ℚ). IsUnbounded s (solution s basis d) v) (sym h.along_read) (unbounded_right s basis d col x way ok h));
    }
