-- What stands at a basis of a system, as functions of the basis: the solution, which does not
-- depend on the cost. Each solution of a dictionary at a full basis stands at a list of columns
-- among finitely many.
use Rattle.std.proofs.Common.{◌≡◌, ℕ, zero, suc, List, [], ◌∷◌, length, Contains, Option, None, Some, refl, sym, ap, ap₂, ◌∙◌, subst, arith, ◌<◌, ◌≤◌, ◌+◌, ◌-◌, inl, inr, slice_index_or}
use Rattle.std.proofs.lemmas.List.{get_or_past}
use Rattle.std.proofs.lemmas.Bool.{cases_lt}
use Rattle.exact_field.specs.Rational.{ℚ, zero_ℚ}
use Rattle.exact_field.specs.Vector.{entry}
use Rattle.polyhedra.specs.Vectors.{zeros}
use Rattle.polyhedra.proofs.Linear.{length-zeros}
use Rattle.tableaux.specs.Table.{Table, System, IsSystem, row_of, at, column_of, list_from, listed, table_of, equation_count, unknown_count, right_column}
use Rattle.tableaux.specs.Dictionary.{basic_column, AreBasicMultipliers, IsDictionary, IsFullDictionaryOf, value_of_column, solution}
use Rattle.tableaux.proofs.Places.{length-list_from, list_from-place, listed-place}
use Rattle.tableaux.proofs.Unique.{column-long}
use Rattle.tableaux.proofs.Ties.{column_entry}
use Rattle.tableaux.proofs.Entries.{table-long, table-wide}
use Rattle.tableaux.proofs.Found.{dictionary_row, row_found}
use Rattle.tableaux.proofs.Remaining.{all_lists, is_listed}
use Rattle.overflows.proofs.Solutions.{value_same, named_low, with_cost, other_ok, cost_changes}
use Rattle.lin_rows.proofs.Pivoted.{listed-same}

-- ---- a column of rows that are found
abbrev in_front : ℕ → Option (List ℚ) → Option (List ℚ) → Option (List ℚ)
in_front j None rest = None
in_front j (Some row) None = None
in_front j (Some row) (Some vs) = Some (entry row j ∷ vs)

abbrev pub found_column : (ℕ → Option (List ℚ)) → ℕ → ℕ → ℕ → Option (List ℚ)
found_column rows j k zero = Some []
found_column rows j k (suc n) = in_front j (rows k) (found_column rows j (suc k) n)

pub column_found : (rows : ℕ → Option (List ℚ)) (d : Table) (j k n : ℕ) → ((i : ℕ) → k ≤ i → i < k + n → rows i ≡ Some (row_of d i)) →
    found_column rows j k n ≡ Some (list_from k n (λ i. at d i j))
column_found rows d j k zero h = refl
column_found rows d j k (suc n) h =
    ap₂ (in_front j) (h k (omega arith) (omega arith)) (column_found rows d j (suc k) n (λ i l u. h i (omega arith) (omega arith)))

-- ---- the solution at a basis
abbrev solution_by : ℕ → List ℕ → Option (List ℚ) → Option (List ℚ)
solution_by n basis None = None
solution_by n basis (Some values) = Some (listed n (value_of_column basis values))

-- the cost is left out
abbrev pub costless : System → System
costless s = with_cost s (zeros (unknown_count s))

abbrev pub solution_at : System → List ℕ → Option (List ℚ)
solution_at s basis =
    solution_by (unknown_count s) basis
    (found_column (dictionary_row (table_of (costless s)) basis (right_column (costless s))) (right_column (costless s)) 1 (equation_count s))

-- it does not depend on the cost
pub solution_at_cost : (s : System) (cost : List ℚ) (basis : List ℕ) → length cost ≡ unknown_count s → solution_at (with_cost s cost) basis ≡ solution_at s basis
solution_at_cost s cost basis e =
    ap (λ n. solution_by n basis (found_column (dictionary_row (table_of (with_cost s (zeros n))) basis (right_column (with_cost s (zeros n)))) (right_column (with_cost s (zeros n))) 1 (equation_count s))) e

-- it is found wherever there is a dictionary
pub solution_found : (s : System) (basis : List ℕ) (d : Table) → IsSystem s → IsFullDictionaryOf s basis d → solution_at s basis ≡ Some (solution s basis d)
solution_found s basis d ok h =
    ap (solution_by (unknown_count s) basis)
    (column_found (dictionary_row (table_of (costless s)) basis (right_column (costless s))) e (right_column (costless s)) 1 (equation_count s)
    (λ i l u. row_found (table_of (costless s)) basis (right_column (costless s)) e i (table-wide (costless s) c_ok) full.dictionary.dictionary l
    (omega (arith, u, table-long (costless s) c_ok))))
    ∙ ap Some
    (listed-same (unknown_count s) (value_of_column basis (listed m (λ i. at e i (right_column (costless s))))) (value_of_column basis (column_of e (right_column (costless s))))
    (λ j l u. value_same basis basis (listed m (λ i. at e i (right_column (costless s)))) (column_of e (right_column (costless s))) j l (λ k. refl) places)
    ∙ ap (λ n. listed n (value_of_column basis (column_of e (right_column (costless s))))) (sym zeros_long)
    ∙ changed.2)
  where
    m : ℕ
    m = equation_count s

    zeros_long : length (zeros (unknown_count s)) ≡ unknown_count s
    zeros_long = length-zeros (unknown_count s)

    c_ok : IsSystem (costless s)
    c_ok = other_ok s (zeros (unknown_count s)) ok zeros_long

    changed : (e : Table) × IsFullDictionaryOf (costless s) basis e × (solution (costless s) basis e ≡ solution s basis d)
    changed = cost_changes s (zeros (unknown_count s)) ok zeros_long basis d h

    e : Table
    e = changed.0

    full : IsFullDictionaryOf (costless s) basis e
    full = changed.1

    next : (k : ℕ) → 1 + k ≡ 1 + k
    next k = refl

    places : (k : ℕ) → (slice_index_or basis k 0 ≡ 0 → ⊥) →
        (k < length (listed (equation_count s) (λ i. at e i (right_column (costless s))))) × (k < length (column_of e (right_column (costless s))))
        × (slice_index_or (listed (equation_count s) (λ i. at e i (right_column (costless s)))) k zero_ℚ ≡ slice_index_or (column_of e (right_column (costless s))) k zero_ℚ)
    places k some =
        let low : k < equation_count s = named_low (costless s) basis e full k some in
        let high : k < length e = omega (arith, low, full.dictionary.dictionary.one_each, table-long (costless s) c_ok) in (
          omega (arith, low, length-list_from 1 (equation_count s) (λ i. at e i (right_column (costless s)))),
          omega (arith, high, column-long e (right_column (costless s))),
          list_from-place 1 (equation_count s) (λ i. at e i (right_column (costless s))) k zero_ℚ low
              ∙ ap (λ i. entry (slice_index_or e i []) (right_column (costless s))) (omega arith) ∙ sym (column_entry e (right_column (costless s)) k high),
        )

-- ---- bases that name the same columns
module _ (basis other : List ℕ) (same : (i : ℕ) → 1 ≤ i → basic_column basis i ≡ basic_column other i) where
  moved : (n : ℕ) (ms : List ℚ) → AreBasicMultipliers n basis ms → AreBasicMultipliers n other ms
  moved n ms h = record { one_each = h.one_each; basic = λ i l u z. h.basic i l u (same i l ∙ z) }

  pub same_dictionary : (width : ℕ) (t d : Table) → IsDictionary width t basis d → IsDictionary width t other d
  same_dictionary width t d h =
      record {
        one_each = h.one_each;
        wide = h.wide;
        unit_columns = λ i k l u x y some. ap (at d i) (sym (same k x)) ∙ h.unit_columns i k l u x y (λ z. some (sym (same k x) ∙ z));
        basic_rows = λ i l u some. let r = h.basic_rows i l u (λ z. some (sym (same i l) ∙ z)) in
            record { multipliers = r.multipliers; basic = moved (length t) r.multipliers r.basic; combined = r.combined };
        other_rows = λ i l u none. let r = h.other_rows i l u (same i l ∙ none) in
            record { multipliers = r.multipliers; basic = moved (length t) r.multipliers r.basic; changed = r.changed };
      }

  pub same_full : (s : System) (d : Table) → IsFullDictionaryOf s basis d → IsFullDictionaryOf s other d
  same_full s d h =
      record {
        dictionary = record {
          columns = record {
            within = λ i l. subst (λ (c : ℕ). c < right_column s) (same i l) (h.dictionary.columns.within i l);
            equations_only = λ i l. sym (same i (omega arith)) ∙ h.dictionary.columns.equations_only i l;
          };
          dictionary = same_dictionary (right_column s) (table_of s) d h.dictionary.dictionary;
        };
        full = λ i l u z. h.full i l u (same i l ∙ z);
      }

-- the columns of the equations alone
abbrev pub columns_of : System → List ℕ → List ℕ
columns_of s basis = listed (equation_count s) (basic_column basis)

-- the lists of columns at which solutions stand
abbrev pub bases_of : System → List (List ℕ)
bases_of s = all_lists (equation_count s) (unknown_count s + equation_count s)

module _ (s : System) (basis : List ℕ) (d : Table) (ok : IsSystem s) (h : IsFullDictionaryOf s basis d) where
  columns_same : (i : ℕ) → 1 ≤ i → basic_column basis i ≡ basic_column (columns_of s basis) i
  columns_same i l =
      elim (cases_lt (equation_count s) i) [
        | inl over ↦ h.dictionary.columns.equations_only i over
            ∙ sym (get_or_past (columns_of s basis) (i - 1) 0 (omega (arith, over, length-list_from 1 (equation_count s) (basic_column basis))))
        | inr low ↦ sym (listed-place (equation_count s) (basic_column basis) i 0 l low)
      ]

  pub columns_full : IsFullDictionaryOf s (columns_of s basis) d
  columns_full = same_full basis (columns_of s basis) columns_same s d h

  pub columns_listed : Contains (bases_of s) (columns_of s basis)
  columns_listed =
      is_listed (equation_count s) (unknown_count s + equation_count s) (columns_of s basis) (length-list_from 1 (equation_count s) (basic_column basis))
      (λ i e l.
      let inside : i < equation_count s = omega (arith, l, length-list_from 1 (equation_count s) (basic_column basis)) in
      subst (λ (c : ℕ). c ≤ unknown_count s + equation_count s) (sym (list_from-place 1 (equation_count s) (basic_column basis) i e inside))
      (omega (arith, h.dictionary.columns.within (1 + i) (omega arith))))

  pub columns_solution : solution s (columns_of s basis) d ≡ solution s basis d
  columns_solution =
      listed-same (unknown_count s) (value_of_column (columns_of s basis) (column_of d (right_column s))) (value_of_column basis (column_of d (right_column s)))
      (λ j l u. value_same (columns_of s basis) basis (column_of d (right_column s)) (column_of d (right_column s)) j l
      (λ k. ap (λ i. slice_index_or (columns_of s basis) i 0) (next k) ∙ sym (columns_same (1 + k) (omega arith)) ∙ ap (λ i. slice_index_or basis i 0) (sym (next k)))
      (λ k some.
      let low : k < equation_count s = named_low s (columns_of s basis) d columns_full k some in
      let high : k < length (column_of d (right_column s)) = omega (arith, low, column-long d (right_column s), h.dictionary.dictionary.one_each, table-long s ok) in
      (high, high, refl)))
    where
      next : (k : ℕ) → k ≡ 1 + k - 1
      next k = omega arith

  -- every solution stands at a list of columns among these
  pub solution_listed : (b : List ℕ) × Contains (bases_of s) b × (solution_at s b ≡ Some (solution s basis d))
  solution_listed = (columns_of s basis, columns_listed, solution_found s (columns_of s basis) d ok columns_full ∙ ap Some columns_solution)
