-- A basis without the places of the cost rows, which have no column.
use Rattle.std.proofs.Common.{◌≡◌, ℕ, zero, suc, List, [], ◌∷◌, length, take, sym, refl, ap, ◌∙◌, subst, arith, ◌<◌, ◌≤◌, ◌+◌, ◌-◌, inl, inr, slice_index_or}
use Rattle.std.specs.Prelude.{◌==◌, if◌then◌else◌}
use Rattle.std.proofs.lemmas.Bool.{cases_lt}
use Rattle.std.proofs.lemmas.List.{get_or-take, get_or_past, length-take}
use Rattle.exact_field.specs.Rational.{ℚ, zero_ℚ, one_ℚ, neg_ℚ}
use Rattle.tableaux.specs.Table.{Table, System, at, column_of, table_of, equation_count, unknown_count, right_column}
use Rattle.tableaux.specs.Dictionary.{basic_column, AreBasicMultipliers, IsDictionary, IsDictionaryOf, IsFull, IsFullDictionaryOf, value_of_column, solution, ray}
use Rattle.tableaux.specs.Simplex.{IsFeasibleAt}
use Rattle.tableaux.proofs.Found.{list_from-same}
use Rattle.tableaux.proofs.Places.{same_or_other, if_false}

-- general; belongs in tableaux: only the columns that a basis names count
module _ (width : ℕ) (t : Table) (basis other : List ℕ) (same : (i : ℕ) → 1 ≤ i → basic_column other i ≡ basic_column basis i) where
  multipliers_same : (ms : List ℚ) → AreBasicMultipliers (length t) basis ms → AreBasicMultipliers (length t) other ms
  multipliers_same ms h = record { one_each = h.one_each; basic = λ i l u e. h.basic i l u (sym (same i l) ∙ e) }

  pub same_dictionary : (d : Table) → IsDictionary width t basis d → IsDictionary width t other d
  same_dictionary d h =
      record {
        one_each = h.one_each;
        wide = h.wide;
        unit_columns = λ i k l u a b some.
            ap (at d i) (same k a) ∙ h.unit_columns i k l u a b (λ e. some (same k a ∙ e));
        basic_rows = λ i l u some.
            let own = h.basic_rows i l u (λ e. some (same i l ∙ e)) in
            record { multipliers = own.multipliers; basic = multipliers_same own.multipliers own.basic; combined = own.combined };
        other_rows = λ i l u none.
            let own = h.other_rows i l u (sym (same i l) ∙ none) in
            record { multipliers = own.multipliers; basic = multipliers_same own.multipliers own.basic; changed = own.changed };
      }

nothing_named : (basis : List ℕ) (vs : List ℚ) (j : ℕ) → 1 ≤ j → ((i : ℕ) → slice_index_or basis i 0 ≡ 0) → value_of_column basis vs j ≡ zero_ℚ
nothing_named [] vs j l none = refl
nothing_named (c ∷ basis) [] j l none = refl
nothing_named (c ∷ basis) (v ∷ vs) j l none =
    elim (same_or_other c j) [
      | inl e ↦ absurd (omega (arith, e.0, none 0, l))
      | inr o ↦ if_false (c == j) v (value_of_column basis vs j) o.1 ∙ nothing_named basis vs j l (λ i. none (suc i))
    ]

value-take : (m : ℕ) (basis : List ℕ) (vs : List ℚ) (j : ℕ) → 1 ≤ j → ((i : ℕ) → m ≤ i → slice_index_or basis i 0 ≡ 0) →
    value_of_column (take m basis) vs j ≡ value_of_column basis vs j
value-take zero basis vs j l none = sym (nothing_named basis vs j l (λ i. none i (omega arith)))
value-take (suc m) [] vs j l none = refl
value-take (suc m) (c ∷ basis) [] j l none = refl
value-take (suc m) (c ∷ basis) (v ∷ vs) j l none = ap (λ q. if c == j then v else q) (value-take m basis vs j l (λ i u. none (suc i) (omega arith)))

module _ (s : System) (basis : List ℕ) (d : Table) (h : IsDictionaryOf s basis d) where
  abbrev m : ℕ
  m = equation_count s

  abbrev short : List ℕ
  short = take m basis

  none_after : (i : ℕ) → m ≤ i → slice_index_or basis i 0 ≡ 0
  none_after i l = let same : i + 1 - 1 ≡ i = omega arith in ap (λ k. slice_index_or basis k 0) (sym same) ∙ h.columns.equations_only (i + 1) (omega arith)

  same : (i : ℕ) → 1 ≤ i → basic_column short i ≡ basic_column basis i
  same i l =
      elim (cases_lt (i - 1) m) [
        | inl inside ↦ get_or-take m basis (i - 1) 0 inside
        | inr past ↦ get_or_past short (i - 1) 0 (omega (arith, past, length-take m basis)) ∙ sym (none_after (i - 1) past)
      ]

  pub short_dictionary : IsDictionaryOf s short d
  short_dictionary =
      record {
        columns = record {
          within = λ i l. subst (λ (c : ℕ). c < right_column s) (sym (same i l)) (h.columns.within i l);
          equations_only = λ i l. same i (omega (arith, l)) ∙ h.columns.equations_only i l;
        };
        dictionary = same_dictionary (right_column s) (table_of s) basis short same d h.dictionary;
      }

  pub short_full : IsFull s basis → IsFullDictionaryOf s short d
  short_full full = record { dictionary = short_dictionary; full = λ i l u e. full i l u (sym (same i l) ∙ e) }

  pub short_artificial : (i : ℕ) → 1 ≤ i → unknown_count s < basic_column short i → unknown_count s < basic_column basis i
  short_artificial i l = subst (λ (c : ℕ). unknown_count s < c) (same i l)

  pub short_feasible : IsFeasibleAt s basis d → IsFeasibleAt s short d
  short_feasible f = record { full = short_full f.full.full; right = f.right; artificial = λ i l u over. f.artificial i l u (short_artificial i l over) }

  pub short_solution : solution s basis d ≡ solution s short d
  short_solution =
      list_from-same 1 (unknown_count s) (value_of_column basis (column_of d (right_column s))) (value_of_column short (column_of d (right_column s)))
      (λ j l u. sym (value-take m basis (column_of d (right_column s)) j l none_after))

  pub short_ray : (col : ℕ) → ray s basis d col ≡ ray s short d col
  short_ray col =
      list_from-same 1 (unknown_count s) (λ j. if j == col then one_ℚ else neg_ℚ (value_of_column basis (column_of d col) j))
      (λ j. if j == col then one_ℚ else neg_ℚ (value_of_column short (column_of d col) j))
      (λ j l u. ap (λ q. if j == col then one_ℚ else neg_ℚ q) (sym (value-take m basis (column_of d col) j l none_after)))
