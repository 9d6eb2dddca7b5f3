-- The solution at a basis as a function of the basis. It does not depend on the cost, and every
-- solution stands at a list of columns among finitely many.
use Rattle.std.proofs.Common.{◌≡◌, ◌≢◌, ℕ, suc, List, [], ◌∷◌, length, ◌++◌, replicate, refl, sym, ap, ap₂, ◌∙◌, subst, arith, ◌<◌, ◌≤◌, ◌+◌, ◌-◌, inl, inr, slice_index_or}
use Rattle.std.specs.Prelude.{◌==◌}
use Rattle.exact_field.specs.Rational.{ℚ, zero_ℚ, one_ℚ}
use Rattle.exact_field.specs.Vector.{entry}
use Rattle.polyhedra.specs.Vectors.{AreWide, zeros}
use Rattle.tableaux.specs.Table.{Table, System, IsSystem, at, column_of, listed, table_of, equation_count, unknown_count, right_column, first_cost, second_cost}
use Rattle.tableaux.specs.Dictionary.{basic_column, IsDictionary, IsFullDictionaryOf, value_of_column, solution}
use Rattle.lin_rows.proofs.Pivoted.{listed-same}
use Rattle.tableaux.proofs.Places.{same_or_other, if_true, if_false}
use Rattle.tableaux.proofs.Matrix.{HasMatrix}
use Rattle.tableaux.proofs.Unique.{column-long}
use Rattle.tableaux.proofs.Definition.{matrix_form, dictionary_of}
use Rattle.tableaux.proofs.Ties.{column_entry}
use Rattle.tableaux.proofs.Products.{value-is}
use Rattle.tableaux.proofs.Entries.{table-long, table-wide, row-equation, row-first}
use Rattle.overflows.proofs.Changes.{changed_multipliers, other_row, others_stay}
use Rattle.tableaux.proofs.Decided.{combined}

-- ---- values by their columns
value_none : (basis : List ℕ) (v : List ℚ) (j : ℕ) → 1 ≤ j → ((k : ℕ) → slice_index_or basis k 0 ≡ 0) → value_of_column basis v j ≡ zero_ℚ
value_none basis v j l none = value-is (λ q. q ≡ zero_ℚ) basis v j refl (λ k u e. absurd (omega (arith, none k, e, l)))

-- the values at the named columns alone count
pub value_same : (basis other : List ℕ) (v w : List ℚ) (j : ℕ) → 1 ≤ j → ((k : ℕ) → slice_index_or basis k 0 ≡ slice_index_or other k 0) →
    ((k : ℕ) → slice_index_or basis k 0 ≢ 0 → (k < length v) × (k < length w) × (slice_index_or v k zero_ℚ ≡ slice_index_or w k zero_ℚ)) →
    value_of_column basis v j ≡ value_of_column other w j
value_same [] other v w j l e h = sym (value_none other w j l (λ k. sym (e k)))
value_same (c ∷ basis) [] v w j l e h = value_none (c ∷ basis) v j l e
value_same (c ∷ basis) (o ∷ other) [] w j l e h =
    sym (value_none (o ∷ other) w j l (λ k. sym (e k) ∙ (elim (same_or_other (slice_index_or (c ∷ basis) k 0) 0) [ inl z ↦ z.0 | inr z ↦ absurd (omega (arith, (h k z.0).0)) ])))
value_same (c ∷ basis) (o ∷ other) (x ∷ v) [] j l e h =
    value_none (c ∷ basis) (x ∷ v) j l (λ k. elim (same_or_other (slice_index_or (c ∷ basis) k 0) 0) [ inl z ↦ z.0 | inr z ↦ absurd (omega (arith, (h k z.0).1)) ])
value_same (c ∷ basis) (o ∷ other) (x ∷ v) (y ∷ w) j l e h =
    let test : (o == j) ≡ (c == j) = ap (λ a. a == j) (sym (e 0)) in
    elim (same_or_other c j) [
      | inl s ↦ if_true (c == j) x (value_of_column basis v j) s.1 ∙ (h 0 (λ z. omega (arith, z, s.0, l))).2
          ∙ sym (if_true (o == j) y (value_of_column other w j) (test ∙ s.1))
      | inr s ↦ if_false (c == j) x (value_of_column basis v j) s.1
          ∙ value_same basis other v w j l (λ k. e (suc k)) (λ k z. let p = h (suc k) z in (omega (arith, p.0), omega (arith, p.1), p.2))
          ∙ sym (if_false (o == j) y (value_of_column other w j) (test ∙ s.1))
    ]

pub named_low : (s : System) (basis : List ℕ) (d : Table) (h : IsFullDictionaryOf s basis d) (k : ℕ) → slice_index_or basis k 0 ≢ 0 → k < equation_count s
named_low s basis d h k some =
    omega (arith, λ (over : equation_count s < 1 + k). some (ap (λ i. slice_index_or basis i 0) (next k) ∙ h.dictionary.columns.equations_only (1 + k) over))
  where
    next : (k : ℕ) → k ≡ 1 + k - 1
    next k = omega arith

-- ---- another cost
abbrev pub with_cost : System → List ℚ → System
with_cost s cost = record { equations = s.equations; right = s.right; cost = cost }

module _ (s : System) (cost : List ℚ) (ok : IsSystem s) (long : length cost ≡ unknown_count s) where
  abbrev other : System
  other = with_cost s cost

  pub other_ok : IsSystem (with_cost s cost)
  other_ok = record { wide = subst (λ (n : ℕ). AreWide n s.equations) (sym long) ok.wide; right_each = ok.right_each }

  width_same : right_column other ≡ right_column s
  width_same = ap (λ n. suc (n + equation_count s)) long

  rows_same : (i j : ℕ) → 1 ≤ i → i ≤ length (table_of s) → i ≢ second_cost s → at (table_of other) i j ≡ at (table_of s) i j
  rows_same i j l u o =
      elim (same_or_other i (first_cost s)) [
        | inl e ↦ ap (λ k. at (table_of other) k j) e.0
            ∙ ap (λ r. entry r j) (row-first other other_ok ∙ ap (λ n. (zeros n ++ replicate (equation_count s) one_ℚ) ++ zero_ℚ ∷ []) long ∙ sym (row-first s ok))
            ∙ ap (λ k. at (table_of s) k j) (sym e.0)
        | inr e ↦
            let inside : i ≤ equation_count s = omega (arith, u, o, e.0, table-long s ok) in
            ap (λ r. entry r j) (row-equation other other_ok i l inside ∙ sym (row-equation s ok i l inside))
      ]

  -- the dictionary at the same basis has the same solution
  pub cost_changes : (basis : List ℕ) (d : Table) → IsFullDictionaryOf s basis d →
      (e : Table) × IsFullDictionaryOf (with_cost s cost) basis e × (solution (with_cost s cost) basis e ≡ solution s basis d)
  cost_changes basis d h = (e, full, solutions)
    where
      t_long : length (table_of s) ≡ suc (suc (equation_count s))
      t_long = table-long s ok

      form : (m : Table) × HasMatrix (right_column s) (table_of s) basis d m
      form = matrix_form (right_column s) (table_of s) basis d (table-wide s ok) h.dictionary.dictionary

      u_wide : AreWide (right_column s) (table_of other)
      u_wide = subst (λ (w : ℕ). AreWide w (table_of other)) width_same (table-wide other other_ok)

      same_long : length (table_of other) ≡ length (table_of s)
      same_long = table-long other other_ok ∙ sym t_long

      none : basic_column basis (second_cost s) ≡ 0
      none = h.dictionary.columns.equations_only (second_cost s) (omega arith)

      ms : Table
      ms = changed_multipliers (right_column s) (table_of s) (table_of other) basis d form.0 (second_cost s) (table-wide s ok) form.1 u_wide same_long
          (omega arith) (omega (arith, t_long)) none rows_same

      e : Table
      e = combined (right_column s) (table_of other) ms

      made : HasMatrix (right_column s) (table_of other) basis e ms
      made = other_row (right_column s) (table_of s) (table_of other) basis d form.0 (second_cost s) (table-wide s ok) form.1 u_wide same_long
          (omega arith) (omega (arith, t_long)) none rows_same

      stays : (i j : ℕ) → 1 ≤ i → i ≤ equation_count s → at e i j ≡ at d i j
      stays i j l u = others_stay (right_column s) (table_of s) (table_of other) basis d form.0 (second_cost s) (table-wide s ok) form.1 u_wide same_long
          (omega arith) (omega (arith, t_long)) none rows_same i j l (omega (arith, u, t_long)) (λ x. omega (arith, x, u))

      full : IsFullDictionaryOf (with_cost s cost) basis e
      full =
          record {
            dictionary = record {
              columns = record {
                within = λ i l. subst (λ (w : ℕ). basic_column basis i < w) (sym width_same) (h.dictionary.columns.within i l);
                equations_only = h.dictionary.columns.equations_only;
              };
              dictionary = subst (λ (w : ℕ). IsDictionary w (table_of other) basis e) (sym width_same)
                  (dictionary_of (right_column s) (table_of other) basis e ms u_wide made);
            };
            full = h.full;
          }

      solutions : solution (with_cost s cost) basis e ≡ solution s basis d
      solutions =
          ap₂ (λ n w. listed n (value_of_column basis (column_of e w))) long width_same
          ∙ listed-same (unknown_count s) (value_of_column basis (column_of e (right_column s))) (value_of_column basis (column_of d (right_column s)))
          (λ j l u. value_same basis basis (column_of e (right_column s)) (column_of d (right_column s)) j l (λ k. refl) (λ k some.
          let low : k < equation_count s = named_low s basis d h k some in
          let e_high : k < length e = omega (arith, low, made.d_many, same_long, t_long) in
          let d_high : k < length d = omega (arith, low, form.1.d_many, t_long) in (
            omega (arith, e_high, column-long e (right_column s)),
            omega (arith, d_high, column-long d (right_column s)),
            column_entry e (right_column s) k e_high ∙ ap (λ i. entry (slice_index_or e i []) (right_column s)) (next k)
                ∙ stays (1 + k) (right_column s) (omega arith) (omega arith)
                ∙ ap (λ i. entry (slice_index_or d i []) (right_column s)) (sym (next k)) ∙ sym (column_entry d (right_column s) k d_high),
          )))
        where
          next : (k : ℕ) → k ≡ 1 + k - 1
          next k = omega arith
