-- A dictionary of a system with the cost row of another cost is a dictionary of the system with this cost.
use Rattle.std.proofs.Common.{◌≡◌, ◌≢◌, ℕ, List, length, sym, refl, ap, ◌∙◌, subst, arith, ◌≤◌, inl, inr}
use Rattle.std.proofs.lemmas.Bool.{cases_lt}
use Rattle.exact_field.specs.Rational.{ℚ, zero_ℚ, ◌≤ℚ◌}
use Rattle.exact_field.specs.Vector.{entry}
use Rattle.polyhedra.specs.Vectors.{AreWide}
use Rattle.tableaux.specs.Table.{Table, System, IsSystem, row_of, at, table_of, equation_count, right_column, second_cost}
use Rattle.tableaux.specs.Dictionary.{basic_column, IsChanged, IsDictionary, IsDictionaryOf}
use Rattle.tableaux.specs.Exchange.{IsSameBut}
use Rattle.tableaux.specs.Phases.{AreIdle}
use Rattle.tableaux.specs.Simplex.{IsFeasibleAt}
use Rattle.tableaux.proofs.Entries.{table-long, table-wide}
use Rattle.tableaux.proofs.Exchange.{changed_same, cost_alone, row_exchanged}

module _ (s : System) (ok : IsSystem s) (cost : List ℚ) (many : length cost ≡ length s.cost) where
  abbrev pub other : System
  other = record { equations = s.equations; right = s.right; cost = cost }

  pub other_ok : IsSystem other
  other_ok = record { wide = subst (λ (n : ℕ). AreWide n s.equations) (sym many) ok.wide; right_each = ok.right_each }

  pub other_width : right_column other ≡ right_column s
  other_width = omega (arith, many)

  pub other_wide : AreWide (right_column s) (table_of other)
  other_wide = subst (λ (n : ℕ). AreWide n (table_of other)) other_width (table-wide other other_ok)

  module _ (basis : List ℕ) (d e : Table) (h : IsDictionaryOf s basis d) (after : IsSameBut (second_cost s) d e)
      (here : IsChanged (right_column s) (table_of s) basis (row_of (table_of other) (second_cost s)) (row_of e (second_cost s)))
      (clear : (k : ℕ) → 1 ≤ k → k ≤ equation_count s → at e (second_cost s) (basic_column basis k) ≡ zero_ℚ) where
    none : basic_column basis (second_cost s) ≡ 0
    none = h.columns.equations_only (second_cost s) (omega arith)

    clear_all : (k : ℕ) → 1 ≤ k → k ≤ length (table_of s) → basic_column basis k ≢ 0 → at e (second_cost s) (basic_column basis k) ≡ zero_ℚ
    clear_all k l u some =
        elim (cases_lt (equation_count s) k) [
          | inl high ↦ absurd (some (h.columns.equations_only k high))
          | inr low ↦ clear k l low
        ]

    pub other_dictionary : IsDictionaryOf other basis e
    other_dictionary =
        let row : ℕ = second_cost s in
        let same = cost_alone s cost ok many in
        let changed = changed_same (right_column s) (table_of s) (table_of other) basis row (table-wide s ok) other_wide none same
        (row_of (table_of other) row) (row_of (table_of other) row) (row_of e row) (row_of e row) refl refl here in
        record {
          columns = record { within = λ i l. omega (arith, h.columns.within i l, other_width); equations_only = h.columns.equations_only };
          dictionary = subst (λ (n : ℕ). IsDictionary n (table_of other) basis e) (sym other_width)
              (row_exchanged (right_column s) (table_of s) (table_of other) basis d e row (table-wide s ok) other_wide h.dictionary (omega arith)
              (omega (arith, table-long s ok)) none same after changed clear_all);
        }

    -- the rows of the equations are as they were
    pub equation_at : (i j k : ℕ) → 1 ≤ i → i ≤ equation_count s → j ≡ k → at e i j ≡ at d i k
    equation_at i j k l u f = ap (λ v. entry v j) (after.others i l (λ q. omega (arith, q, u))) ∙ ap (at d i) f

    pub other_feasible : IsFeasibleAt s basis d → IsFeasibleAt other basis e
    other_feasible f =
        record {
          full = record { dictionary = other_dictionary; full = f.full.full };
          right = λ i l u. subst (λ (q : ℚ). zero_ℚ ≤ℚ q) (sym (equation_at i (right_column other) (right_column s) l u other_width)) (f.right i l u);
          artificial = λ i l u over. equation_at i (right_column other) (right_column s) l u other_width ∙ f.artificial i l u (omega (arith, over, many));
        }

    pub other_idle : AreIdle s basis d → AreIdle other basis e
    other_idle f =
        record {
          unknown = λ i j l u over low high. equation_at i j j l u refl ∙ f.unknown i j l u (omega (arith, over, many)) low (omega (arith, high, many));
          right = λ i l u over. equation_at i (right_column other) (right_column s) l u other_width ∙ f.right i l u (omega (arith, over, many));
        }
