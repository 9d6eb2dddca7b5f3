-- The last table of a program with the cost row of the next one.
use Rattle.std.proofs.Common.{◌≡◌, ◌≢◌, ℕ, List, [], length, map, sym, ap, ◌∙◌, subst, arith, ◌<◌, ◌≤◌, ◌+◌, ◌-◌, ◌*◌, slice_range, slice_index_or, slice_set, get_or-set_same, get_or-set_other, Option, Some, None}
use Rattle.std.specs.Prelude.{⊤, MatchOption}
use Rattle.std.proofs.lemmas.List.{length-map, length-set}
use Rattle.exact_field.specs.Rational.{ℚ, zero_ℚ}
use Rattle.exact_field.specs.Vector.{entry}
use Rattle.polyhedra.specs.Sparse.{Entry, dense}
use Rattle.tableaux.specs.Table.{Table, System, IsSystem, row_of, at, listed, table_of, equation_count, right_column, second_cost}
use Rattle.tableaux.specs.Dictionary.{basic_column, IsChanged}
use Rattle.tableaux.specs.Exchange.{IsSameBut}
use Rattle.tableaux.specs.Phases.{AreIdle}
use Rattle.tableaux.specs.Simplex.{IsFeasibleAt}
use Rattle.tableaux.proofs.Entries.{table-long}
use Rattle.tableaux.proofs.Places.{row-wide}
use Rattle.lin_rows.specs.declared.system.System.{System as Program}
use Rattle.lin_rows.specs.Tableau.{Dictionary, replace}
use Rattle.exact_simplex.specs.GoingOn.{CanGoOn, HasSameEquations, IsCostLine, IsTableFor, second_row}
use Rattle.exact_simplex.specs.Program.{IsFeasible, IsIdle, IsTableauOf}
use Rattle.lin_rows.specs.System.{HasLengths, system_of}
use Rattle.exact_simplex.proofs.AnotherCost.{other, other_width, other_wide, other_feasible, other_idle}
use Rattle.exact_simplex.proofs.ClearingCost.{entry_dense}
use Rattle.exact_simplex.proofs.Pivots.{rows_many}
use Rattle.exact_simplex.proofs.Programs.{system_ok, equation_count_is}

module _ {F : Type 0} (value : F → ℚ) (before p : Program F) (lengths : HasLengths before) (own : HasLengths p) (same : HasSameEquations before p) where
  abbrev pub s : System
  s = system_of value before

  pub ok : IsSystem s
  ok = system_ok value before lengths

  abbrev pub cost : List ℚ
  cost = map value p.cost

  pub many : length cost ≡ length s.cost
  many = length-map p.cost value ∙ own.cost ∙ sym same.cols ∙ sym lengths.cost ∙ sym (length-map before.cost value)

  abbrev equations_in : ℕ → ℕ → List F → Table
  equations_in rows cols a = listed rows (λ i. map value (slice_range a ((i - 1) * cols) ((i - 1) * cols + cols)))

  pub next_system : system_of value p ≡ other s ok cost many
  next_system =
      let equations : (system_of value p).equations ≡ s.equations =
      ap (λ r. equations_in r p.cols p.a) (sym same.rows) ∙ ap (λ c. equations_in before.rows c p.a) (sym same.cols) ∙ ap (equations_in before.rows before.cols) (sym same.coefficients) in
      let right : (system_of value p).right ≡ s.right = ap (map value) (sym same.right) in
      ap (λ e. record { equations = e; right = map value p.b; cost = cost }) equations ∙ ap (λ r. record { equations = s.equations; right = r; cost = cost }) right

  abbrev pub n : ℕ
  n = right_column s

  abbrev pub original : List ℚ
  original = row_of (table_of (other s ok cost many)) (second_cost s)

  pub second_row_is : second_row value p ≡ original
  second_row_is = ap (λ x. row_of (table_of x) (second_cost x)) next_system

  pub original_wide : length original ≡ n
  original_wide = row-wide n (table_of (other s ok cost many)) (second_cost s) (other_wide s ok cost many) (omega arith) (omega (arith, table-long (other s ok cost many) (system_after)))
    where
      system_after : IsSystem (other s ok cost many)
      system_after = subst IsSystem next_system (system_ok value p own)

  pub width_is : right_column (system_of value p) ≡ n
  width_is = ap right_column next_system ∙ other_width s ok cost many

  module _ (t : Dictionary) (h : CanGoOn value before t) (t' : Dictionary) (es : List Entry) (is : t' ≡ replace t (before.rows + 1) (dense t.width es))
      (cleared : IsCostLine s (second_row value p) t.basis es) where
    abbrev place : ℕ
    place = before.rows + 1

    place_is : place + 1 ≡ second_cost s
    place_is = omega (arith, equation_count_is value before lengths)

    abbrev d : Table
    d = t.table

    abbrev e : Table
    e = t'.table

    inside : place < length d
    inside = omega (arith, rows_many value s ok t h.feasible.held, equation_count_is value before lengths)

    basis : t'.basis ≡ t.basis
    basis = ap (λ (x : Dictionary). x.basis) is

    e_is : e ≡ slice_set d place (dense n es)
    e_is = ap (λ (x : Dictionary). x.table) is ∙ ap (λ w. slice_set d place (dense w es)) h.feasible.held.width

    after : IsSameBut (second_cost s) d e
    after = record {
      one_each = ap length e_is ∙ length-set d place (dense n es);
      others = λ i l o. ap (λ (x : Table). row_of x i) e_is ∙ get_or-set_other d place (i - 1) (dense n es) [] (λ q. o (omega (arith, q, l, place_is)));
    }

    row_is_line : row_of e (second_cost s) ≡ dense n es
    row_is_line =
        let back : second_cost s - 1 ≡ place = omega (arith, place_is) in
        ap (λ (x : Table). row_of x (second_cost s)) e_is ∙ ap (λ k. slice_index_or (slice_set d place (dense n es)) k []) back ∙ get_or-set_same d place (dense n es) [] inside

    changed : IsChanged n (table_of s) t.basis original (row_of e (second_cost s))
    changed =
        subst (λ (x : List ℚ). IsChanged n (table_of s) t.basis x (row_of e (second_cost s))) second_row_is
        (subst (λ (x : List ℚ). IsChanged n (table_of s) t.basis (second_row value p) x) (sym row_is_line) cleared.changed)

    clear : (k : ℕ) → 1 ≤ k → k ≤ equation_count s → at e (second_cost s) (basic_column t.basis k) ≡ zero_ℚ
    clear k l u =
        let some : basic_column t.basis k ≢ 0 = h.feasible.feasible.full.full k l u in
        let within : basic_column t.basis k < n = h.feasible.held.dictionary.columns.within k l in
        ap (λ v. entry v (basic_column t.basis k)) row_is_line
        ∙ entry_dense n es (basic_column t.basis k) cleared.rises (omega (arith, some)) (omega (arith, within)) ∙ cleared.clear k l u

    abbrev next : System
    next = other s ok cost many

    feasible_next : IsFeasibleAt next t.basis e
    feasible_next = other_feasible s ok cost many t.basis d e h.feasible.held.dictionary after changed clear h.feasible.feasible

    feasible_now : IsFeasibleAt next t'.basis e
    feasible_now = subst (λ (b : List ℕ). IsFeasibleAt next b e) (sym basis) feasible_next

    idle_now : IsIdle next t'
    idle_now =
        subst (λ (b : List ℕ). AreIdle next b e) (sym basis)
        (other_idle s ok cost many t.basis d e h.feasible.held.dictionary after changed clear h.idle)

    held_now : IsTableauOf next t'
    held_now = record {
      width = ap (λ (x : Dictionary). x.width) is ∙ h.feasible.held.width ∙ sym (other_width s ok cost many);
      one_each = ap length basis ∙ h.feasible.held.one_each ∙ sym after.one_each;
      dictionary = feasible_now.full.dictionary;
    }

    pub goes_on : CanGoOn value p t'
    goes_on = record {
      lengths = own;
      feasible = subst (λ (x : System). IsFeasible x t') (sym next_system) (record { held = held_now; feasible = feasible_now });
      idle = subst (λ (x : System). IsIdle x t') (sym next_system) idle_now;
    }

-- a table of a program with the same equations
pub table_for : {F : Type 0} (value : F → ℚ) (before p : Program F) (t : Option Dictionary) → HasSameEquations before p →
    MatchOption t ⊤ (CanGoOn value before) → MatchOption t ⊤ (IsTableFor value p)
table_for value before p None same on = tt
table_for value before p (Some t) same on = record { before = before; from = record { on = on; same = same } }
