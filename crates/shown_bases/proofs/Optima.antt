-- What passes the test is optimal, and is what the dictionary at the columns says.
use Rattle.std.proofs.Common.{◌≡◌, ℕ, suc, List, [], ◌∷◌, length, map, refl, sym, ap, ap₂, ◌∙◌, subst, arith, ◌<◌, ◌≤◌, ◌-◌, ◌+◌, slice_index_or}
use Rattle.std.proofs.lemmas.List.Elements.{All-get_or}
use Rattle.exact_field.specs.Rational.{ℚ, zero_ℚ, ◌≤ℚ◌}
use Rattle.exact_field.specs.Vector.{entry, dot}
use Rattle.polyhedra.specs.Vectors.{values, combination}
use Rattle.polyhedra.specs.Cone.{HasFullRank}
use Rattle.tableaux.specs.Chosen.{chosen, name_of, named}
use Rattle.tableaux.specs.Dictionary.{basic_column, value_of_column}
use Rattle.tableaux.specs.Optimum.{AreColumns, ArePrices, IsAllowed, IsSolved, beside_right, equation_table, equations_at, value_at}
use Rattle.tableaux.specs.Simplex.{BoundsColumns, OptimalAt}
use Rattle.tableaux.specs.Table.{Table, System, IsSystem, column_of, list_from, listed, equation_count, unknown_count, right_column}
use Rattle.tableaux.proofs.AddedRow.{long_more, more_last}
use Rattle.tableaux.proofs.Definition.{slice_eq}
use Rattle.tableaux.proofs.Ends.{ends_are_right}
use Rattle.tableaux.proofs.Optima.{optimum_read}
use Rattle.tableaux.proofs.Places.{length-list_from}
use Rattle.tableaux.proofs.Ties.{column_entry}
use Rattle.tableaux.proofs.Unique.{column-long}
use Rattle.shown_bases.specs.Laws.{AreValues, OptimumIsShown, vectors_at, in_order, spread}
use Rattle.shown_bases.specs.Orders.{Order, ShowsRank}
use Rattle.shown_bases.proofs.Solving.{chosen_column, multipliers_of, solved_row, solved_table, solved-entry, solved}
use Rattle.shown_bases.proofs.Whole.{full_rank, right_is as right_sides, shares_read}

next : (k : ℕ) → 1 + k - 1 ≡ k
next k = omega arith

-- a basis that names the columns in the order of their list is the list
named_in_order : (columns : List ℕ) (k : ℕ) (whole : List ℕ) → ((i : ℕ) → slice_index_or whole (k + i) 0 ≡ slice_index_or columns i 0) →
    map (name_of whole) (list_from (suc k) (length columns) (λ i. i)) ≡ columns
named_in_order [] k whole same = refl
named_in_order (c ∷ columns) k whole same =
    ap₂ (λ a b. a ∷ b) (ap (λ i. slice_index_or whole i 0) (let here : k ≡ k + 0 = omega arith in here) ∙ same 0)
    (named_in_order columns (suc k) whole (λ i. ap (λ j. slice_index_or whole j 0) (let there : suc k + i ≡ k + suc i = omega arith in there) ∙ same (suc i)))

module _ (s : System) (columns : List ℕ) (order : Order) (vs y : List ℚ) (ok : IsSystem s) (h : AreColumns s columns)
    (shown : ShowsRank (equation_count s) (vectors_at s columns) order) (good : AreValues s columns vs) (prices : ArePrices s columns y)
    (bounds : BoundsColumns s (entry s.cost) y) where
  abbrev m : ℕ
  m = equation_count s

  abbrev c : Table
  c = vectors_at s columns

  rank : HasFullRank m c
  rank = full_rank s columns order ok shown

  abbrev d : Table
  d = solved_table s columns ok h rank

  d_long : length d ≡ m
  d_long = length-list_from 1 m (solved_row s columns ok h rank)

  is_solved : IsSolved s columns (in_order m) d
  is_solved = solved s columns ok h rank

  named_same : named columns (in_order m) ≡ columns
  named_same = ap (λ k. map (name_of columns) (list_from 1 k (λ i. i))) (sym h.one_each) ∙ named_in_order columns 0 columns (λ i. ap (λ j. slice_index_or columns j 0) (let same : 0 + i ≡ i = omega arith in same))

  -- the values of the dictionary are those that are given
  right_is : column_of (chosen (beside_right s columns) (equation_table s)) (suc m) ≡ combination m vs c
  right_is =
      chosen_column (beside_right s columns) (equation_table s) (suc m) (omega arith) (omega (arith, long_more columns (right_column s), h.one_each))
      ∙ ap (equations_at s) (more_last columns (right_column s) 0 (suc m) (omega (arith, h.one_each)))
      ∙ right_sides s ok
      ∙ sym good.solve

  value_is : (i : ℕ) → 1 ≤ i → i ≤ m → value_at s d i ≡ entry vs i
  value_is i l u =
      solved-entry s columns ok h rank i (suc m) l u ∙ ap (dot (multipliers_of s columns ok h rank i)) right_is
      ∙ shares_read s columns ok h rank vs i l u

  allowed : IsAllowed s (named columns (in_order m)) d
  allowed = record {
    at_least_zero = λ i l u. subst (λ (q : ℚ). zero_ℚ ≤ℚ q) (sym (value_is i l u))
        (All-get_or (λ q. zero_ℚ ≤ℚ q) vs (i - 1) zero_ℚ (omega (arith, l, u, good.one_each, h.one_each)) good.at_least_zero);
    artificial = λ i l u over. value_is i l u
        ∙ good.artificial i l (omega (arith, u, h.one_each)) (subst (λ (b : List ℕ). unknown_count s < basic_column b i) named_same over);
  }

  values_are : column_of d (suc m) ≡ vs
  values_are =
      slice_eq (column_of d (suc m)) vs (column-long d (suc m) ∙ d_long ∙ sym (good.one_each ∙ h.one_each))
      (λ k l.
      let inside : k < m = omega (arith, l, column-long d (suc m), d_long) in
      column_entry d (suc m) k (omega (arith, inside, d_long)) ∙ ap (λ j. entry (slice_index_or d j []) (suc m)) (sym (next k))
      ∙ value_is (1 + k) (omega arith) (omega (arith, inside)) ∙ ap (λ j. slice_index_or vs j zero_ℚ) (next k))

  pub optimal_at : (whole : Table) × OptimalAt s columns whole (spread s columns vs) y
  optimal_at =
      subst (λ (b : List ℕ). (whole : Table) × OptimalAt s b whole (spread s columns vs) y) named_same
      (optimum_read s columns (in_order m) d (spread s columns vs) y ok h is_solved allowed prices bounds
      (ap₂ (λ b v. listed (unknown_count s) (value_of_column b v)) (sym named_same) (sym values_are)))

pub optimum_is_shown : OptimumIsShown
optimum_is_shown s columns order vs y ok h shown good prices bounds =
    let at = optimal_at s columns order vs y ok h shown good prices bounds in
    (ends_are_right.optimal s columns at.0 (spread s columns vs) y ok at.1, at)
