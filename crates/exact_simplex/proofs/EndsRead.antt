-- The ends that are read off a tableau, with the basis of the equations alone.
use Rattle.std.proofs.Common.{◌≡◌, ℕ, List, take, sym, ◌∙◌, subst, ◌≤◌}
use Rattle.exact_field.specs.Rational.{ℚ, zero_ℚ, ◌≤ℚ◌, ◌<ℚ◌}
use Rattle.tableaux.specs.Table.{Table, System, at, equation_count, unknown_count, right_column, first_cost, second_cost}
use Rattle.tableaux.specs.Dictionary.{solution, ray, multipliers, first_multipliers}
use Rattle.tableaux.specs.Simplex.{IsBest, OptimalAt, InfeasibleAt, UnboundedAt}
use Rattle.lin_rows.specs.Tableau.{Dictionary}
use Rattle.exact_simplex.specs.Program.{IsFeasible, IsPrimal, IsIdle}
use Rattle.exact_simplex.proofs.Shortened.{short_full, short_feasible, short_solution, short_ray, short_artificial}

module _ {F : Type 0} (value : F → ℚ) (s : System) (t : Dictionary) (b : List ℕ) (columns : b ≡ take (equation_count s) t.basis) where
  abbrev d : Table
  d = t.table

  pub infeasible_read : (y : List ℚ) → IsPrimal s t → IsBest s (first_cost s) d → at d (first_cost s) (right_column s) <ℚ zero_ℚ → y ≡ first_multipliers s d → InfeasibleAt s b d y
  infeasible_read y h best below y_is =
      subst (λ (x : List ℕ). InfeasibleAt s x d y) (sym columns)
      (record { full = short_full s t.basis d h.held.dictionary h.full; best = best; below = below; farkas_read = y_is })

  pub optimal_read : (x y : List ℚ) → IsFeasible s t → IsBest s (second_cost s) d → x ≡ solution s t.basis d → y ≡ multipliers s d → OptimalAt s b d x y
  optimal_read x y h best x_is y_is =
      subst (λ (c : List ℕ). OptimalAt s c d x y) (sym columns)
      (record {
        feasible = short_feasible s t.basis d h.held.dictionary h.feasible;
        best = best;
        x_read = x_is ∙ short_solution s t.basis d h.held.dictionary;
        dual_read = y_is;
      })

  pub unbounded_read : (x z : List ℚ) (col : ℕ) → IsFeasible s t → IsIdle s t → 1 ≤ col → col ≤ unknown_count s → at d (second_cost s) col <ℚ zero_ℚ →
      ((i : ℕ) → 1 ≤ i → i ≤ equation_count s → at d i col ≤ℚ zero_ℚ) → x ≡ solution s t.basis d → z ≡ ray s t.basis d col → UnboundedAt s b d col x z
  unbounded_read x z col h idle low high betters unlimited x_is z_is =
      subst (λ (c : List ℕ). UnboundedAt s c d col x z) (sym columns)
      (record {
        feasible = short_feasible s t.basis d h.held.dictionary h.feasible;
        from_one = low;
        unknown = high;
        betters = betters;
        unlimited = unlimited;
        artificial = λ i l u over. idle.unknown i col l u (short_artificial s t.basis d h.held.dictionary i l over) low high;
        x_read = x_is ∙ short_solution s t.basis d h.held.dictionary;
        along_read = z_is ∙ short_ray s t.basis d h.held.dictionary col;
      })
