-- What the phases hand on.
use Rattle.std.proofs.Common.{◌≡◌, ℕ, subst, arith, ◌≤◌, ◌+◌, ◌-◌, None, Some}
use Rattle.exact_field.specs.Rational.{ℚ, zero_ℚ, ◌≤ℚ◌, ◌<ℚ◌}
use Rattle.tableaux.specs.Table.{System, IsSystem, at, equation_count, unknown_count, right_column, first_cost}
use Rattle.tableaux.specs.Dictionary.{IsFullDictionaryOf}
use Rattle.tableaux.specs.Simplex.{IsBest}
use Rattle.tableaux.proofs.Phases.{phase_limited, phase_feasible}
use Rattle.lin_rows.specs.Tableau.{Dictionary}
use Rattle.exact_simplex.specs.Phase.{IsPhaseEnd}
use Rattle.exact_simplex.specs.Program.{IsFeasible, IsIdle, IsPrimal}

module _ {F : Type 0} (value : F → ℚ) (s : System) (ok : IsSystem s) (t : Dictionary) where
  full_dictionary : IsPrimal s t → IsFullDictionaryOf s t.basis t.table
  full_dictionary h = record { dictionary = h.held.dictionary; full = h.full }

  -- phase one is never unlimited
  pub phase_one_limited : IsPrimal s t → (cost c : ℕ) → cost ≡ equation_count s → IsPhaseEnd (equation_count s) cost (unknown_count s) t.table (Some c) → ⊥
  phase_one_limited h cost c e end =
      let row : cost + 1 ≡ first_cost s = omega (arith, e) in
      phase_limited s ok t.basis t.table (full_dictionary h) c end.0 end.1 (subst (λ (r : ℕ). at t.table r c <ℚ zero_ℚ) row end.2)
      (λ i l u. let back : i - 1 + 1 ≡ i = omega arith in subst (λ (k : ℕ). at t.table k c ≤ℚ zero_ℚ) back (end.3 (i - 1) (omega arith)))

  pub phase_best : (cost row : ℕ) → cost + 1 ≡ row → IsPhaseEnd (equation_count s) cost (unknown_count s) t.table None → IsBest s row t.table
  phase_best cost row e end = subst (λ (r : ℕ). IsBest s r t.table) e end

  pub primal_feasible : IsPrimal s t → zero_ℚ ≤ℚ at t.table (first_cost s) (right_column s) → IsFeasible s t
  primal_feasible h up = record { held = h.held; feasible = phase_feasible s ok t.basis t.table (full_dictionary h) h.right up }

  pub feasible_primal : IsFeasible s t → IsPrimal s t
  feasible_primal h = record { held = h.held; full = h.feasible.full.full; right = h.feasible.right }

  pub idle_feasible : IsPrimal s t → IsIdle s t → IsFeasible s t
  idle_feasible h idle = record { held = h.held; feasible = record { full = full_dictionary h; right = h.right; artificial = idle.right } }

  pub without_limit : (cost c : ℕ) → cost ≡ equation_count s + 1 → IsPhaseEnd (equation_count s) cost (unknown_count s) t.table (Some c) →
      (i : ℕ) → 1 ≤ i → i ≤ equation_count s → at t.table i c ≤ℚ zero_ℚ
  without_limit cost c e end i l u = let back : i - 1 + 1 ≡ i = omega arith in subst (λ (k : ℕ). at t.table k c ≤ℚ zero_ℚ) back (end.3 (i - 1) (omega arith))
