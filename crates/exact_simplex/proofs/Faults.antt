-- Answers by another fact: the fault of an elimination as that of a program, and an optimal end by what is known of its basis.
use Rattle.std.proofs.Common.{◌≡◌, ℕ, List, sym, subst, Bool}
use Rattle.exact_field.specs.Rational.{ℚ}
use Rattle.tableaux.specs.Table.{System}
use Rattle.lin_rows.specs.declared.fault.RowFault.{RowFault}
use Rattle.lin_rows.specs.declared.fault.RowFault.TheVariants.{Left, NoMemory}
use Rattle.exact_simplex.specs.declared.answer.LpFault.{LpFault}
use Rattle.exact_simplex.specs.declared.answer.LpEnd.{LpEnd}
use Rattle.exact_simplex.specs.declared.answer.LpEnd.TheVariants.{Optimal, Infeasible, Unbounded}
use Rattle.exact_simplex.specs.Hint.{IsOptimalEnd}
use Rattle.exact_simplex.specs.Ends.{IsSystemFault, IsLpFault}
use Rattle.exact_simplex.specs.Refused.{IsSameFault}

pub same_fault : {F : Type 0} (value : F → ℚ) (holds : ℚ → Bool) (s : System) (fault : RowFault F) (other : LpFault F) → IsSameFault fault other → IsSystemFault value holds s fault →
    IsLpFault value holds s other
same_fault value holds s (Left basis row col step left) other e stuck = subst (IsLpFault value holds s) (sym e) stuck
same_fault value holds s NoMemory other e stuck = subst (IsLpFault value holds s) (sym e) tt

pub optimal_with : {F : Type 0} (end : LpEnd F) (b : List ℕ) (P : List ℕ → Type 0) → P b → IsOptimalEnd (λ x. x ≡ b) end → IsOptimalEnd P end
optimal_with (Optimal x dual basis) b P h e = subst P (sym e) h
optimal_with (Infeasible farkas basis) b P h e = e
optimal_with (Unbounded x ray basis) b P h e = e
