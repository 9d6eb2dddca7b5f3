-- What stays of a program for the same equations with another cost.
use Rattle.std.specs.Prelude.{◌≡◌, List, map, IsSomeAnd}
use Rattle.exact_field.specs.Rational.{ℚ}
use Rattle.tableaux.specs.Table.{System, unknown_count}
use Rattle.exact_simplex.specs.declared.kept.Kept.{Kept}

-- two systems differ in their cost alone
pub record DifferInCost (one other : System) : Type 0 where
  pub equations : one.equations ≡ other.equations
  pub right : one.right ≡ other.right
  pub unknowns : unknown_count one ≡ unknown_count other

-- a program with the equations of this system is kept
abbrev pub IsKeptFor : {F : Type 0} → System → Kept F → Type 0
IsKeptFor s kept = IsSomeAnd kept.last (DifferInCost s)

-- .. and the system has this cost
pub record IsCosted {F : Type 0} (value : F → ℚ) (cost : List F) (kept : Kept F) (s : System) : Type 0 where
  pub same : IsKeptFor s kept
  pub is : map value cost ≡ s.cost
