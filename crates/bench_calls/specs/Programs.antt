-- Linear programs in whole numbers, and how they end.
use Rattle.std.specs.Prelude.{ℕ, ℤ, List, map}
use Rattle.exact_field.specs.Rational.{ℚ, whole}
use Rattle.tableaux.specs.Simplex.{IsOptimal, IsInfeasible, IsUnbounded}
use Rattle.tableaux.specs.Table.{System}
use Rattle.lin_rows.specs.declared.system.System.{System as Program}
use Rattle.lin_rows.specs.System.{system_of}

-- the program of these lists
abbrev pub program_of : ℕ → ℕ → List ℤ → List ℤ → List ℤ → Program ℚ
program_of rows cols a b cost = record { rows = rows; cols = cols; a = map whole a; b = map whole b; cost = map whole cost }

-- its equations and cost
abbrev pub equations_of : Program ℚ → System
equations_of p = system_of (λ q. q) p

-- some solution has the greatest cost
abbrev pub HasOptimum : Program ℚ → Type 0
HasOptimum p = (x : List ℚ) × (dual : List ℚ) × IsOptimal (equations_of p) x dual

-- multipliers show that there is no solution
abbrev pub HasNoSolution : Program ℚ → Type 0
HasNoSolution p = (farkas : List ℚ) × IsInfeasible (equations_of p) farkas

-- the cost grows without end
abbrev pub HasNoBound : Program ℚ → Type 0
HasNoBound p = (x : List ℚ) × (ray : List ℚ) × IsUnbounded (equations_of p) x ray
