-- A linear program in equations, as its lists give it.
use Rattle.std.specs.Prelude.{ℕ, ◌+◌, ◌-◌, ◌*◌, ◌≡◌, List, map, length, slice_range}
use Rattle.exact_field.specs.Rational.{ℚ}
use Rattle.tableaux.specs.Table.{System, listed}
use Rattle.lin_rows.specs.declared.system.System.{System as Program}

-- the lists of a program have the lengths that its numbers of rows and columns say
pub record HasLengths {F : Type 0} (p : Program F) : Type 0 where
  pub coefficients : length p.a ≡ p.rows * p.cols
  pub right : length p.b ≡ p.rows
  pub cost : length p.cost ≡ p.cols

-- the coefficients of equation i
abbrev pub coefficients_of : {F : Type 0} → Program F → ℕ → List F
coefficients_of p i = slice_range p.a ((i - 1) * p.cols) ((i - 1) * p.cols + p.cols)

-- the program in numbers
abbrev pub system_of : {F : Type 0} → (F → ℚ) → Program F → System
system_of value p = record { equations = listed p.rows (λ i. map value (coefficients_of p i)); right = map value p.b; cost = map value p.cost }
