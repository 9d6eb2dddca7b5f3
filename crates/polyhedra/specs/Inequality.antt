-- A linear inequality: the one record of a normal and a right-hand side, for sides of a feasible set, cuts and facets.
use Rattle.std.specs.Prelude.{List}
use Rattle.exact_field.specs.Rational.{ℚ}

-- the inequality normal . y ≥ bound
pub record Inequality : Type 0 where
  pub normal : List ℚ
  pub bound : ℚ
