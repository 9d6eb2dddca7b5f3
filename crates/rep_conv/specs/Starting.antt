-- The generators of a `start` entry, and sets of rows in use, as the checker makes them.
use Rattle.std.specs.Prelude.{◌≡◌, ℕ, suc, ◌<◌, Bool, List, length}
use Rattle.exact_field.specs.Rational.{ℚ}
use Rattle.incid_sets.specs.Marks.{has, IsAllBut}
use Rattle.log_rules.specs.Live.{contains}
use Rattle.log_live.specs.declared.generator.Generator.{Generator}

-- the generator with this vector stands at this place, and of so many rows that of its place alone
-- is not tight at it
pub record IsFirst (count place : ℕ) (v : List ℚ) (g : Generator) : Type 0 where
  pub number : g.number ≡ suc place
  pub vector : g.vector ≡ v
  pub tight : IsAllBut count place g.tight

-- the set has the listed ones of the numbers below the bound
pub record IsSetOf (bound : ℕ) (ks : List ℕ) (marks : List Bool) : Type 0 where
  pub bounded : length marks ≡ bound
  pub each : (k : ℕ) → k < bound → has marks k ≡ contains ks k
