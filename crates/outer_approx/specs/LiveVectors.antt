-- The vectors of live generators, with zeros at the places of lines.
use Rattle.std.specs.Prelude.{◌≡◌, ℕ, Bool, List, length, All}
use Rattle.exact_field.specs.Rational.{ℚ, zero_ℚ, ◌≤ℚ◌}
use Rattle.exact_field.specs.Vector.{dot}
use Rattle.polyhedra.specs.Exactness.{homogenised}
use Rattle.deriv_log.specs.declared.entry.Entry.{Entry}
use Rattle.overflows.specs.Base.{IsLiveAfter, last_of}
use Rattle.outer_approx.specs.Standing.{rows_of_trail}
use Rattle.outer_approx.specs.Task.{Task}

-- the live generator of this number, as the trail has it: a point or a direction at which each row
-- in use is at least 0
pub record IsLiveVector (task : Task) (trail : List Entry) (g : ℕ) (full : List ℚ) : Type 0 where
  pub v : List ℚ
  pub t : Bool
  pub is : full ≡ homogenised v (last_of t)
  pub wide : length v ≡ task.file.objs
  pub live : IsLiveAfter task.file.objs trail (record { number = g; vector = full })
  pub within : All (λ row. zero_ℚ ≤ℚ dot row full) (rows_of_trail task trail)
