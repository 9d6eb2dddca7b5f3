-- The sizes of the problems that files give.
use Rattle.std.specs.Prelude.{ℕ, ◌≤◌}
use Rattle.vlp_problem.specs.declared.problem.Problem.{Problem}

-- at most a thousand rows and columns, and 20 objectives
pub record HasFileSizes (file : Problem) : Type 0 where
  pub rows : file.rows ≤ 1000
  pub cols : file.cols ≤ 1000
  pub objs : file.objs ≤ 20
