-- Sets made of the feasible sets of two problems, or of one.
use Rattle.std.specs.Prelude.{◌≡◌, ◌↔◌, ℕ, List, map}
use Rattle.exact_field.specs.Rational.{ℚ, zero_ℚ, one_ℚ, ◌+ℚ◌, ◌≤ℚ◌}
use Rattle.polyhedra.specs.Vectors.{plus, scaled, values}
use Rattle.projection.specs.Associated.{IsInProjection}
use Rattle.vlp_problem.specs.Cells.{coefficient}
use Rattle.vlp_problem.specs.Sides.{numbers_from, IsFeasible, IsRecession}
use Rattle.vlp_problem.specs.declared.problem.Problem.{Problem}

-- z is feasible for both
pub record IsInBoth (a b : Problem) (z : List ℚ) : Type 0 where
  pub first : IsFeasible a z
  pub second : IsFeasible b z

-- z is a sum of a feasible vector of each
pub record IsInSum (a b : Problem) (z : List ℚ) : Type 0 where
  pub x : List ℚ
  pub y : List ℚ
  pub first : IsFeasible a x
  pub second : IsFeasible b y
  pub same : z ≡ plus x y

-- z is a mean of a feasible vector of each, and a direction of each:
-- k x + l y + r + t with k and l at least 0 and k + l = 1
pub record IsInJoin (a b : Problem) (z : List ℚ) : Type 0 where
  pub x : List ℚ
  pub y : List ℚ
  pub r : List ℚ
  pub t : List ℚ
  pub k : ℚ
  pub l : ℚ
  pub first : IsFeasible a x
  pub second : IsFeasible b y
  pub first_direction : IsRecession a r
  pub second_direction : IsRecession b t
  pub k_at_least_zero : zero_ℚ ≤ℚ k
  pub l_at_least_zero : zero_ℚ ≤ℚ l
  pub whole : k +ℚ l ≡ one_ℚ
  pub same : z ≡ plus (plus (scaled k x) (scaled l y)) (plus r t)

-- row i of the objectives, as the file gives it
abbrev pub objective_row : Problem → ℕ → List ℚ
objective_row file i = map (λ j. coefficient file.o i j) (numbers_from 1 file.cols)

-- the value of the objectives at x
abbrev pub objective_values : Problem → List ℚ → List ℚ
objective_values file x = values (map (objective_row file) (numbers_from 1 file.objs)) x

-- z is the objectives' value at a feasible vector
pub record IsInMap (a : Problem) (z : List ℚ) : Type 0 where
  pub x : List ℚ
  pub feasible : IsFeasible a x
  pub same : z ≡ objective_values a x

-- the projection of a problem's feasible set on its first n columns is the set
abbrev pub ProjectsTo : Problem → ℕ → (List ℚ → Type 0) → Type 0
ProjectsTo made n Set = (z : List ℚ) → IsInProjection made n z ↔ Set z

-- some vector is feasible
pub record HasFeasible (file : Problem) : Type 0 where
  pub choice : List ℚ
  pub feasible : IsFeasible file choice
