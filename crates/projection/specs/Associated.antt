-- The projection of a problem's feasible set on its first columns, and the associated problem, whose
-- image has this projection as a slice.
use Rattle.std.specs.Prelude.{◌≡◌, ℕ, suc, List, ◌++◌, map, take, None}
use Rattle.exact_field.specs.Rational.{ℚ, one_ℚ, neg_ℚ}
use Rattle.vlp_problem.specs.Sides.{numbers_from, IsFeasible, IsRecession}
use Rattle.vlp_problem.specs.declared.problem.Cell.{Cell}
use Rattle.vlp_problem.specs.declared.problem.Cone.TheVariants.{Orthant}
use Rattle.vlp_problem.specs.declared.problem.Dir.TheVariants.{Min}
use Rattle.vlp_problem.specs.declared.problem.Problem.{Problem}

-- x begins with z, in its first k entries
abbrev pub Begins : ℕ → List ℚ → List ℚ → Type 0
Begins k x z = take k x ≡ z

-- z is in the projection of the feasible set on its first k columns: some feasible x begins with it
pub record IsInProjection (file : Problem) (k : ℕ) (z : List ℚ) : Type 0 where
  pub choice : List ℚ
  pub feasible : IsFeasible file choice
  pub begins : Begins k choice z

-- d begins a direction of the feasible set
pub record IsInProjectedRecession (file : Problem) (k : ℕ) (d : List ℚ) : Type 0 where
  pub choice : List ℚ
  pub recedes : IsRecession file choice
  pub begins : Begins k choice d

-- an entry of a matrix, by its row and its column
abbrev pub cell : ℕ → ℕ → ℚ → Cell
cell row col value = record { row = row; col = col; value = value }

-- the objectives: the first k columns, and minus their sum
abbrev pub associated_cells : ℕ → List Cell
associated_cells k =
    map (λ j. cell j j one_ℚ) (numbers_from 1 k)
    ++ map (λ j. cell (suc k) j (neg_ℚ one_ℚ)) (numbers_from 1 k)

-- the associated problem minimises them over the same feasible set, for the orthant, and gives no
-- duality vector
pub record IsAssociated (k : ℕ) (file made : Problem) : Type 0 where
  pub dir : made.dir ≡ Min
  pub rows : made.rows ≡ file.rows
  pub cols : made.cols ≡ file.cols
  pub objs : made.objs ≡ suc k
  pub a : made.a ≡ file.a
  pub o : made.o ≡ associated_cells k
  pub row_bounds : made.row_bounds ≡ file.row_bounds
  pub col_bounds : made.col_bounds ≡ file.col_bounds
  pub cone : made.cone ≡ Orthant
  pub duality : made.duality ≡ None
