-- The problems that are made. But for both, their columns are z, then those of the parts, then for a
-- join the two multipliers; their rows are z's equations, then those of the parts. Each has one
-- objective without entries.
use Rattle.std.specs.Prelude.{◌≡◌, ◌≤◌, ℕ, suc, ◌+◌, ◌==◌, List, [], ◌∷◌, ◌++◌, map, length, filter, replicate, if◌then◌else◌, None}
use Rattle.std.specs.List.{flat_map}
use Rattle.exact_field.specs.Rational.{ℚ, zero_ℚ, one_ℚ, neg_ℚ}
use Rattle.frac128.specs.Sparse.{is_zero}
use Rattle.polyhedra.specs.Inequality.{Inequality}
use Rattle.projection.specs.Associated.{cell}
use Rattle.vlp_problem.specs.Sides.{numbers_from, sides}
use Rattle.vlp_problem.specs.declared.problem.Bound.{Bound}
use Rattle.vlp_problem.specs.declared.problem.Bound.TheVariants.{Free, Lower, Fixed}
use Rattle.vlp_problem.specs.declared.problem.Cell.{Cell}
use Rattle.vlp_problem.specs.declared.problem.Cone.TheVariants.{Orthant}
use Rattle.vlp_problem.specs.declared.problem.Dir.TheVariants.{Min}
use Rattle.vlp_problem.specs.declared.problem.Problem.{Problem}

-- ---- parts of a matrix
-- cells so many rows and columns further on
abbrev pub moved : ℕ → ℕ → List Cell → List Cell
moved rows cols cells = map (λ c. cell (c.row + rows) (c.col + cols) c.value) cells

-- a unit matrix of n rows, after so many rows
abbrev pub unit_cells : ℕ → ℕ → List Cell
unit_cells rows n = map (λ j. cell (rows + j) j one_ℚ) (numbers_from 1 n)

-- the negatives of the cells in a row, so many columns further on
abbrev pub negated_row : (row cols : ℕ) → List Cell → List Cell
negated_row row cols cells =
    map (λ c. cell row (cols + c.col) (neg_ℚ c.value)) (filter (λ c. c.row == row) cells)

-- the entries of a vector that are not 0, in one row, from a column on
abbrev pub row_cells : (row col : ℕ) → List ℚ → List Cell
row_cells row col [] = []
row_cells row col (x ∷ v) =
    if is_zero x then row_cells row (suc col) v else cell row col x ∷ row_cells row (suc col) v

-- places whose numbers are small enough to be added to
pub record IsNear (c : Cell) : Type 0 where
  pub row : c.row ≤ 100000
  pub col : c.col ≤ 100000

-- ---- what all have in common
-- a problem of these sizes, entries and bounds, which minimises one objective without entries
pub record IsMade (made : Problem) (row_count col_count : ℕ) (cells : List Cell)
    (of_rows of_cols : List Bound) : Type 0 where
  pub dir : made.dir ≡ Min
  pub rows : made.rows ≡ row_count
  pub cols : made.cols ≡ col_count
  pub objs : made.objs ≡ 1
  pub a : made.a ≡ cells
  pub o : made.o ≡ []
  pub row_bounds : made.row_bounds ≡ of_rows
  pub col_bounds : made.col_bounds ≡ of_cols
  pub cone : made.cone ≡ Orthant
  pub duality : made.duality ≡ None

-- ---- both: the first file's rows and columns, the second's rows, and the bounds of its columns as
-- rows
abbrev pub meet_cells : Problem → Problem → List Cell
meet_cells a b = a.a ++ (moved a.rows 0 b.a ++ unit_cells (a.rows + b.rows) b.cols)

-- the problem for what is feasible for both
abbrev pub IsMeet : Problem → Problem → Problem → Type 0
IsMeet a b made =
    IsMade made (a.rows + b.rows + b.cols) a.cols (meet_cells a b)
    (a.row_bounds ++ (b.row_bounds ++ b.col_bounds))
    a.col_bounds

-- ---- image: z - P x = 0
-- row i of this, by objective i of the file
abbrev pub value_row : Problem → ℕ → List Cell
value_row a i = cell i i one_ℚ ∷ negated_row i a.objs a.o

-- the entries of its matrix: these rows, and then those of the file
abbrev pub map_cells : Problem → List Cell
map_cells a = flat_map (value_row a) (numbers_from 1 a.objs) ++ moved a.objs a.objs a.a

-- the problem for the image of the feasible set under the objectives
abbrev pub IsMap : Problem → Problem → Type 0
IsMap a made =
    IsMade made (a.objs + a.rows) (a.objs + a.cols) (map_cells a)
    (replicate a.objs (Fixed zero_ℚ) ++ a.row_bounds)
    (replicate a.objs Free ++ a.col_bounds)

-- ---- sum: z - x - y = 0
-- row i of this, where z, x and y have n entries each
abbrev pub sum_row : ℕ → ℕ → List Cell
sum_row n i =
    cell i i one_ℚ
    ∷ cell i (n + i) (neg_ℚ one_ℚ)
    ∷ cell i (n + n + i) (neg_ℚ one_ℚ)
    ∷ []

-- the entries of its matrix: these rows, and then those of both files
abbrev pub sum_cells : Problem → Problem → List Cell
sum_cells a b =
    flat_map (sum_row a.cols) (numbers_from 1 a.cols)
    ++ (moved a.cols a.cols a.a ++ moved (a.cols + a.rows) (a.cols + a.cols) b.a)

-- the problem for the sums of a feasible vector of each
abbrev pub IsSum : Problem → Problem → Problem → Type 0
IsSum a b made =
    IsMade made (a.cols + a.rows + b.rows) (a.cols + a.cols + a.cols) (sum_cells a b)
    (replicate a.cols (Fixed zero_ℚ) ++ (a.row_bounds ++ b.row_bounds))
    (replicate a.cols Free ++ (a.col_bounds ++ b.col_bounds))

-- ---- join: z - x - y = 0, k + l = 1, normal . x - bound k ≥ 0 for each side of the first part, and
-- the same for the second with y and l
-- the row of a side: the normal from a column on, and the bound's negative at the multiplier
abbrev pub side_row : (row col multiplier : ℕ) → Inequality → List Cell
side_row row col multiplier side =
    row_cells row col side.normal ++ row_cells row multiplier (neg_ℚ side.bound ∷ [])

-- those of all sides, from a row on
abbrev pub side_rows : (row col multiplier : ℕ) → List Inequality → List Cell
side_rows row col multiplier [] = []
side_rows row col multiplier (side ∷ more) =
    side_row row col multiplier side ++ side_rows (suc row) col multiplier more

-- the row of k + l, where z, x and y have n entries each
abbrev pub weights_row : ℕ → List Cell
weights_row n = cell (n + 1) (n + n + n + 1) one_ℚ ∷ cell (n + 1) (n + n + n + 2) one_ℚ ∷ []

-- the entries of its matrix, where both parts have as many columns
abbrev pub join_cells : Problem → Problem → List Cell
join_cells a b =
    flat_map (sum_row a.cols) (numbers_from 1 a.cols)
    ++ (weights_row a.cols
    ++ (side_rows (a.cols + 2) (a.cols + 1) (a.cols + a.cols + a.cols + 1) (sides a)
    ++ side_rows (a.cols + 2 + length (sides a)) (a.cols + a.cols + 1)
    (a.cols + a.cols + a.cols + 2)
    (sides b)))

-- where the parts have so many columns, and so many sides
abbrev pub join_row_bounds : (cols first second : ℕ) → List Bound
join_row_bounds cols first second =
    replicate cols (Fixed zero_ℚ)
    ++ (Fixed one_ℚ ∷ (replicate first (Lower zero_ℚ) ++ replicate second (Lower zero_ℚ)))

-- z, x and y are free, and k and l are at least 0
abbrev pub join_col_bounds : ℕ → List Bound
join_col_bounds cols = replicate (cols + cols + cols) Free ++ (Lower zero_ℚ ∷ Lower zero_ℚ ∷ [])

-- the problem for the closed convex hull of both feasible sets
abbrev pub IsJoin : Problem → Problem → Problem → Type 0
IsJoin a b made =
    IsMade made (a.cols + 1 + length (sides a) + length (sides b)) (a.cols + a.cols + a.cols + 2)
    (join_cells a b)
    (join_row_bounds a.cols (length (sides a)) (length (sides b)))
    (join_col_bounds a.cols)
