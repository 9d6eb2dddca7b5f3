-- The entries of objectives as they are drawn. For the clauses of the code alone.
use Rattle.std.specs.Prelude.{◌≡◌, ℕ, zero, suc, ◌+◌, ◌-◌, ◌*◌, ◌≤◌, if◌then◌else◌, List, [], ◌∷◌, ◌++◌, IsTrue}
use Rattle.exact_field.specs.Rational.{ℚ, whole}
use Rattle.frac128.specs.Sparse.{is_zero}
use Rattle.vlp_problem.specs.Cells.{are_cells, coefficient}
use Rattle.vlp_problem.specs.declared.problem.Cell.{Cell}
use Rattle.replies.specs.Draws.{state_after, draw}

-- the cell of a place, where its value is not 0
abbrev pub drawn : (row col : ℕ) → ℚ → List Cell
drawn row col value = if is_zero value then [] else record { row = row; col = col; value = value } ∷ []

-- the cells of a row's first columns, from the draws after a state
abbrev pub drawn_row : (state row cols : ℕ) → List Cell
drawn_row state row zero = []
drawn_row state row (suc cols) = drawn_row state row cols ++ drawn row (suc cols) (whole (draw (state_after state (suc cols))))

-- the cells are those of a matrix of three rows, and the draws of a number, row by row, its entries
pub record HasDraws (number cols : ℕ) (cells : List Cell) : Type 0 where
  pub are_cells : IsTrue (are_cells 3 cols cells)
  pub entries : (i j : ℕ) → 1 ≤ i → i ≤ 3 → 1 ≤ j → j ≤ cols → coefficient cells i j ≡ whole (draw (state_after number ((i - 1) * cols + j)))
