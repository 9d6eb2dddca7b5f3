-- Matrices by their cells: the entries that are not 0, in rising order of row and column.
use Rattle.std.specs.Prelude.{ℕ, ◌==◌, Bool, true, not, ◌&&◌, ◌||◌, nat_lt, nat_le, if◌then◌else◌, List, [], ◌∷◌}
use Rattle.exact_field.specs.Rational.{ℚ, zero_ℚ}
use Rattle.frac128.specs.Sparse.{is_zero}
use Rattle.vlp_problem.specs.declared.problem.Cell.{Cell}

-- the places of a matrix, by row and then by column
abbrev pub place_before : (row col next_row next_col : ℕ) → Bool
place_before row col next_row next_col = nat_lt row next_row || row == next_row && nat_lt col next_col

-- whether cells rise by place, all after one
abbrev pub rises_after : (row col : ℕ) → List Cell → Bool
rises_after row col [] = true
rises_after row col (c ∷ cells) = place_before row col c.row c.col && rises_after c.row c.col cells

-- a place within the sizes, counted from 1
abbrev pub is_within : (rows cols row col : ℕ) → Bool
is_within rows cols row col = nat_lt 0 row && (nat_le row rows && (nat_lt 0 col && nat_le col cols))

-- whether cells lie within the sizes, rise after a place, and are not 0
abbrev pub cells_after : (rows cols row col : ℕ) → List Cell → Bool
cells_after rows cols row col [] = true
cells_after rows cols row col (c ∷ cells) =
    place_before row col c.row c.col && (is_within rows cols c.row c.col && (not (is_zero c.value) && cells_after rows cols c.row c.col cells))

-- whether cells are those of a matrix of these sizes
abbrev pub are_cells : (rows cols : ℕ) → List Cell → Bool
are_cells rows cols cells = cells_after rows cols 0 0 cells

-- the entry of the matrix at a place: that of its cell, or 0
abbrev pub coefficient : List Cell → (row col : ℕ) → ℚ
coefficient [] row col = zero_ℚ
coefficient (c ∷ cells) row col = if c.row == row && c.col == col then c.value else coefficient cells row col
