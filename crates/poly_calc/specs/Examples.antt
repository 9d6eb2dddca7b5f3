-- Small examples, each of which would fail if a definition were wrong.
use Rattle.std.specs.Prelude.{◌≡◌, pos, [], ◌∷◌}
use Rattle.exact_field.specs.Rational.{ℚ, zero_ℚ, one_ℚ, whole, fraction, neg_ℚ}
use Rattle.polyhedra.specs.Inequality.{Inequality}
use Rattle.projection.specs.Associated.{cell}
use Rattle.vlp_problem.specs.declared.problem.Bound.TheVariants.{Fixed, Free, Double, Lower}
use Rattle.vlp_problem.specs.declared.problem.Problem.{Problem}
use Rattle.poly_calc.specs.Made.{moved, unit_cells, negated_row, row_cells, sum_row, side_row, weights_row, join_row_bounds, join_col_bounds}
use Rattle.poly_calc.specs.Sets.{IsInBoth, IsInSum, IsInJoin, IsInMap}

-- -1, 2 and 3
abbrev pub minus_one : ℚ
minus_one = neg_ℚ one_ℚ

abbrev pub two : ℚ
two = whole (pos 2)

abbrev pub three : ℚ
three = whole (pos 3)

-- x_1 - x_3 ≥ 1, and the same with 0
abbrev pub at_least_one : Inequality
at_least_one = record { normal = one_ℚ ∷ zero_ℚ ∷ minus_one ∷ []; bound = one_ℚ }

abbrev pub at_least_zero : Inequality
at_least_zero = record { normal = one_ℚ ∷ zero_ℚ ∷ minus_one ∷ []; bound = zero_ℚ }

-- ---- parts of matrices
-- a cell moved two rows and one column; a unit matrix after one row; the negatives of the cells in
-- row 1, two columns further on; the entries of (1, 0, -1) from column 3 on; the first row of
-- z - x - y in the plane; the row of a side in columns 2 to 4, with its multiplier in column 6, and
-- that of a side with the bound 0; and, where z, x and y have one entry each, the row of k + l and the
-- bounds for two sides and one
pub record PartsExample : Type 0 where
  pub further : moved 2 1 (cell 1 1 two ∷ []) ≡ cell 3 2 two ∷ []
  pub units : unit_cells 1 2 ≡ cell 2 1 one_ℚ ∷ cell 3 2 one_ℚ ∷ []
  pub negatives : negated_row 1 2 (cell 1 1 two ∷ cell 1 3 one_ℚ ∷ cell 2 1 one_ℚ ∷ [])
      ≡ cell 1 3 (neg_ℚ two) ∷ cell 1 5 minus_one ∷ []
  pub entries : row_cells 2 3 (one_ℚ ∷ zero_ℚ ∷ minus_one ∷ [])
      ≡ cell 2 3 one_ℚ ∷ cell 2 5 minus_one ∷ []
  pub sum : sum_row 2 1 ≡ cell 1 1 one_ℚ ∷ cell 1 3 minus_one ∷ cell 1 5 minus_one ∷ []
  pub side : side_row 4 2 6 at_least_one
      ≡ cell 4 2 one_ℚ ∷ cell 4 4 minus_one ∷ cell 4 6 minus_one ∷ []
  pub without_bound : side_row 4 2 6 at_least_zero ≡ cell 4 2 one_ℚ ∷ cell 4 4 minus_one ∷ []
  pub weights : weights_row 1 ≡ cell 2 4 one_ℚ ∷ cell 2 5 one_ℚ ∷ []
  pub rows : join_row_bounds 1 2 1
      ≡ Fixed zero_ℚ ∷ Fixed one_ℚ ∷ Lower zero_ℚ ∷ Lower zero_ℚ ∷ Lower zero_ℚ ∷ []
  pub cols : join_col_bounds 1 ≡ Free ∷ Free ∷ Free ∷ Lower zero_ℚ ∷ Lower zero_ℚ ∷ []

-- ---- sets
-- a file says: low ≤ x ≤ high, and its objective is 2 x
pub record IsInterval (low high : ℚ) (file : Problem) : Type 0 where
  pub cols : file.cols ≡ 1
  pub objs : file.objs ≡ 1
  pub o : file.o ≡ cell 1 1 two ∷ []
  pub row_bounds : file.row_bounds ≡ []
  pub col_bounds : file.col_bounds ≡ Double low high ∷ []

-- of 0 ≤ x ≤ 1 and 1 ≤ x ≤ 2: 1 is in both, and 0 in the first alone; 3 is a sum, and 0 is none;
-- 3/2 lies in the join, and -1 does not; 2 is a value of the first objective, and 3 is none
pub record SetsExample (a b : Problem) : Type 0 where
  pub in_both : IsInBoth a b (one_ℚ ∷ [])
  pub not_in_both : IsInBoth a b (zero_ℚ ∷ []) → ⊥
  pub in_sum : IsInSum a b (three ∷ [])
  pub not_in_sum : IsInSum a b (zero_ℚ ∷ []) → ⊥
  pub in_join : IsInJoin a b (fraction (pos 3) 2 ∷ [])
  pub not_in_join : IsInJoin a b (minus_one ∷ []) → ⊥
  pub in_map : IsInMap a (two ∷ [])
  pub not_in_map : IsInMap a (three ∷ []) → ⊥

-- so it is for these two intervals
abbrev pub IntervalsExample : Type 0
IntervalsExample =
    (a b : Problem) → IsInterval zero_ℚ one_ℚ a → IsInterval one_ℚ two b → SetsExample a b
