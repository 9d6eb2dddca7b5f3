-- Small examples, each of which would fail if a definition were wrong.
use Rattle.std.specs.Prelude.{◌≡◌, pos, negsuc, [], ◌∷◌}
use Rattle.exact_field.specs.Rational.{ℚ, zero_ℚ, one_ℚ, whole}
use Rattle.polyhedra.specs.Examples.{wholes}
use Rattle.vlp_problem.specs.declared.problem.Bound.TheVariants.{Lower, Upper}
use Rattle.vlp_problem.specs.declared.problem.Problem.{Problem}
use Rattle.projection.specs.Associated.{Begins, IsInProjection, cell, associated_cells}

-- the number -1
abbrev pub minus_one : ℚ
minus_one = whole (negsuc 0)

-- (1, 2, 3) begins with (1, 2), and not with (1, 3); the objectives that are associated with the
-- first column, and with the first two
pub record AssociatedExample : Type 0 where
  pub begins : Begins 2 (wholes (pos 1 ∷ pos 2 ∷ pos 3 ∷ [])) (wholes (pos 1 ∷ pos 2 ∷ []))
  pub begins_not : Begins 2 (wholes (pos 1 ∷ pos 2 ∷ pos 3 ∷ [])) (wholes (pos 1 ∷ pos 3 ∷ [])) → ⊥
  pub one : associated_cells 1 ≡ cell 1 1 one_ℚ ∷ cell 2 1 minus_one ∷ []
  pub two : associated_cells 2
      ≡ cell 1 1 one_ℚ ∷ cell 2 2 one_ℚ ∷ cell 3 1 minus_one ∷ cell 3 2 minus_one ∷ []

-- a file says: x_1 + x_2 ≤ 1, and x_1, x_2 ≥ 0
pub record IsTriangle (file : Problem) : Type 0 where
  pub cols : file.cols ≡ 2
  pub a : file.a ≡ cell 1 1 one_ℚ ∷ cell 1 2 one_ℚ ∷ []
  pub row_bounds : file.row_bounds ≡ Upper one_ℚ ∷ []
  pub col_bounds : file.col_bounds ≡ Lower zero_ℚ ∷ Lower zero_ℚ ∷ []

-- its projection on the first column has 0 and 1, and not -1 or 2
pub record ProjectionExample : Type 0 where
  pub zero_in : (file : Problem) → IsTriangle file → IsInProjection file 1 (zero_ℚ ∷ [])
  pub one_in : (file : Problem) → IsTriangle file → IsInProjection file 1 (one_ℚ ∷ [])
  pub minus_one_out : (file : Problem) → IsTriangle file →
      IsInProjection file 1 (wholes (negsuc 0 ∷ [])) → ⊥
  pub two_out : (file : Problem) → IsTriangle file →
      IsInProjection file 1 (wholes (pos 2 ∷ [])) → ⊥
