-- The sample file of a number.
use Rattle.std.specs.Prelude.{◌≡◌, ℕ, ◌+◌, ◌-◌, ◌*◌, ◌%◌, ◌≤◌, List, [], replicate, None}
use Rattle.exact_field.specs.Rational.{zero_ℚ, one_ℚ, whole}
use Rattle.vlp_problem.specs.Cells.{coefficient}
use Rattle.vlp_reader.specs.FirstFault.{Reads}
use Rattle.vlp_problem.specs.declared.problem.Problem.{Problem}
use Rattle.vlp_problem.specs.declared.problem.Bound.TheVariants.{Double}
use Rattle.vlp_problem.specs.declared.problem.Cone.TheVariants.{Orthant}
use Rattle.vlp_problem.specs.declared.problem.Dir.TheVariants.{Min}
use Rattle.vlp_printer.specs.Printing.{problem_text}
use Rattle.replies.specs.Draws.{state_after, draw}

-- how many columns it has
abbrev pub sample_cols : ℕ → ℕ
sample_cols number = 8 + number % 17

-- it minimises three objectives over the box of all points with entries from 0 to 1, for the orthant as ordering cone; the draws are
-- the entries of the objectives, those of the first from column to column, then those of the second, and of the third
pub record IsSample (number : ℕ) (file : Problem) : Type 0 where
  pub dir : file.dir ≡ Min
  pub rows : file.rows ≡ 0
  pub cols : file.cols ≡ sample_cols number
  pub objs : file.objs ≡ 3
  pub a : file.a ≡ []
  pub o : (i j : ℕ) → 1 ≤ i → i ≤ 3 → 1 ≤ j → j ≤ sample_cols number →
      coefficient file.o i j ≡ whole (draw (state_after number ((i - 1) * sample_cols number + j)))
  pub row_bounds : file.row_bounds ≡ []
  pub col_bounds : file.col_bounds ≡ replicate (sample_cols number) (Double zero_ℚ one_ℚ)
  pub cone : file.cone ≡ Orthant
  pub duality : file.duality ≡ None

-- the text of the sample file of a number, as which it reads
pub record IsSampleText (number : ℕ) (text : List ℕ) : Type 0 where
  pub file : Problem
  pub sample : IsSample number file
  pub printed : text ≡ problem_text file
  pub reads : Reads text file
