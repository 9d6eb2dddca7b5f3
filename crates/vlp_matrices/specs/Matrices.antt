-- What the matrices of a file are: its sides and its objectives, by rows and by columns.
use Rattle.std.specs.Prelude.{◌≡◌, ℕ, suc, ◌==◌, if◌then◌else◌, List, [], ◌∷◌, ◌++◌, map, length, All}
use Rattle.std.specs.List.{flat_map, zip}
use Rattle.exact_field.specs.Rational.{ℚ, one_ℚ}
use Rattle.frac128.specs.declared.vectors.Spot.{Spot}
use Rattle.upper_image.specs.Spots.{IsVector, dense}
use Rattle.upper_image.specs.UpperImage.{normals, objectives, objective_column, signed}
use Rattle.vlp_problem.specs.Sides.{sides, side_column, side_bounds, numbers_from}
use Rattle.vlp_problem.specs.declared.problem.Problem.{Problem}
use Rattle.vlp_problem.specs.declared.problem.Cell.{Cell}
use Rattle.vlp_problem.specs.declared.problem.Dir.{Dir}
use Rattle.vlp_problem.specs.declared.problem.Dir.TheVariants.{Min, Max}
use Rattle.vlp_problem.specs.declared.problem.Bound.{Bound}
use Rattle.vlp_problem.specs.declared.problem.Bound.TheVariants.{Unsaid, Free, Lower, Upper, Double, Fixed}
use Rattle.vlp_problem.specs.declared.problem.Axis.{Axis}
use Rattle.vlp_problem.specs.declared.problem.Axis.TheVariants.{Row, Column}
use Rattle.vlp_matrices.specs.declared.matrices.Matrices.{Matrices}

-- these sparse vectors of n entries stand for those vectors
pub record StandFor (n : ℕ) (lists : List (List Spot)) (vectors : List (List ℚ)) : Type 0 where
  pub sparse : All (IsVector n) lists
  pub stand : map (dense n) lists ≡ vectors

-- the matrices stand for the file: its sides and, in working coordinates, its objectives
pub record AreMatricesOf (file : Problem) (matrices : Matrices) : Type 0 where
  pub side_rows : StandFor file.cols matrices.sides.rows (normals file)
  pub side_columns : StandFor (length (sides file)) matrices.sides.columns (map (side_column file) (numbers_from 1 file.cols))
  pub bounds : matrices.bounds ≡ side_bounds file
  pub objective_rows : StandFor file.cols matrices.objectives.rows (objectives file)
  pub objective_columns : StandFor file.objs matrices.objectives.columns (map (objective_column file) (numbers_from 1 file.cols))

-- ---- matrices by their cells
-- the number of the row or of the column that a cell is in, and its place there
abbrev pub key_of : Axis → Cell → ℕ
key_of Row c = c.row
key_of Column c = c.col

abbrev pub place_of : Axis → Cell → ℕ
place_of Row c = c.col
place_of Column c = c.row

-- a cell's place and its value in working coordinates
abbrev pub spot_of : Axis → Dir → Cell → Spot
spot_of axis dir c = record { at = place_of axis c; value = signed dir c.value }

-- those of the cells in the row or column number k
abbrev pub spots_in : Axis → Dir → List Cell → ℕ → List Spot
spots_in axis dir [] k = []
spots_in axis dir (c ∷ cells) k = if key_of axis c == k then spot_of axis dir c ∷ spots_in axis dir cells k else spots_in axis dir cells k

-- the cells of row number k
abbrev pub row_cells : ℕ → List Spot → List Cell
row_cells k spots = map (λ s. record { row = k; col = s.at; value = s.value }) spots

-- the cells of rows, from row number k on
abbrev pub cells_from : ℕ → List (List Spot) → List Cell
cells_from k [] = []
cells_from k (r ∷ rows) = row_cells k r ++ cells_from (suc k) rows

-- a sparse vector times s
abbrev pub turned_spot : Dir → Spot → Spot
turned_spot dir s = record { at = s.at; value = signed dir s.value }

-- ---- the sides
-- the vectors of the sides of one bound of a sparse vector
abbrev pub side_spots : List Spot → Bound → List (List Spot)
side_spots v Unsaid = []
side_spots v Free = []
side_spots v (Lower low) = map (turned_spot Min) v ∷ []
side_spots v (Upper high) = map (turned_spot Max) v ∷ []
side_spots v (Double low high) = map (turned_spot Min) v ∷ map (turned_spot Max) v ∷ []
side_spots v (Fixed value) = map (turned_spot Min) v ∷ map (turned_spot Max) v ∷ []

-- the bounds of the sides of one bound
abbrev pub side_values : Bound → List ℚ
side_values Unsaid = []
side_values Free = []
side_values (Lower low) = signed Min low ∷ []
side_values (Upper high) = signed Max high ∷ []
side_values (Double low high) = signed Min low ∷ signed Max high ∷ []
side_values (Fixed value) = signed Min value ∷ signed Max value ∷ []

-- those of all bounds, each with its vector
abbrev pub all_side_spots : List (List Spot) → List Bound → List (List Spot)
all_side_spots vectors bounds = flat_map (λ p. side_spots p.0 p.1) (zip vectors bounds)

-- the unit vector with 1 at place j
abbrev pub unit_spots : ℕ → List Spot
unit_spots j = record { at = j; value = one_ℚ } ∷ []
