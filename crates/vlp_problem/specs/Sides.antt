-- The sides of a file: one inequality for each finite bound, and the sets of points that meet them.
use Rattle.std.specs.Prelude.{◌≡◌, ℕ, zero, suc, ◌==◌, if◌then◌else◌, Bool, true, false, List, [], ◌∷◌, ◌++◌, map, length, All}
use Rattle.exact_field.specs.Rational.{ℚ, zero_ℚ, one_ℚ, neg_ℚ, ◌≤ℚ◌}
use Rattle.exact_field.specs.Vector.{entry, dot}
use Rattle.polyhedra.specs.Inequality.{Inequality}
use Rattle.vlp_problem.specs.Cells.{coefficient}
use Rattle.vlp_problem.specs.declared.problem.Problem.{Problem}
use Rattle.vlp_problem.specs.declared.problem.Bound.{Bound}
use Rattle.vlp_problem.specs.declared.problem.Bound.TheVariants.{Unsaid, Free, Lower, Upper, Double, Fixed}

-- the numbers from k on, n of them
abbrev pub numbers_from : ℕ → ℕ → List ℕ
numbers_from k zero = []
numbers_from k (suc n) = k ∷ numbers_from (suc k) n

-- row i of the constraint matrix
abbrev pub row_vector : Problem → ℕ → List ℚ
row_vector file i = map (λ j. coefficient file.a i j) (numbers_from 1 file.cols)

-- the vector with 1 at place k, and 0 elsewhere
abbrev pub unit : ℕ → ℕ → List ℚ
unit n k = map (λ j. if j == k then one_ℚ else zero_ℚ) (numbers_from 1 n)

-- "v.x at least b", and "v.x at most b" as an inequality of the same form
abbrev pub at_least : List ℚ → ℚ → Inequality
at_least v b = record { normal = v; bound = b }

abbrev pub at_most : List ℚ → ℚ → Inequality
at_most v b = record { normal = map neg_ℚ v; bound = neg_ℚ b }

-- the sides of one bound, the lower one first
abbrev pub sides_of : List ℚ → Bound → List Inequality
sides_of v Unsaid = []
sides_of v Free = []
sides_of v (Lower low) = at_least v low ∷ []
sides_of v (Upper high) = at_most v high ∷ []
sides_of v (Double low high) = at_least v low ∷ at_most v high ∷ []
sides_of v (Fixed value) = at_least v value ∷ at_most v value ∷ []

-- how many sides a bound has
abbrev pub side_number : Bound → ℕ
side_number Unsaid = 0
side_number Free = 0
side_number (Lower low) = 1
side_number (Upper high) = 1
side_number (Double low high) = 2
side_number (Fixed value) = 2

-- the sides of bounds in their order, where v k is the vector of the bound number k
abbrev pub sides_from : (ℕ → List ℚ) → ℕ → List Bound → List Inequality
sides_from v k [] = []
sides_from v k (b ∷ bounds) = sides_of (v k) b ++ sides_from v (suc k) bounds

-- the sides of a file, those of the rows first
abbrev pub sides : Problem → List Inequality
sides file = sides_from (row_vector file) 1 file.row_bounds ++ sides_from (unit file.cols) 1 file.col_bounds

-- column j of the matrix of all normals, and the list of all bounds
abbrev pub side_column : Problem → ℕ → List ℚ
side_column file j = map (λ s. entry s.normal j) (sides file)

abbrev pub side_bounds : Problem → List ℚ
side_bounds file = map (λ s. s.bound) (sides file)

-- the feasible set: the points that meet each side
pub record IsFeasible (file : Problem) (x : List ℚ) : Type 0 where
  pub width : length x ≡ file.cols
  pub meets : All (λ s. s.bound ≤ℚ dot s.normal x) (sides file)

-- its recession cone: the directions in which no side falls
pub record IsRecession (file : Problem) (x : List ℚ) : Type 0 where
  pub width : length x ≡ file.cols
  pub meets : All (λ s. zero_ℚ ≤ℚ dot s.normal x) (sides file)

-- whether a row or column has no line of bounds
abbrev pub is_unsaid : Bound → Bool
is_unsaid Unsaid = true
is_unsaid Free = false
is_unsaid (Lower low) = false
is_unsaid (Upper high) = false
is_unsaid (Double low high) = false
is_unsaid (Fixed value) = false
