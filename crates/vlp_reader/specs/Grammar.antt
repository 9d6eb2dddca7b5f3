-- The grammar of files: the first test that a line fails, the tests after the last line, and the problem
-- that the lines give.
use Rattle.std.specs.Prelude.{◌≡◌, ℕ, ◌+◌, ◌==◌, Bool, true, false, not, ◌&&◌, ◌||◌, nat_lt, nat_le, if◌then◌else◌, List, [], ◌∷◌, length, map, count_by, Option, None, Some, is_some, unwrap_or, Result, Ok, Err}
use Rattle.std.specs.Option.{option_or}
use Rattle.std.specs.Str.{byte}
use Rattle.exact_field.specs.Rational.{ℚ, zero_ℚ}
use Rattle.vlp_problem.specs.Cells.{coefficient, is_within}
use Rattle.vlp_reader.specs.Lines.{words_of, letter}
use Rattle.vlp_problem.specs.Sides.{numbers_from}
use Rattle.vlp_reader.specs.Statements.{sizes_of, statement_of}
use Rattle.vlp_reader.specs.declared.fault.FileKind.{FileKind}
use Rattle.vlp_reader.specs.declared.fault.FileKind.TheVariants.{NoProblem, BadLine, OutOfRange, Twice, CountWrong, LimitPassed, LineLong}
use Rattle.vlp_problem.specs.declared.problem.Problem.{Problem}
use Rattle.vlp_problem.specs.declared.problem.Bound.{Bound}
use Rattle.vlp_problem.specs.declared.problem.Bound.TheVariants.{Unsaid}
use Rattle.vlp_problem.specs.declared.problem.Cone.{Cone}
use Rattle.vlp_problem.specs.declared.problem.Cone.TheVariants.{Orthant, Gens, Dual}
use Rattle.vlp_reader.specs.declared.sizes.ConeSizes.{ConeSizes}
use Rattle.vlp_reader.specs.declared.sizes.Sizes.{Sizes}
use Rattle.vlp_reader.specs.declared.statement.Matrix.{Matrix}
use Rattle.vlp_reader.specs.declared.statement.Matrix.TheVariants.{Constraints, Objectives, ConeVectors, Duality}
use Rattle.vlp_problem.specs.declared.problem.Axis.{Axis}
use Rattle.vlp_problem.specs.declared.problem.Axis.TheVariants.{Row, Column}
use Rattle.vlp_reader.specs.declared.statement.Statement.{Statement}
use Rattle.vlp_reader.specs.declared.statement.Statement.TheVariants.{Heading, Entry, Limit}

-- ---- what statements give
-- the first answer to what f asks each of them
abbrev pub first_given : {A : Type 0} → (Statement → Option A) → List Statement → Option A
first_given f [] = None
first_given f (s ∷ statements) = option_or (f s) (first_given f statements)

-- whether two matrices are one
abbrev pub same_matrix : Matrix → Matrix → Bool
same_matrix Constraints Constraints = true
same_matrix Objectives Objectives = true
same_matrix ConeVectors ConeVectors = true
same_matrix Duality Duality = true
same_matrix _ _ = false

-- whether both are rows, or both columns
abbrev pub same_axis : Axis → Axis → Bool
same_axis Row Row = true
same_axis Column Column = true
same_axis _ _ = false

-- the sizes that a statement gives
abbrev pub given_sizes : Statement → Option Sizes
given_sizes (Heading s) = Some s
given_sizes _ = None

-- the number that a word means, and 0 where it means none
abbrev pub number_value : Result ℚ FileKind → ℚ
number_value (Ok q) = q
number_value (Err kind) = zero_ℚ

-- the value that a statement gives a place of a matrix
abbrev pub given_entry : Matrix → ℕ → ℕ → Statement → Option ℚ
given_entry m i j (Entry n row col number) = if same_matrix m n && (i == row && j == col) then Some (number_value number) else None
given_entry m i j _ = None

-- the bounds that words mean, and none where a number among them is wrong
abbrev pub bound_value : Result Bound FileKind → Bound
bound_value (Ok b) = b
bound_value (Err kind) = Unsaid

-- the bounds that a statement gives a row or column
abbrev pub given_bound : Axis → ℕ → Statement → Option Bound
given_bound axis k (Limit which n bound) = if same_axis axis which && k == n then Some (bound_value bound) else None
given_bound axis k _ = None

-- whether a statement gives an entry of a matrix
abbrev pub gives_entry : Matrix → Statement → Bool
gives_entry m (Entry n i j number) = same_matrix m n
gives_entry m _ = false

-- ---- the tests of a line
-- a test that must pass; `option_or` of several gives the first that fails
abbrev pub must : Bool → FileKind → Option FileKind
must passed kind = if passed then None else Some kind

-- what is wrong with what was read
abbrev pub wrong : {A : Type 0} → Result A FileKind → Option FileKind
wrong (Ok x) = None
wrong (Err kind) = Some kind

-- the sizes of a cone, and 0 where the file gives none
abbrev pub cone_count : Option ConeSizes → ℕ
cone_count None = 0
cone_count (Some c) = c.vectors

abbrev pub cone_entries : Option ConeSizes → ℕ
cone_entries None = 0
cone_entries (Some c) = c.entries

-- a cone that the file gives has at least one vector
abbrev pub some_vector : Option ConeSizes → Bool
some_vector None = true
some_vector (Some c) = nat_lt 0 c.vectors

-- whether no size is 0 but the number of rows
abbrev pub are_positive : Sizes → Bool
are_positive s = nat_lt 0 s.cols && (nat_lt 0 s.objs && some_vector s.cone)

-- whether the sizes are within the limits
abbrev pub are_within_limits : Sizes → Bool
are_within_limits s =
    nat_le s.rows 1000 && (nat_le s.cols 1000 && (nat_le s.objs 20 && (nat_le (cone_count s.cone) 64
    && nat_le (s.entries + s.obj_entries + cone_entries s.cone) 100000)))

-- the tests of the sizes
abbrev pub sizes_fault : Sizes → Option FileKind
sizes_fault s = option_or (must (are_positive s) OutOfRange) (must (are_within_limits s) LimitPassed)

-- the rows and the columns of a matrix
abbrev pub matrix_rows : Sizes → Matrix → ℕ
matrix_rows s Constraints = s.rows
matrix_rows s Objectives = s.objs
matrix_rows s ConeVectors = s.objs
matrix_rows s Duality = s.objs

abbrev pub matrix_cols : Sizes → Matrix → ℕ
matrix_cols s Constraints = s.cols
matrix_cols s Objectives = s.cols
matrix_cols s ConeVectors = cone_count s.cone
matrix_cols s Duality = 1

-- how many rows or columns there are
abbrev pub axis_length : Sizes → Axis → ℕ
axis_length s Row = s.rows
axis_length s Column = s.cols

-- the tests of an entry: its place is one of the matrix, its number is one, and no value was given to the place before
abbrev pub entry_fault : (rows cols i j : ℕ) → Result ℚ FileKind → Option ℚ → Option FileKind
entry_fault rows cols i j number before =
    option_or (must (is_within rows cols i j) OutOfRange) (option_or (wrong number) (must (not (is_some before)) Twice))

-- the tests of bounds, likewise
abbrev pub limit_fault : (count n : ℕ) → Result Bound FileKind → Option Bound → Option FileKind
limit_fault count n bound before =
    option_or (must (nat_lt 0 n && nat_le n count) OutOfRange) (option_or (wrong bound) (must (not (is_some before)) Twice))

-- the tests of a statement after these, under the sizes
abbrev pub statement_fault : List Statement → Sizes → Statement → Option FileKind
statement_fault earlier s (Entry m i j number) =
    entry_fault (matrix_rows s m) (matrix_cols s m) i j number (first_given (given_entry m i j) earlier)
statement_fault earlier s (Limit axis n bound) = limit_fault (axis_length s axis) n bound (first_given (given_bound axis n) earlier)
statement_fault earlier s (Heading t) = Some Twice
statement_fault earlier s _ = None

-- a line must have the form of its kind; then come other tests
abbrev pub formed : {A : Type 0} → Option A → (A → Option FileKind) → Option FileKind
formed None tests = Some BadLine
formed (Some x) tests = tests x

-- the letters of the kinds of lines that have tests
abbrev pub is_kind : ℕ → Bool
is_kind b = b == byte "p" || (b == byte "a" || (b == byte "o" || (b == byte "k" || (b == byte "i" || (b == byte "j" || b == byte "e")))))

-- the tests of a line of a kind, by the sizes that were given before it
abbrev pub kind_fault : List Statement → Option Sizes → ℕ → List (List ℕ) → Option FileKind
kind_fault earlier None kind words = if kind == byte "p" then formed (sizes_of words) sizes_fault else Some NoProblem
kind_fault earlier (Some s) kind words =
    if kind == byte "p" then Some Twice else formed (statement_of kind words) (statement_fault earlier s)

-- the first test that the words of a line fail; a blank line and a comment fail none
abbrev pub words_fault : List Statement → List (List ℕ) → Option FileKind
words_fault earlier [] = None
words_fault earlier (first ∷ words) =
    if letter first == byte "c" then None
    else if not (is_kind (letter first)) then Some BadLine
    else kind_fault earlier (first_given given_sizes earlier) (letter first) words

-- the first test that a line fails, where the lines before it say these statements
abbrev pub line_fault : List Statement → List ℕ → Option FileKind
line_fault earlier line = if nat_lt 4096 (length line) then Some LineLong else words_fault earlier (words_of line)

-- ---- the tests after the last line
-- whether as many entries of the cone are given as the sizes say, those of the duality vector counted with them or not
abbrev pub cone_counts : Option ConeSizes → List Statement → Bool
cone_counts None statements = true
cone_counts (Some c) statements =
    c.entries == count_by (gives_entry ConeVectors) statements
    || c.entries == count_by (gives_entry ConeVectors) statements + count_by (gives_entry Duality) statements

-- whether as many entries of each matrix are given as the sizes say
abbrev pub counts_fit : Sizes → List Statement → Bool
counts_fit s statements =
    s.entries == count_by (gives_entry Constraints) statements
    && (s.obj_entries == count_by (gives_entry Objectives) statements && cone_counts s.cone statements)

-- the tests after the last line: the sizes are given, and the numbers of entries are right
abbrev pub closing_fault : Option Sizes → List Statement → Option FileKind
closing_fault None statements = Some NoProblem
closing_fault (Some s) statements = must (counts_fit s statements) CountWrong

-- ---- the problem
-- the value that the statements give a place of a matrix: 0 where none does
abbrev pub value_at : List Statement → Matrix → ℕ → ℕ → ℚ
value_at statements m i j = unwrap_or (first_given (given_entry m i j) statements) zero_ℚ

-- the bounds that the statements give a row or column
abbrev pub bound_at : List Statement → Axis → ℕ → Bound
bound_at statements axis k = unwrap_or (first_given (given_bound axis k) statements) Unsaid

-- column j of a matrix of this many rows
abbrev pub column_of : List Statement → Matrix → ℕ → ℕ → List ℚ
column_of statements m rows j = map (λ i. value_at statements m i j) (numbers_from 1 rows)

-- the ordering cone, by the vectors that the statements give; the orthant where the sizes tell of
-- none
abbrev pub cone_of : List Statement → ℕ → Option ConeSizes → Cone
cone_of statements objs None = Orthant
cone_of statements objs (Some c) =
    let vectors = map (λ j. column_of statements ConeVectors objs j) (numbers_from 1 c.vectors) in
    if c.dual then Dual vectors else Gens vectors

-- the duality vector, if an entry of it is given
abbrev pub duality_of : List Statement → ℕ → Option (List ℚ)
duality_of statements objs =
    if count_by (gives_entry Duality) statements == 0 then None else Some (column_of statements Duality objs 1)

-- the problem that statements give under their sizes
pub record Gives (statements : List Statement) (s : Sizes) (problem : Problem) : Type 0 where
  pub dir : problem.dir ≡ s.dir
  pub rows : problem.rows ≡ s.rows
  pub cols : problem.cols ≡ s.cols
  pub objs : problem.objs ≡ s.objs
  pub a : (i j : ℕ) → coefficient problem.a i j ≡ value_at statements Constraints i j
  pub o : (i j : ℕ) → coefficient problem.o i j ≡ value_at statements Objectives i j
  pub row_bounds : problem.row_bounds ≡ map (bound_at statements Row) (numbers_from 1 s.rows)
  pub col_bounds : problem.col_bounds ≡ map (bound_at statements Column) (numbers_from 1 s.cols)
  pub cone : problem.cone ≡ cone_of statements s.objs s.cone
  pub duality : problem.duality ≡ duality_of statements s.objs
