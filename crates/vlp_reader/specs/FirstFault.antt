-- The first fault of a file, and the files without one.
use Rattle.std.specs.Prelude.{◌≡◌, ℕ, suc, ◌+◌, ◌<◌, ◌⊎◌, if◌then◌else◌, Bool, true, false, List, [], ◌∷◌, length, map, take, slice_index_or, Option, None, Some}
use Rattle.std.specs.List.{list_any}
use Rattle.vlp_reader.specs.Lines.{lines_of}
use Rattle.vlp_reader.specs.Statements.{statement_on}
use Rattle.vlp_reader.specs.Grammar.{line_fault, first_given, given_sizes, closing_fault, Gives}
use Rattle.vlp_reader.specs.declared.fault.FileKind.{FileKind}
use Rattle.vlp_problem.specs.declared.problem.Problem.{Problem}
use Rattle.vlp_reader.specs.declared.sizes.Sizes.{Sizes}
use Rattle.vlp_reader.specs.declared.statement.Statement.{Statement}
use Rattle.vlp_reader.specs.declared.statement.Statement.TheVariants.{End}

-- whether a statement ends the file
abbrev pub is_end : Statement → Bool
is_end End = true
is_end _ = false

-- whether a line is an `e` line
abbrev pub ends : List ℕ → Bool
ends line = is_end (statement_on line)

-- the lines up to and including the first `e` line
abbrev pub looked_at : List (List ℕ) → List (List ℕ)
looked_at [] = []
looked_at (line ∷ lines) = line ∷ (if ends line then [] else looked_at lines)

-- the lines of a file that are looked at
abbrev pub file_lines : List ℕ → List (List ℕ)
file_lines bytes = looked_at (lines_of bytes)

-- the first test that line n fails, counted from 0, after the lines before it
abbrev pub fault_at : List (List ℕ) → ℕ → Option FileKind
fault_at lines n = line_fault (map statement_on (take n lines)) (slice_index_or lines n [])

-- the first n lines have no fault
abbrev pub Passes : List (List ℕ) → ℕ → Type 0
Passes lines n = (k : ℕ) → k < n → fault_at lines k ≡ None

-- the first of the tests after the last line that lines fail
abbrev pub fault_after : List (List ℕ) → Option FileKind
fault_after lines = closing_fault (first_given given_sizes (map statement_on lines)) (map statement_on lines)

-- the number of the line that the tests after the last line name: that of the `e` line, or one more than the last
abbrev pub closing_line : List (List ℕ) → ℕ
closing_line lines = if list_any ends lines then length lines else length lines + 1

-- line number `line`, counted from 1, is the first with a fault
pub record FailsOnLine (lines : List (List ℕ)) (line : ℕ) (kind : FileKind) : Type 0 where
  pub place : ℕ
  pub number : line ≡ suc place
  pub within : place < length lines
  pub before : Passes lines place
  pub fails : fault_at lines place ≡ Some kind

-- no line has a fault, and this is the first test after the last line that fails
pub record FailsAfter (lines : List (List ℕ)) (line : ℕ) (kind : FileKind) : Type 0 where
  pub pass : Passes lines (length lines)
  pub fails : fault_after lines ≡ Some kind
  pub number : line ≡ closing_line lines

-- bytes have this first fault
abbrev pub FirstFault : List ℕ → ℕ → FileKind → Type 0
FirstFault bytes line kind = FailsOnLine (file_lines bytes) line kind ⊎ FailsAfter (file_lines bytes) line kind

-- no line of these fails a test, and neither do they after the last
pub record HasNoFault (lines : List (List ℕ)) : Type 0 where
  pub pass : Passes lines (length lines)
  pub closed : fault_after lines ≡ None

-- bytes read as this problem
pub record Reads (bytes : List ℕ) (problem : Problem) : Type 0 where
  pub sound : HasNoFault (file_lines bytes)
  pub sizes : Sizes
  pub given : first_given given_sizes (map statement_on (file_lines bytes)) ≡ Some sizes
  pub gives : Gives (map statement_on (file_lines bytes)) sizes problem
