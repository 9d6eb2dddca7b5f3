-- What the commands do, and the files that they name.
use Rattle.std.specs.Prelude.{ℕ, List}

-- what is done with what was read; `sample` goes by a number, `project` and `associate` by a number
-- of columns, and `weigh` by the word of the weights
pub data Task : Type 0 where
  check : Task
  relog : Task
  solve : Task
  dual : Task
  sample : (number : ℕ) → Task
  project : (columns : ℕ) → Task
  associate : (columns : ℕ) → Task
  meet : Task
  sum : Task
  join : Task
  map : Task
  weights : Task
  weigh : (word : List ℕ) → Task
  vertices : Task
  facets : Task
  reconv : Task

-- the files that a command names: none; the problem or representation; the same and a log or a problem
-- that is read after it; the same and the log that is written
pub data Files : Type 0 where
  none : Files
  one : (problem : List ℕ) → Files
  two : (problem second : List ℕ) → Files
  logged : (problem log : List ℕ) → Files

-- the shape of a command's words
pub record Shape : Type 0 where
  pub task : Task
  pub files : Files

-- a shape by its parts
abbrev pub shape : Task → Files → Shape
shape task files = record { task = task; files = files }
