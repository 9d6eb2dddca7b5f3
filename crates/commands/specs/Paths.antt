-- The files that are opened for a command.
use Rattle.std.specs.Prelude.{ℕ, Bool, true, false, List, Option, None, Some}
use Rattle.commands.specs.Tasks.{Files, Shape}
use Rattle.commands.specs.Tasks.Files.{none, one, two, logged}

-- the problem or representation
abbrev pub problem_path : Files → Option (List ℕ)
problem_path none = None
problem_path (one file) = Some file
problem_path (two file second) = Some file
problem_path (logged file log) = Some file

-- the log or the second problem, which is read after it
abbrev pub log_in_path : Files → Option (List ℕ)
log_in_path (two file second) = Some second
log_in_path _ = None

-- the log that is written
abbrev pub log_out_path : Files → Option (List ℕ)
log_out_path (logged file log) = Some log
log_out_path _ = None

-- those of words with this shape, or with none
abbrev pub files_of : Option Shape → Files
files_of (Some s) = s.files
files_of None = none

-- whether a log is written
abbrev pub writes_log : Files → Bool
writes_log (logged file log) = true
writes_log _ = false
