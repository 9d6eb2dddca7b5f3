-- The first fault of a log's text.
use Rattle.std.specs.Prelude.{ℕ, List}
use Rattle.word_lines.specs.FirstFault.{line_test}
use Rattle.word_lines.specs.FirstFault as line
use Rattle.word_lines.specs.declared.fault.LogFault.{LogFault}
use Rattle.deriv_log.specs.LineFault.{forms_of}

-- the first fault of the text of a log
abbrev pub FirstFault : List ℕ → LogFault → Type 0
FirstFault bytes f = line.FirstFault (line_test forms_of) bytes f
