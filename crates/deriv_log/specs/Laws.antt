-- The statements of the laws on the text of logs.
use Rattle.std.specs.Prelude.{◌≡◌, ℕ, ◌⊎◌, List}
use Rattle.deriv_log.specs.FirstFault.{FirstFault}
use Rattle.deriv_log.specs.Formed.{IsLog}
use Rattle.deriv_log.specs.LogText.{log_text}
use Rattle.deriv_log.specs.declared.entry.Entry.{Entry}
use Rattle.word_lines.specs.declared.fault.LogFault.{LogFault}

-- these bytes are the text of this log
abbrev pub IsTextOf : List ℕ → List Entry → Type 0
IsTextOf bytes entries = IsLog entries × (bytes ≡ log_text entries)

-- each list of bytes is the text of a log or has a first fault, never both, and but one of either
pub record OneReading : Type 0 where
  pub total : (bytes : List ℕ) → ((entries : List Entry) × IsTextOf bytes entries) ⊎ ((f : LogFault) × FirstFault bytes f)
  pub apart : (bytes : List ℕ) (entries : List Entry) (f : LogFault) → IsTextOf bytes entries → FirstFault bytes f → ⊥
  pub one_log : (bytes : List ℕ) (entries others : List Entry) → IsTextOf bytes entries → IsTextOf bytes others → entries ≡ others
  pub one_fault : (bytes : List ℕ) (f g : LogFault) → FirstFault bytes f → FirstFault bytes g → f ≡ g
