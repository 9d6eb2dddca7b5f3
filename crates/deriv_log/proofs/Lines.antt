-- What is known after the lines of a log that were read.
use Rattle.std.proofs.Common.{◌≡◌, ℕ, ◌+◌, ◌&&◌, true, false, not, Bool, List, [], ◌∷◌, ◌++◌, length, Some}
use Rattle.std.specs.List.{list_any}
use Rattle.src_sink.specs.Texts.{TextLine, lines_of}
use Rattle.word_lines.specs.declared.fault.LogKind.{LogKind}
use Rattle.word_lines.specs.declared.fault.LogKind.TheVariants.{NoEnd}
use Rattle.word_lines.proofs.Lines as text
use Rattle.word_lines.proofs.LineByLine as step
use Rattle.deriv_log.specs.FirstFault.{FirstFault}
use Rattle.deriv_log.specs.Formed.{is_formed, is_end, ends_once, IsLog}
use Rattle.deriv_log.specs.LineFault.{line_fault}
use Rattle.deriv_log.specs.LogGrammar.{log_grammar}
use Rattle.deriv_log.specs.LogText.{entry_text, log_text}
use Rattle.deriv_log.specs.declared.entry.Entry.{Entry}

-- the line of an entry
abbrev pub whole_line : Entry → TextLine
whole_line e = record { text = entry_text e; whole = true }

-- the first lines were read as these entries, and these are left
abbrev pub IsReadTo : List ℕ → List TextLine → List Entry → Type 0
IsReadTo bytes rest entries = text.IsReadTo log_grammar bytes rest entries

pub read_none : (bytes : List ℕ) → IsReadTo bytes (lines_of bytes) []
read_none bytes = text.read_none log_grammar bytes

-- one more line
pub read_next : (bytes : List ℕ) (l : TextLine) (rest : List TextLine) (entries : List Entry) (e : Entry) → IsReadTo bytes (l ∷ rest) entries → list_any is_end entries ≡ false → is_formed e ≡ true → l ≡ whole_line e → IsReadTo bytes rest (entries ++ e ∷ [])
read_next bytes l rest entries e r none formed same = text.read_next log_grammar bytes l rest entries e r none formed same

-- the next line has the first fault
pub read_fault : (bytes : List ℕ) (l : TextLine) (rest : List TextLine) (entries : List Entry) (k : LogKind) → IsReadTo bytes (l ∷ rest) entries → line_fault (list_any is_end entries) l.whole l.text ≡ Some k → FirstFault bytes (record { line = length entries + 1; kind = k })
read_fault bytes l rest entries k r h = text.read_fault log_grammar bytes l rest entries k r h

-- no line is left, and none was an end
pub read_open : (bytes : List ℕ) (entries : List Entry) → IsReadTo bytes [] entries → list_any is_end entries ≡ false → FirstFault bytes (record { line = length entries + 1; kind = NoEnd })
read_open bytes entries r none = text.read_open log_grammar bytes entries r none

-- no line is left, and the last was an end
pub read_all_lines : (bytes : List ℕ) (entries : List Entry) → IsReadTo bytes [] entries → list_any is_end entries ≡ true → IsLog entries × (bytes ≡ log_text entries)
read_all_lines bytes entries r closed =
    let h = text.read_all_lines log_grammar bytes entries r closed in
    (record { formed = h.0.formed; ends = h.0.ends }, h.1)

-- the last entry is an end, and none before it
pub ends_once-push : (entries : List Entry) (e : Entry) → ends_once (entries ++ e ∷ []) ≡ (is_end e && not (list_any is_end entries))
ends_once-push entries e = text.ends_once-push is_end entries e

pub any_end_push : (entries : List Entry) (e : Entry) (ended : Bool) → ended ≡ list_any is_end entries → ended ≡ false → is_end e ≡ list_any is_end (entries ++ e ∷ [])
any_end_push entries e ended is none = step.any_end_push is_end entries e ended is none
