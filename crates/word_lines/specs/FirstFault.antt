-- The lines of a text, by their numbers, and its first fault.
use Rattle.std.specs.Prelude.{◌≡◌, ℕ, ◌+◌, ◌-◌, ◌≤◌, ◌⊎◌, ◌==◌, Bool, false, List, [], ◌∷◌, length, take, codes, Option, None, Some, slice_get}
use Rattle.std.specs.List.{list_any, slice_split}
use Rattle.src_sink.specs.Texts.{TextLine, lines_of}
use Rattle.word_lines.specs.LineFault.{Forms, line_fault}
use Rattle.word_lines.specs.Numerals.{same_word}
use Rattle.word_lines.specs.declared.fault.LogKind.{LogKind}
use Rattle.word_lines.specs.declared.fault.LogKind.TheVariants.{NoEnd}
use Rattle.word_lines.specs.declared.fault.LogFault.{LogFault}

-- the first word of a line, empty where there is none
abbrev pub first_word : List (List ℕ) → List ℕ
first_word [] = []
first_word (w ∷ words) = w

-- whether the first word of a line is `end`
abbrev pub is_end_line : TextLine → Bool
is_end_line line = same_word (first_word (slice_split (λ b. b == 32) line.text)) (codes "end")

-- the first test that a line fails, after the lines before it
abbrev pub LineTest : Type 0
LineTest = List TextLine → TextLine → Option LogKind

-- the tests of lines by the parts after each first word
abbrev pub line_test : Forms → LineTest
line_test forms before line = line_fault forms (list_any is_end_line before) line.whole line.text

-- the first test that a line fails; one that is missing fails none
abbrev pub fault_of_line : LineTest → List TextLine → Option TextLine → Option LogKind
fault_of_line test before None = None
fault_of_line test before (Some line) = test before line

-- the first test that line n fails, if there is such a line
abbrev pub fault_at : LineTest → List TextLine → ℕ → Option LogKind
fault_at test lines n = fault_of_line test (take (n - 1) lines) (slice_get lines (n - 1))

-- the first n lines pass their tests
abbrev pub Pass : LineTest → List TextLine → ℕ → Type 0
Pass test lines n = (i : ℕ) → 1 ≤ i → i ≤ n → fault_at test lines i ≡ None

-- this is the first fault: of a line after lines that pass, or, where all pass and none is an `end` line,
-- that there is no end
abbrev pub IsFirstFault : LineTest → List TextLine → LogFault → Type 0
IsFirstFault test lines f =
    ((1 ≤ f.line) × Pass test lines (f.line - 1) × (fault_at test lines f.line ≡ Some f.kind))
    ⊎ (Pass test lines (length lines) × (list_any is_end_line lines ≡ false) × (f ≡ record { line = length lines + 1; kind = NoEnd }))

-- the first fault of a text, by its lines
abbrev pub FirstFault : LineTest → List ℕ → LogFault → Type 0
FirstFault test bytes f = IsFirstFault test (lines_of bytes) f
