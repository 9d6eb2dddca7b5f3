-- The first fault of the text of a representation: the tests of a line in their order.
use Rattle.std.specs.Prelude.{ℕ, ◌==◌, Bool, true, false, not, ◌&&◌, ◌||◌, nat_le, if◌then◌else◌, List, [], ◌∷◌, length, codes, Option, None, Some, Ok, Err}
use Rattle.std.specs.List.{list_any, slice_split}
use Rattle.std.specs.Option.{option_or}
use Rattle.std.specs.Str.Parse.{digits_value}
use Rattle.src_sink.specs.Texts.{TextLine}
use Rattle.word_lines.specs.FirstFault.{FirstFault, LineTest, is_end_line}
use Rattle.word_lines.specs.LineFault.{Left, times, word, left_over}
use Rattle.word_lines.specs.Numerals.{same_word, natural_fault, number_fault}
use Rattle.word_lines.specs.declared.fault.LogFault.{LogFault}
use Rattle.word_lines.specs.declared.fault.LogKind.{LogKind}
use Rattle.word_lines.specs.declared.fault.LogKind.TheVariants.{BadLine, OutOfRange}
use Rattle.rep_text.specs.Fits.{row_length}
use Rattle.rep_text.specs.declared.rep.RepKind.{RepKind}
use Rattle.rep_text.specs.declared.rep.RepKind.TheVariants.{Side, Equal, Line, Point, Direction}

-- ---- the first line
-- a width is from 1 to 19
abbrev pub width_fault : List ℕ → Option LogKind
width_fault w = option_or (natural_fault w) (if nat_le 1 (digits_value 10 w) && nat_le (digits_value 10 w) 19 then None else Some OutOfRange)

-- whether a word is the first of a first line
abbrev pub is_head : List ℕ → Bool
is_head name = same_word name (codes "sides") || same_word name (codes "gens")

-- the words that are left after the first line's, or the first test that fails
abbrev pub left_after_head : List ℕ → List (List ℕ) → Left
left_after_head name words = if is_head name then word width_fault words else Err BadLine

-- the first test that the words of the first line fail
abbrev pub head_fault : List (List ℕ) → Option LogKind
head_fault [] = Some BadLine
head_fault (name ∷ words) = left_over (left_after_head name words)

-- ---- the others
-- the kind of a row with this first word, under a first line `gens` or `sides`
abbrev pub kind_named : Bool → List ℕ → Option RepKind
kind_named true name =
    if same_word name (codes "l") then Some Line
    else if same_word name (codes "1") then Some Point
    else if same_word name (codes "0") then Some Direction
    else None
kind_named false name =
    if same_word name (codes "h") then Some Side
    else if same_word name (codes "e") then Some Equal
    else None

-- so many numbers as a row of this kind has
abbrev pub left_after_kind : ℕ → Option RepKind → List (List ℕ) → Left
left_after_kind width None words = Err BadLine
left_after_kind width (Some kind) words = times (word number_fault) (row_length width kind) words

-- what stands after the first word of a row or of the end, under a first line of this kind and width
abbrev pub left_after_row : Bool → ℕ → List ℕ → List (List ℕ) → Left
left_after_row gens width name words = if same_word name (codes "end") then Ok words else left_after_kind width (kind_named gens name) words

-- the first test that the words of another line fail
abbrev pub row_fault : Bool → ℕ → List (List ℕ) → Option LogKind
row_fault gens width [] = Some BadLine
row_fault gens width (name ∷ words) = left_over (left_after_row gens width name words)

-- the words of a line, cut at each blank
abbrev pub words_in : TextLine → List (List ℕ)
words_in line = slice_split (λ b. b == 32) line.text

-- a line after a first line of these words
abbrev pub row_under : List (List ℕ) → List (List ℕ) → Option LogKind
row_under (head ∷ width ∷ _) words = row_fault (same_word head (codes "gens")) (digits_value 10 width) words
row_under _ words = Some BadLine

-- the first line, or one after it
abbrev pub fault_after : List TextLine → List (List ℕ) → Option LogKind
fault_after [] words = head_fault words
fault_after (first ∷ _) words = row_under (words_in first) words

-- the same where no word may be empty
abbrev pub words_fault : List TextLine → List (List ℕ) → Option LogKind
words_fault before words = if list_any (λ w. length w == 0) words then Some BadLine else fault_after before words

-- the first test that a line fails, after the lines before it; the first is that it is none after the 10,000th
abbrev pub rep_test : LineTest
rep_test before line =
    if nat_le 10000 (length before) then Some OutOfRange
    else if list_any is_end_line before || not line.whole then Some BadLine
    else words_fault before (words_in line)

-- the first fault of the text of a representation
abbrev pub RepFirstFault : List ℕ → LogFault → Type 0
RepFirstFault bytes f = FirstFault rep_test bytes f
