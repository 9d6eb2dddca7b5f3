-- What the reader of representations answers. For the clauses of the code alone.
use Rattle.std.specs.Prelude.{◌≡◌, ℕ, ◌+◌, ◌==◌, Bool, true, false, not, ◌&&◌, ◌||◌, nat_le, if◌then◌else◌, List, [], ◌∷◌, ◌++◌, length, map, codes, Result, Ok, Err, Option, None, Some}
use Rattle.std.specs.List.{list_any, slice_split}
use Rattle.std.specs.Option.{option_or}
use Rattle.src_sink.specs.Texts.{words_text}
use Rattle.frac128.specs.Text.{frac_text}
use Rattle.word_lines.specs.declared.fault.LogKind.{LogKind}
use Rattle.word_lines.specs.declared.fault.LogKind.TheVariants.{BadLine, OutOfRange}
use Rattle.word_lines.specs.declared.fault.Stop.{Stop}
use Rattle.word_lines.specs.declared.fault.Stop.TheVariants as stop
use Rattle.rep_text.specs.Fits.{row_fits, row_held}
use Rattle.rep_text.specs.RepFault.{left_after_row, head_fault, row_fault, RepFirstFault}
use Rattle.rep_text.specs.RepText.{head_words, kind_name, row_words}
use Rattle.rep_text.specs.declared.reader.Head.{Head}
use Rattle.rep_text.specs.declared.reader.Reading.{Reading}
use Rattle.rep_text.specs.declared.fault.RepEnd.{RepEnd}
use Rattle.rep_text.specs.declared.fault.RepEnd.TheVariants.{Fault, NoMemory}
use Rattle.rep_text.specs.declared.rep.RepRow.{RepRow}

-- a width is from 1 to 19
abbrev pub is_width : ℕ → Bool
is_width n = nat_le 1 n && nat_le n 19

-- the first test that fails of words of which none may be empty
abbrev pub checked : (List (List ℕ) → Option LogKind) → List ℕ → Option LogKind
checked fault text = let words = slice_split (λ b. b == 32) text in if list_any (λ w. length w == 0) words then Some BadLine else fault words

-- this first line was read, or its words fail their tests
abbrev pub ReadsHead : List ℕ → Result Head Stop → Type 0
ReadsHead text (Ok head) = (is_width head.width ≡ true) × (text ≡ words_text (head_words head.gens head.width))
ReadsHead text (Err (stop.Fault k)) = checked head_fault text ≡ Some k
ReadsHead text (Err stop.NoMemory) = Unit {0}

-- the numbers of a row, or the end, stood first, and are taken; or these words fail their tests
abbrev pub TakesRow : Head → List ℕ → List (List ℕ) → List (List ℕ) → Result (Option RepRow) Stop → Type 0
TakesRow head name old new (Ok (Some row)) = (row_fits head.gens head.width row ≡ true) × (row_held row ≡ true) × (name ≡ kind_name row.kind) × (old ≡ map frac_text row.v ++ new)
TakesRow head name old new (Ok None) = (name ≡ codes "end") × (old ≡ new)
TakesRow head name old new (Err (stop.Fault k)) = left_after_row head.gens head.width name old ≡ Err k
TakesRow head name old new (Err stop.NoMemory) = Unit {0}

-- this row or the end was read, or the words of the line fail their tests
abbrev pub ReadsRow : Head → List ℕ → Result (Option RepRow) Stop → Type 0
ReadsRow head text (Ok (Some row)) = (row_fits head.gens head.width row ≡ true) × (row_held row ≡ true) × (text ≡ words_text (row_words row))
ReadsRow head text (Ok None) = text ≡ codes "end"
ReadsRow head text (Err (stop.Fault k)) = checked (row_fault head.gens head.width) text ≡ Some k
ReadsRow head text (Err stop.NoMemory) = Unit {0}

-- the first test of a line that so many lines stand before, before its words
abbrev pub place_fault : ℕ → Bool → Bool → Option LogKind
place_fault before ended whole = if nat_le 10000 before then Some OutOfRange else if ended || not whole then Some BadLine else None

-- a refusal at the line of this number
abbrev pub rep_end_at : ℕ → Stop → RepEnd
rep_end_at number (stop.Fault k) = Fault number k
rep_end_at number stop.NoMemory = NoMemory

-- the next row or the end was read from a line after so many
abbrev pub ReadsLine : Head → ℕ → Bool → Bool → List ℕ → Option RepRow → Type 0
ReadsLine head before ended whole text row = (place_fault before ended whole ≡ None) × ReadsRow head text (Ok row)

-- why none was
abbrev pub RefusesLine : Head → ℕ → Bool → Bool → List ℕ → RepEnd → Type 0
RefusesLine head before ended whole text (Fault line kind) =
    (line ≡ before + 1) × (option_or (place_fault before ended whole) (checked (row_fault head.gens head.width) text) ≡ Some kind)
RefusesLine head before ended whole text NoMemory = Unit {0}

-- a row more, or the end, after what was read
abbrev pub with_line : Reading → Option RepRow → Reading
with_line s (Some row) = record { head = s.head; rows = s.rows ++ row ∷ []; before = s.before + 1; ended = s.ended }
with_line s None = record { head = s.head; rows = s.rows; before = s.before + 1; ended = true }

-- the first line was read
abbrev pub ReadsFirst : Bool → List ℕ → Reading → Type 0
ReadsFirst whole text s = (whole ≡ true) × ReadsHead text (Ok s.head) × (s.rows ≡ []) × (s.before ≡ 1) × (s.ended ≡ false)

-- why it was not
abbrev pub RefusesFirst : Bool → List ℕ → RepEnd → Type 0
RefusesFirst whole text (Fault line kind) = (line ≡ 1) × ((if not whole then Some BadLine else checked head_fault text) ≡ Some kind)
RefusesFirst whole text NoMemory = Unit {0}

-- why no representation was read: the first fault of the text, or want of memory
abbrev pub RefusesRep : List ℕ → RepEnd → Type 0
RefusesRep bytes (Fault line kind) = RepFirstFault bytes (record { line = line; kind = kind })
RefusesRep bytes NoMemory = Unit {0}
