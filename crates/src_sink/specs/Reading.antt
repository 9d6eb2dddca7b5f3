-- What contracts see of a reader of lines, and what its calls do.
use Rattle.std.specs.Prelude.{◌≡◌, ℕ, ◌+◌, ◌-◌, ◌<◌, ◌≤◌, ◌==◌, Bool, true, false, List, [], ◌∷◌, ◌++◌, length, Option}
use Rattle.std.specs.List.{All}
use Rattle.src_sink.specs.Outside.{Consumes, IsAtEnd, Rose}
use Rattle.src_sink.specs.Texts.{TextLine, lines_of}
use Rattle.src_sink.specs.declared.whole.ReadEnd.{ReadEnd}
use Rattle.src_sink.specs.declared.whole.ReadEnd.TheVariants.{Fault, TooLong, NoMemory}
use Rattle.src_sink.specs.declared.lines.LineEnd.{LineEnd}
use Rattle.src_sink.specs.declared.lines.LineEnd.TheVariants.{Whole, Torn, End}

-- a reader of lines: the bytes taken and not given, how many were taken, how many may be, whether the
-- source came to its end, and whether a call gave no line
pub record Reading : Type 0 where
  pub kept : List ℕ
  pub taken : ℕ
  pub limit : ℕ
  pub ended : Bool
  pub failed : Bool

-- a call took these bytes, the first that were left; it lets the source alone once that came to its end
pub record Takes (before after : Reading) (left left' : Option (List ℕ)) (front : List ℕ) : Type 0 where
  pub consumed : Consumes left left' front
  pub count : after.taken ≡ before.taken + length front
  pub limit : after.limit ≡ before.limit
  pub none_after : before.ended ≡ true → (front ≡ []) × (after.ended ≡ true) × (left' ≡ left)
  pub at_end : before.ended ≡ false → after.ended ≡ true → IsAtEnd left'

-- no byte of a line is a line feed
abbrev pub LacksLineFeed : List ℕ → Type 0
LacksLineFeed line = All (λ b. (b == 10) ≡ false) line

-- bytes begin with a line, and these follow it; only at the end of the source is there none, or a torn one
abbrev pub BeginsWith : LineEnd → List ℕ → List ℕ → List ℕ → Bool → Type 0
BeginsWith Whole bytes line rest ended = bytes ≡ line ++ 10 ∷ rest
BeginsWith Torn bytes line rest ended = (bytes ≡ line) × (0 < length line) × (rest ≡ []) × (ended ≡ true)
BeginsWith End bytes line rest ended = (bytes ≡ []) × (line ≡ []) × (rest ≡ []) × (ended ≡ true)

-- a call gave the next line of the bytes kept before and those that it took
abbrev pub Gives : LineEnd → Reading → Reading → Option (List ℕ) → Option (List ℕ) → List ℕ → Type 0
Gives end before after left left' line =
    (front : List ℕ) × Takes before after left left' front
    × BeginsWith end (before.kept ++ front) line after.kept after.ended × LacksLineFeed line × (after.taken ≤ after.limit)

-- why a call gave no line, by what was taken in all and the faults before and after
abbrev pub Cause : ReadEnd → Reading → ℕ → ℕ → Type 0
Cause Fault after faults faults' = Rose faults faults' × (after.taken ≤ after.limit)
Cause (TooLong k) after faults faults' = (after.limit < k) × (k ≡ after.taken)
Cause NoMemory after faults faults' = after.taken ≤ after.limit

-- a call gave no line, and keeps what was kept before and the bytes that it took
abbrev pub Stops : ReadEnd → Reading → Reading → Option (List ℕ) → Option (List ℕ) → ℕ → ℕ → Type 0
Stops e before after left left' faults faults' =
    (front : List ℕ) × Takes before after left left' front × (after.kept ≡ before.kept ++ front) × Cause e after faults faults'

-- the line that a call gave, where there was one
abbrev pub given_line : LineEnd → List ℕ → List TextLine
given_line Whole line = record { text = line; whole = true } ∷ []
given_line Torn line = record { text = line; whole = false } ∷ []
given_line End line = []

-- how many bytes may still be given
abbrev pub most_to_give : Reading → ℕ
most_to_give r = r.limit + length r.kept - r.taken

-- for callers: some calls of a new reader took these bytes of those that were left at first, and gave
-- these lines; whatever bytes are taken later, their lines follow
pub record HasGiven (first left : Option (List ℕ)) (bytes : List ℕ) (lines : List TextLine) (reading : Reading) : Type 0 where
  pub taken : Consumes first left bytes
  pub count : reading.taken ≡ length bytes
  pub room : length lines + length reading.kept ≤ reading.taken
  pub lines_are : (later : List ℕ) → (reading.ended ≡ true → later ≡ []) → lines_of (bytes ++ later) ≡ lines ++ lines_of (reading.kept ++ later)
  pub at_end : reading.ended ≡ true → IsAtEnd left
