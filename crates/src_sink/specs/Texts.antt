-- Texts of words, texts that are cut at a byte, and the lines of a text.
use Rattle.std.specs.Prelude.{ℕ, ◌==◌, Bool, true, false, if◌then◌else◌, List, [], ◌∷◌, ◌++◌, length, Option, None, Some}
use Rattle.std.specs.Borrow.{Bor}
use Rattle.std.specs.List.{slice_split, join_with_byte}

-- words with one blank between them
abbrev pub words_text : List (List ℕ) → List ℕ
words_text words = join_with_byte 32 words

-- a line: words with one blank between them, and a line feed
abbrev pub line_text : List (List ℕ) → List ℕ
line_text words = words_text words ++ 10 ∷ []

-- the pieces of what stands after a byte at which a text was cut, where something may stand there
abbrev pub pieces_after : ℕ → Option (Bor (List ℕ)) → List (List ℕ)
pieces_after byte None = []
pieces_after byte (Some rest) = slice_split (λ b. b == byte) rest.now

-- a line without its line feed, and whether that stood
pub record TextLine : Type 0 where
  pub text : List ℕ
  pub whole : Bool

-- the lines of pieces that stood between line feeds; after the last line feed only where it is not empty
abbrev pub lines_between : List (List ℕ) → List TextLine
lines_between [] = []
lines_between (piece ∷ []) = if length piece == 0 then [] else record { text = piece; whole = false } ∷ []
lines_between (piece ∷ next ∷ pieces) = record { text = piece; whole = true } ∷ lines_between (next ∷ pieces)

-- the lines of a text
abbrev pub lines_of : List ℕ → List TextLine
lines_of bytes = lines_between (slice_split (λ b. b == 10) bytes)
