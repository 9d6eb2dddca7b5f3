-- The lines of a file, and the words of a line.
use Rattle.std.specs.Prelude.{ℕ, ◌-◌, ◌==◌, Bool, ◌||◌, nat_lt, if◌then◌else◌, List, [], ◌∷◌, length, map, filter, take, slice_index}
use Rattle.std.specs.List.{slice_split}

-- the line feed
abbrev pub is_line_feed : ℕ → Bool
is_line_feed b = b == 10

-- blank or tab
abbrev pub is_blank : ℕ → Bool
is_blank b = b == 32 || b == 9

-- the pieces between line feeds; after the last line feed only where it is not empty
abbrev pub whole_pieces : List (List ℕ) → List (List ℕ)
whole_pieces [] = []
whole_pieces (piece ∷ []) = if length piece == 0 then [] else piece ∷ []
whole_pieces (piece ∷ next ∷ pieces) = piece ∷ whole_pieces (next ∷ pieces)

-- a piece without one carriage return at its end
abbrev pub without_return : List ℕ → List ℕ
without_return piece = if slice_index piece (length piece - 1) == 13 then take (length piece - 1) piece else piece

-- the lines of a file
abbrev pub lines_of : List ℕ → List (List ℕ)
lines_of bytes = map without_return (whole_pieces (slice_split is_line_feed bytes))

-- the words of a line: the longest runs of bytes other than blank and tab
abbrev pub words_of : List ℕ → List (List ℕ)
words_of line = filter (λ word. nat_lt 0 (length word)) (slice_split is_blank line)

-- the letter that a word is, or 0
abbrev pub letter : List ℕ → ℕ
letter [] = 0
letter (b ∷ []) = b
letter (b ∷ c ∷ bytes) = 0
