-- The lines of a text, by the line feeds at which it is cut.
use Rattle.std.proofs.Common.{◌≡◌, ◌<◌, ℕ, true, false, ◌==◌, cond, List, [], ◌∷◌, ◌++◌, length, arith, refl, ap, sym, ◌∙◌, ne_eqb}
use Rattle.std.specs.List.{slice_split, join_with_byte}
use Rattle.std.proofs.lemmas.List.Splits.{join_with_byte-slice_split, slice_split_at, slice_split_none, length-slice_split}
use Rattle.src_sink.specs.Texts.{TextLine, lines_between, lines_of}
use Rattle.src_sink.specs.Reading.{LacksLineFeed}

-- a line without its line feed
abbrev pub torn_line : List ℕ → TextLine
torn_line text = record { text = text; whole = false }

-- the lines after one that ends with a line feed
pub lines_more : (piece : List ℕ) (pieces : List (List ℕ)) → 0 < length pieces → lines_between (piece ∷ pieces) ≡ record { text = piece; whole = true } ∷ lines_between pieces
lines_more piece [] h = absurd (omega arith)
lines_more piece (next ∷ pieces) h = refl

some_pieces : (bytes : List ℕ) → 0 < length (slice_split (λ b. b == 10) bytes)
some_pieces bytes = omega (arith, length-slice_split (λ b. b == 10) bytes)

-- a line that ends with a line feed, and what stands after it
pub first_line : (bytes piece rest : List ℕ) → slice_split (λ b. b == 10) bytes ≡ piece ∷ slice_split (λ b. b == 10) rest → lines_of bytes ≡ record { text = piece; whole = true } ∷ lines_of rest
first_line bytes piece rest e = ap lines_between e ∙ lines_more piece (slice_split (λ b. b == 10) rest) (some_pieces rest)

-- a last line without one
pub last_line : (bytes piece : List ℕ) → slice_split (λ b. b == 10) bytes ≡ piece ∷ [] → 0 < length bytes → lines_of bytes ≡ torn_line piece ∷ []
last_line bytes piece e some =
    let same : piece ≡ bytes = sym (ap (join_with_byte 10) e) ∙ join_with_byte-slice_split 10 bytes in
    ap lines_between e ∙ ap (λ b. cond b [] (torn_line piece ∷ [])) (ne_eqb (length piece) 0 (λ none. absurd (omega (arith, none, ap length same))))

-- the same by the bytes
pub lines-whole : (line rest : List ℕ) → LacksLineFeed line → lines_of (line ++ 10 ∷ rest) ≡ record { text = line; whole = true } ∷ lines_of rest
lines-whole line rest lacks = first_line (line ++ 10 ∷ rest) line rest (slice_split_at (λ b. b == 10) line 10 rest lacks refl)

pub lines-torn : (line : List ℕ) → LacksLineFeed line → 0 < length line → lines_of line ≡ torn_line line ∷ []
lines-torn line lacks some = last_line line line (slice_split_none (λ b. b == 10) line lacks) some
