-- The parts of a line, and their words; a line's words are separated by one blank. And which parts a line can have: natural
-- numbers of 32 bits, fractions that are held, and sparse vectors whose places rise and whose values are not 0.
use Rattle.std.specs.Prelude.{ℕ, ◌^◌, Bool, true, ◌&&◌, nat_lt, List, [], ◌∷◌, length, map, codes, decimal}
use Rattle.std.specs.List.{flat_map, list_all}
use Rattle.exact_field.specs.Rational.{ℚ}
use Rattle.frac128.specs.Held.{is_held}
use Rattle.frac128.specs.Sparse.{rises_above}
use Rattle.frac128.specs.Text.{frac_text}
use Rattle.frac128.specs.declared.vectors.Spot.{Spot}
use Rattle.word_lines.specs.declared.part.LogPair.{LogPair}
use Rattle.word_lines.specs.declared.part.EndKind.{EndKind}
use Rattle.word_lines.specs.declared.part.EndKind.TheVariants.{Infeasible, Whole as WholeEnd, NoVertex, Solved}

-- a part of a line: a natural number, a fraction, a vector, a list of natural numbers, a sparse vector,
-- pairs of generators, or a kind of end
pub data Part : Type 0 where
  natural : ℕ → Part
  number : ℚ → Part
  vector : List ℚ → Part
  naturals : List ℕ → Part
  sparse : List Spot → Part
  pairs : List LogPair → Part
  kind : EndKind → Part

-- the words of a place and its value
abbrev pub spot_words : Spot → List (List ℕ)
spot_words s = decimal s.at ∷ frac_text s.value ∷ []

-- the words of a pair
abbrev pub pair_words : LogPair → List (List ℕ)
pair_words p = decimal p.plus ∷ decimal p.minus ∷ []

-- a sparse vector's places and values, after their count
abbrev pub sparse_words : List Spot → List (List ℕ)
sparse_words u = decimal (length u) ∷ flat_map spot_words u

-- the word of each kind of end
abbrev pub end_word : EndKind → List ℕ
end_word Infeasible = codes "infeasible"
end_word WholeEnd = codes "whole"
end_word NoVertex = codes "novertex"
end_word Solved = codes "solved"

-- the words of a part; a list stands after its count
abbrev pub part_words : Part → List (List ℕ)
part_words (natural n) = decimal n ∷ []
part_words (number q) = frac_text q ∷ []
part_words (vector v) = decimal (length v) ∷ map frac_text v
part_words (naturals ns) = decimal (length ns) ∷ map decimal ns
part_words (sparse u) = sparse_words u
part_words (pairs ps) = decimal (length ps) ∷ flat_map pair_words ps
part_words (kind k) = end_word k ∷ []

-- a natural number that a line has
abbrev pub is_short : ℕ → Bool
is_short n = nat_lt n (2 ^ 32)

-- a place and a value that a line has
abbrev pub is_formed_spot : Spot → Bool
is_formed_spot s = is_short s.at && is_held s.value

-- a pair of numbers that a line has
abbrev pub is_formed_pair : LogPair → Bool
is_formed_pair p = is_short p.plus && is_short p.minus

-- a part that a line has
abbrev pub is_formed_part : Part → Bool
is_formed_part (natural n) = is_short n
is_formed_part (number q) = is_held q
is_formed_part (vector v) = is_short (length v) && list_all is_held v
is_formed_part (naturals ns) = is_short (length ns) && list_all is_short ns
is_formed_part (sparse u) = is_short (length u) && (rises_above 0 u && list_all is_formed_spot u)
is_formed_part (pairs ps) = is_short (length ps) && list_all is_formed_pair ps
is_formed_part (kind k) = true
