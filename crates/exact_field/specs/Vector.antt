-- Vectors: lists of rational numbers. Their entries are numbered from 1.
use Rattle.std.specs.Prelude.{ℕ, ◌-◌, ◌==◌, Bool, true, ◌&&◌, List, [], ◌∷◌, length, take, slice_index_or}
use Rattle.exact_field.specs.Rational.{ℚ, zero_ℚ, ◌+ℚ◌, ◌*ℚ◌}

-- entry k of a vector, and 0 past its end
abbrev pub entry : List ℚ → ℕ → ℚ
entry v k = slice_index_or v (k - 1) zero_ℚ

-- a vector without its last entry
abbrev pub front : List ℚ → List ℚ
front v = take (length v - 1) v

-- its last entry
abbrev pub last : List ℚ → ℚ
last v = entry v (length v)

-- whether each row has n entries
abbrev pub are_wide : {T : Type 0} → ℕ → List (List T) → Bool
are_wide n [] = true
are_wide n (r ∷ rows) = (length r == n) && are_wide n rows

-- the sum of the entries
abbrev pub sum_ℚ : List ℚ → ℚ
sum_ℚ [] = zero_ℚ
sum_ℚ (p ∷ ps) = p +ℚ sum_ℚ ps

-- the product of two vectors: the sum of the products of their entries
abbrev pub dot : List ℚ → List ℚ → ℚ
dot [] ys = zero_ℚ
dot (x ∷ xs) [] = zero_ℚ
dot (x ∷ xs) (y ∷ ys) = x *ℚ y +ℚ dot xs ys
