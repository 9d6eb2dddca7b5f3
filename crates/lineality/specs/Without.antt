-- Vectors without the entries at the places of lines, and with zeros there again.
use Rattle.std.specs.Prelude.{ℕ, zero, suc, ◌==◌, List, [], ◌∷◌, Bool, true, false}
use Rattle.std.specs.List.{list_any}
use Rattle.exact_field.specs.Rational.{ℚ, zero_ℚ}
use Rattle.lineality.specs.Lines.{leading_place}

-- whether place k is that of a line
abbrev pub is_line_place : List (List ℚ) → ℕ → Bool
is_line_place lines k = list_any (λ d. leading_place d == k) lines

-- the same for each of n places, from k on
abbrev pub marks_from : ℕ → ℕ → List (List ℚ) → List Bool
marks_from k zero lines = []
marks_from k (suc n) lines = is_line_place lines k ∷ marks_from (suc k) n lines

-- the same for each of the places from 1 to n
abbrev pub marks : ℕ → List (List ℚ) → List Bool
marks n lines = marks_from 1 n lines

-- how many places are not marked
abbrev pub open_count : List Bool → ℕ
open_count [] = 0
open_count (true ∷ bs) = open_count bs
open_count (false ∷ bs) = suc (open_count bs)

-- a vector without its entries at the marked places
abbrev pub without : List Bool → List ℚ → List ℚ
without [] xs = xs
without (b ∷ bs) [] = []
without (true ∷ bs) (x ∷ xs) = without bs xs
without (false ∷ bs) (x ∷ xs) = x ∷ without bs xs

-- a vector with zeros at the marked places
abbrev pub with_zeros : List Bool → List ℚ → List ℚ
with_zeros [] xs = xs
with_zeros (true ∷ bs) xs = zero_ℚ ∷ with_zeros bs xs
with_zeros (false ∷ bs) [] = []
with_zeros (false ∷ bs) (x ∷ xs) = x ∷ with_zeros bs xs
