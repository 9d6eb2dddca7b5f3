-- Sums and multiples of vectors, and the combination of a list of vectors. A vector is a list of numbers.
use Rattle.std.specs.Prelude.{ℕ, List, [], ◌∷◌, ◌≡◌, map, length, replicate, All}
use Rattle.exact_field.specs.Rational.{ℚ, zero_ℚ, ◌+ℚ◌, ◌*ℚ◌, ◌≤ℚ◌}
use Rattle.exact_field.specs.Vector.{dot}

-- each of the vectors has n entries
pub record AreWide (n : ℕ) (vs : List (List ℚ)) : Type 0 where
  pub wide : All (λ v. length v ≡ n) vs

-- the vector of n zeros
abbrev pub zeros : ℕ → List ℚ
zeros n = replicate n zero_ℚ

-- the sum of two vectors, entry by entry; the shorter one is continued with zeros
abbrev pub plus : List ℚ → List ℚ → List ℚ
plus [] ys = ys
plus (x ∷ xs) [] = x ∷ xs
plus (x ∷ xs) (y ∷ ys) = (x +ℚ y) ∷ plus xs ys

-- c times a vector
abbrev pub scaled : ℚ → List ℚ → List ℚ
scaled c v = map (λ x. c *ℚ x) v

-- the value of each row at z
abbrev pub values : List (List ℚ) → List ℚ → List ℚ
values rows z = map (λ r. dot r z) rows

-- the sum of the vectors, each times its multiplier, as a vector of n entries
abbrev pub combination : ℕ → List ℚ → List (List ℚ) → List ℚ
combination n [] vs = zeros n
combination n (m ∷ ms) [] = zeros n
combination n (m ∷ ms) (v ∷ vs) = plus (scaled m v) (combination n ms vs)

-- each of the numbers is at least 0
abbrev pub AtLeastZero : List ℚ → Type 0
AtLeastZero ms = All (λ m. zero_ℚ ≤ℚ m) ms
