-- Double description: what one more row does to the generators of a cone.
use Rattle.std.specs.Prelude.{ℕ, List, [], ◌∷◌, ◌++◌, ◌≡◌, map, length, filter, All, AllPairs, Contains, Bool, true, false, not, ◌&&◌, ◌||◌, flat_map, if◌then◌else◌}
use Rattle.std.specs.List.{list_all}
use Rattle.exact_field.specs.Rational.{ℚ, zero_ℚ, one_ℚ, ◌/ℚ◌, neg_ℚ, inverse_ℚ, le_ℚ, lt_ℚ, ◌<ℚ◌}
use Rattle.exact_field.specs.Vector.{dot, entry}
use Rattle.polyhedra.specs.Vectors.{plus, scaled}
use Rattle.polyhedra.specs.TightSets.{Covers, IsDoubleDescriptionPair}

-- whether a number is 0
abbrev pub is_zero : ℚ → Bool
is_zero q = le_ℚ q zero_ℚ && le_ℚ zero_ℚ q

-- a number without its sign
abbrev pub magnitude : ℚ → ℚ
magnitude q = if le_ℚ zero_ℚ q then q else neg_ℚ q

-- the first entry that is not 0, and 0 where there is none
abbrev pub leading : List ℚ → ℚ
leading [] = zero_ℚ
leading (x ∷ xs) = if is_zero x then leading xs else x

-- the entry that norms a vector: the last one or, where that is 0, the first that is not
abbrev pub norming : List ℚ → ℚ
norming v = if is_zero (entry v (length v)) then leading v else entry v (length v)

-- the vector divided by the magnitude of the entry that norms it
abbrev pub normed : List ℚ → List ℚ
normed v = scaled (inverse_ℚ (magnitude (norming v))) v

-- the entry that norms the vector is 1 or -1
abbrev pub IsNormed : List ℚ → Type 0
IsNormed v = magnitude (norming v) ≡ one_ℚ

-- where the row is 0 on the segment from p, where it is positive, to m, where it is negative, up to a multiple
abbrev pub meeting : List ℚ → List ℚ → List ℚ → List ℚ
meeting row p m = plus p (scaled (dot row p /ℚ neg_ℚ (dot row m)) m)

-- two generators
pub record Pair : Type 0 where
  pub plus_side : List ℚ
  pub minus_side : List ℚ

-- a new row is positive at the one and negative at the other of two generators, and no third one covers them
pub record IsNewPair (rows generators : List (List ℚ)) (row : List ℚ) (pair : Pair) : Type 0 where
  pub plus_listed : Contains generators pair.plus_side
  pub minus_listed : Contains generators pair.minus_side
  pub positive : zero_ℚ <ℚ dot row pair.plus_side
  pub negative : dot row pair.minus_side <ℚ zero_ℚ
  pub uncovered :
      All (λ g. (g ≡ pair.plus_side → ⊥) → (g ≡ pair.minus_side → ⊥) → Covers rows pair.plus_side pair.minus_side g → ⊥)
      generators

-- the list has exactly these pairs, each once
pub record ArePairs (rows generators : List (List ℚ)) (row : List ℚ) (pairs : List Pair) : Type 0 where
  pub each : All (IsNewPair rows generators row) pairs
  pub every : (pair : Pair) → IsNewPair rows generators row pair → Contains pairs pair
  pub once : AllPairs (λ a b. a ≡ b → ⊥) pairs

-- the generators at which the new row is at least 0
abbrev pub kept : List ℚ → List (List ℚ) → List (List ℚ)
kept row generators = filter (λ g. le_ℚ zero_ℚ (dot row g)) generators

-- the meeting points of the pairs, normed
abbrev pub made : List ℚ → List Pair → List (List ℚ)
made row pairs = map (λ pair. normed (meeting row pair.plus_side pair.minus_side)) pairs

-- the generators after the new row: those that stay, then the new ones
abbrev pub added : List ℚ → List (List ℚ) → List Pair → List (List ℚ)
added row generators pairs = kept row generators ++ made row pairs

-- whether two vectors are equal
abbrev pub same_vector : List ℚ → List ℚ → Bool
same_vector [] [] = true
same_vector [] (y ∷ ys) = false
same_vector (x ∷ xs) [] = false
same_vector (x ∷ xs) (y ∷ ys) = le_ℚ x y && le_ℚ y x && same_vector xs ys

-- whether each row that is tight at a and b is tight at g
abbrev pub covers : List (List ℚ) → List ℚ → List ℚ → List ℚ → Bool
covers rows a b g = list_all (λ row. not (is_zero (dot row a)) || not (is_zero (dot row b)) || is_zero (dot row g)) rows

-- whether no third generator covers the pair
abbrev pub is_uncovered : List (List ℚ) → List (List ℚ) → Pair → Bool
is_uncovered rows generators pair =
    list_all (λ g. same_vector g pair.plus_side || same_vector g pair.minus_side || not (covers rows pair.plus_side pair.minus_side g)) generators

-- the generators at which the row is positive, each with each at which it is negative, in their order
abbrev pub opposite_pairs : List ℚ → List (List ℚ) → List Pair
opposite_pairs row generators =
    flat_map (λ p. map (λ m. record { plus_side = p; minus_side = m }) (filter (λ g. lt_ℚ (dot row g) zero_ℚ) generators))
    (filter (λ g. lt_ℚ zero_ℚ (dot row g)) generators)

-- the opposite pairs that no third generator covers, in their order
abbrev pub new_pairs : List (List ℚ) → List (List ℚ) → List ℚ → List Pair
new_pairs rows generators row = filter (is_uncovered rows generators) (opposite_pairs row generators)

-- the generators after a new row
abbrev pub addition : List (List ℚ) → List (List ℚ) → List ℚ → List (List ℚ)
addition rows generators row = added row generators (new_pairs rows generators row)

-- of a double description pair, the new pairs are exactly the opposite pairs of generators that no third one covers
abbrev pub NewPairsAreExact : Type 0
NewPairsAreExact = (n : ℕ) (rows generators : List (List ℚ)) (row : List ℚ) → IsDoubleDescriptionPair n rows generators →
    ArePairs rows generators row (new_pairs rows generators row)

-- of a double description pair, the rows with a new one and the generators after it are one again, whatever the order of the pairs
abbrev pub OneAddition : Type 0
OneAddition = (n : ℕ) (rows generators : List (List ℚ)) (row : List ℚ) (pairs : List Pair) →
    IsDoubleDescriptionPair n rows generators → length row ≡ n → ArePairs rows generators row pairs →
    IsDoubleDescriptionPair n (rows ++ row ∷ []) (added row generators pairs)

-- the same of the generators after a new row in their order
abbrev pub AdditionDescribes : Type 0
AdditionDescribes = (n : ℕ) (rows generators : List (List ℚ)) (row : List ℚ) →
    IsDoubleDescriptionPair n rows generators → length row ≡ n → IsDoubleDescriptionPair n (rows ++ row ∷ []) (addition rows generators row)

-- the meeting points, normed, are normed vectors
abbrev pub MadeAreNormed : Type 0
MadeAreNormed = (n : ℕ) (rows generators : List (List ℚ)) (row : List ℚ) (pairs : List Pair) →
    IsDoubleDescriptionPair n rows generators → length row ≡ n → ArePairs rows generators row pairs → All IsNormed (made row pairs)
