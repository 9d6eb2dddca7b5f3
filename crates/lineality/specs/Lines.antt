-- The lines of a convex set: the vectors along which it goes on for ever both ways, and the one
-- basis of these in reduced echelon form.
use Rattle.std.specs.Prelude.{ℕ, suc, ◌<◌, List, [], ◌∷◌, ◌≡◌, map, length, All, AllPairs, if◌then◌else◌}
use Rattle.exact_field.specs.Rational.{ℚ, zero_ℚ, one_ℚ, neg_ℚ}
use Rattle.exact_field.specs.Vector.{entry}
use Rattle.polyhedra.specs.Vectors.{AreWide, plus, combination}
use Rattle.polyhedra.specs.DoubleDescription.{is_zero, leading}
use Rattle.polyhedra.specs.Negatives.{negated}

-- d is in the lineality space: d and its negative are directions
pub record IsInLineality (Directions : List ℚ → Type 0) (d : List ℚ) : Type 0 where
  pub forth : Directions d
  pub back : Directions (negated d)

-- the place of the first entry that is not 0, counted from 1, and the place after the last where
-- there is none
abbrev pub leading_place : List ℚ → ℕ
leading_place [] = 1
leading_place (x ∷ xs) = if is_zero x then suc (leading_place xs) else 1

-- y is a combination of the vectors with any multipliers
pub record IsCombined (n : ℕ) (vs : List (List ℚ)) (y : List ℚ) : Type 0 where
  pub multipliers : List ℚ
  pub one_each : length multipliers ≡ length vs
  pub combined : y ≡ combination n multipliers vs

-- the vectors are in reduced echelon form: the first entry of each that is not 0 is 1, the places
-- of these rise, and each is 0 at those of the others (that it is so at the earlier ones, the
-- rising says)
pub record AreEchelon (n : ℕ) (lines : List (List ℚ)) : Type 0 where
  pub wide : AreWide n lines
  pub leading_one : All (λ d. leading d ≡ one_ℚ) lines
  pub places_rise : AllPairs (λ d e. leading_place d < leading_place e) lines
  pub others_zero : AllPairs (λ d e. entry d (leading_place e) ≡ zero_ℚ) lines

-- a set with these directions goes on for ever both ways along each of the lines, which are in
-- reduced echelon form
pub record RunsAlong (n : ℕ) (Directions : List ℚ → Type 0) (lines : List (List ℚ)) : Type 0 where
  pub echelon : AreEchelon n lines
  pub open echelon use *
  pub each : All (IsInLineality Directions) lines

-- the lines of a set: it runs along them, and each vector of the lineality space is a combination
-- of them
pub record AreLines (n : ℕ) (Directions : List ℚ → Type 0) (lines : List (List ℚ)) : Type 0 where
  pub along : RunsAlong n Directions lines
  pub open along use *
  pub spans : (d : List ℚ) → IsInLineality Directions d → IsCombined n lines d

-- y is reduced: it is 0 at the place of each line
abbrev pub IsReduced : List (List ℚ) → List ℚ → Type 0
IsReduced lines y = All (λ d. entry y (leading_place d) ≡ zero_ℚ) lines

-- y is a reduced member of the set
pub record IsReducedIn (lines : List (List ℚ)) (Set : List ℚ → Type 0) (y : List ℚ) : Type 0 where
  pub member : Set y
  pub reduced : IsReduced lines y

-- y without its part along the lines
abbrev pub reduction : ℕ → List (List ℚ) → List ℚ → List ℚ
reduction n lines y =
    plus y (combination n (map (λ d. neg_ℚ (entry y (leading_place d))) lines) lines)
