-- What steps on numbered generators keep, and what they are without the numbers.
use Rattle.std.specs.Prelude.{ℕ, ◌≤◌, List, [], ◌∷◌, ◌++◌, ◌≡◌, ◌↔◌, ◌⊎◌, All, AllPairs, Contains}
use Rattle.exact_field.specs.Rational.{ℚ}
use Rattle.polyhedra.specs.Vectors.{AreWide}
use Rattle.polyhedra.specs.Cone.{IsInCone}
use Rattle.polyhedra.specs.TightSets.{IsDoubleDescriptionPair}
use Rattle.polyhedra.specs.DoubleDescription.{is_uncovered, addition, IsNormed}
use Rattle.polyhedra.specs.Hull.{IsExtremeDirection}
use Rattle.polyhedra.specs.Examples.{three_rows, three_vectors, fourth_row}
use Rattle.polyhedra.specs.LiveList.{Numbered, LiveList, vectors, numbers, LivePair, without_numbers, is_uncovered_live, dropped, live_pairs, pairs, first_new, step, starting, steps, IsRising, ComesBefore}

-- what a step of a rising list keeps: numbers rise, pairs rise, each generator is an old one under its number or has a new number,
-- and no number is both dropped and live
pub record IsStep (rows : List (List ℚ)) (list : LiveList) (row : List ℚ) : Type 0 where
  pub rising : IsRising (step rows list row)
  pub grows : first_new list ≤ first_new (step rows list row)
  pub pairs_rise : AllPairs ComesBefore (live_pairs rows list.live row)
  pub old_or_new : All (λ g. Contains list.live g ⊎ (first_new list ≤ g.number)) (step rows list row).live
  pub gone : All (λ k. Contains (numbers (step rows list row).live) k → ⊥) (dropped row list.live)

-- each step of a rising list keeps this
abbrev pub NumbersStay : Type 0
NumbersStay = (rows : List (List ℚ)) (list : LiveList) (row : List ℚ) → IsRising list → IsStep rows list row

-- of generators that describe a cone, two have the same number exactly where they have the same vector
abbrev pub NumbersTellApart : Type 0
NumbersTellApart = (n : ℕ) (rows : List (List ℚ)) (list : LiveList) → IsRising list → IsDoubleDescriptionPair n rows (vectors list.live) →
    (a b : Numbered) → Contains list.live a → Contains list.live b → (a.number ≡ b.number) ↔ (a.vector ≡ b.vector)

-- so a third generator told apart by number is one told apart by vector
abbrev pub ThirdByNumber : Type 0
ThirdByNumber = (n : ℕ) (rows : List (List ℚ)) (list : LiveList) → IsRising list → IsDoubleDescriptionPair n rows (vectors list.live) →
    (pair : LivePair) → Contains list.live pair.plus_side → Contains list.live pair.minus_side →
    is_uncovered_live rows list.live pair ≡ is_uncovered rows (vectors list.live) (without_numbers pair)

-- without numbers, a step is an addition
abbrev pub StepIsAddition : Type 0
StepIsAddition = (n : ℕ) (rows : List (List ℚ)) (list : LiveList) (row : List ℚ) → IsRising list → IsDoubleDescriptionPair n rows (vectors list.live) →
    vectors (step rows list row).live ≡ addition rows (vectors list.live) row

-- numbered generators that describe the cone of the rows, normed
pub record IsLive (n : ℕ) (rows : List (List ℚ)) (list : LiveList) : Type 0 where
  pub rising : IsRising list
  pub described : IsDoubleDescriptionPair n rows (vectors list.live)
  pub normed : All IsNormed (vectors list.live)

-- so they are at the start and after each further row, and their vectors are exactly the normed extreme directions
pub record AreLive : Type 0 where
  pub start : (n k : ℕ) (rows vs : List (List ℚ)) → IsDoubleDescriptionPair n rows vs → All IsNormed vs → IsLive n rows (starting k vs)
  pub after : (n : ℕ) (rows : List (List ℚ)) (list : LiveList) (more : List (List ℚ)) → AreWide n more → IsLive n rows list →
      IsLive n (rows ++ more) (steps rows list more)
  pub extreme : (n : ℕ) (rows : List (List ℚ)) (list : LiveList) → IsLive n rows list →
      (g : List ℚ) → Contains (vectors list.live) g ↔ (IsExtremeDirection n (IsInCone n rows) g × IsNormed g)

-- a step from the numbers 4, 5, 6: the pairs (5, 4) and (6, 4), without 4, with 7 and 8
pub record StepExample : Type 0 where
  pub gone : dropped fourth_row (starting 4 three_vectors).live ≡ 4 ∷ []
  pub paired : pairs three_rows (starting 4 three_vectors).live fourth_row ≡ (5, 4) ∷ (6, 4) ∷ []
  pub live : numbers (step three_rows (starting 4 three_vectors) fourth_row).live ≡ 5 ∷ 6 ∷ 7 ∷ 8 ∷ []
  pub next : (step three_rows (starting 4 three_vectors) fourth_row).next ≡ 9
