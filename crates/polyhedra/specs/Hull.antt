-- The hull of points, directions and lines, and the extreme things of a set: vertices, extreme directions, facets. A set of
-- vectors is a function that gives for each vector the type of the proofs that it belongs to the set.
use Rattle.std.specs.Prelude.{ℕ, List, ◌≡◌, length}
use Rattle.exact_field.specs.Rational.{ℚ, one_ℚ, zero_ℚ, ◌+ℚ◌, neg_ℚ, ◌≤ℚ◌}
use Rattle.exact_field.specs.Vector.{dot, sum_ℚ}
use Rattle.polyhedra.specs.Vectors.{zeros, plus, scaled, combination, AtLeastZero}
use Rattle.polyhedra.specs.Inequality.{Inequality}
use Rattle.polyhedra.specs.DoubleDescription.{magnitude, leading}

-- y is a sum of the points with multipliers of at least 0 that sum to 1, of the directions with multipliers of at least 0, and
-- of the lines with any multipliers
pub record IsInHull (n : ℕ) (points directions lines : List (List ℚ)) (y : List ℚ) : Type 0 where
  pub weights : List ℚ
  pub shares : List ℚ
  pub slopes : List ℚ
  pub weight_each : length weights ≡ length points
  pub share_each : length shares ≡ length directions
  pub slope_each : length slopes ≡ length lines
  pub weights_at_least_zero : AtLeastZero weights
  pub shares_at_least_zero : AtLeastZero shares
  pub weights_whole : sum_ℚ weights ≡ one_ℚ
  pub combined : y ≡ plus (combination n weights points) (plus (combination n shares directions) (combination n slopes lines))

-- the set has vectors of n entries, lies in itself at each mean of two of its members, and goes on for ever in each of the
-- directions, which are a cone
pub record IsConvex (n : ℕ) (Set Directions : List ℚ → Type 0) : Type 0 where
  pub wide : (y : List ℚ) → Set y → length y ≡ n
  pub directions_wide : (d : List ℚ) → Directions d → length d ≡ n
  pub mean : (l : ℚ) (a b : List ℚ) → zero_ℚ ≤ℚ l → l ≤ℚ one_ℚ → Set a → Set b →
      Set (plus (scaled (one_ℚ +ℚ neg_ℚ l) a) (scaled l b))
  pub recedes : (y d : List ℚ) → Set y → Directions d → Set (plus y d)
  pub direction_zero : Directions (zeros n)
  pub direction_sum : (a b : List ℚ) → Directions a → Directions b → Directions (plus a b)
  pub direction_multiple : (s : ℚ) (d : List ℚ) → zero_ℚ ≤ℚ s → Directions d → Directions (scaled s d)

-- y is in the set, and equals each two members whose midpoint it is
pub record IsVertex (Set : List ℚ → Type 0) (y : List ℚ) : Type 0 where
  pub member : Set y
  pub no_midpoint : (a b : List ℚ) → Set a → Set b → plus y y ≡ plus a b → (a ≡ y) × (b ≡ y)

-- a is a multiple of d
pub record IsMultiple (d a : List ℚ) : Type 0 where
  pub factor : ℚ
  pub same : a ≡ scaled factor d

-- d is a member that is not 0, of which each two members that sum to it are multiples
pub record IsExtremeDirection (n : ℕ) (Directions : List ℚ → Type 0) (d : List ℚ) : Type 0 where
  pub member : Directions d
  pub not_zero : d ≡ zeros n → ⊥
  pub no_sum : (a b : List ℚ) → Directions a → Directions b → d ≡ plus a b → IsMultiple d a × IsMultiple d b

-- the first entry of d that is not 0 is 1 or -1
abbrev pub IsNormedDirection : List ℚ → Type 0
IsNormedDirection d = magnitude (leading d) ≡ one_ℚ

-- each member of the set meets the inequality, whose normal has n entries
pub record IsValid (n : ℕ) (Set : List ℚ → Type 0) (e : Inequality) : Type 0 where
  pub wide : length e.normal ≡ n
  pub holds : (y : List ℚ) → Set y → e.bound ≤ℚ dot e.normal y

-- the inequality is valid, and its normal has the product 1 with c
pub record IsValidAt (n : ℕ) (Set : List ℚ → Type 0) (c : List ℚ) (e : Inequality) : Type 0 where
  pub valid : IsValid n Set e
  pub open valid use *
  pub normed : dot e.normal c ≡ one_ℚ

-- the inequality is valid and normed at c, and equals each two such inequalities whose midpoint it is
pub record IsFacet (n : ℕ) (Set : List ℚ → Type 0) (c : List ℚ) (e : Inequality) : Type 0 where
  pub valid : IsValidAt n Set c e
  pub no_midpoint : (a b : Inequality) → IsValidAt n Set c a → IsValidAt n Set c b →
      plus e.normal e.normal ≡ plus a.normal b.normal → e.bound +ℚ e.bound ≡ a.bound +ℚ b.bound → (a ≡ e) × (b ≡ e)
