-- The image of the solutions of inequalities under linear objectives, widened by a cone.
use Rattle.std.specs.Prelude.{ℕ, List, ◌≡◌, length}
use Rattle.exact_field.specs.Rational.{ℚ, zero_ℚ, ◌≤ℚ◌}
use Rattle.polyhedra.specs.Vectors.{zeros, plus, scaled, values}
use Rattle.polyhedra.specs.Farkas.{Meets}
use Rattle.polyhedra.specs.Hull.{IsConvex}

-- the set has vectors of n entries, 0 among them, and their sums and multiples by numbers of at least 0
pub record IsConvexCone (n : ℕ) (Cone : List ℚ → Type 0) : Type 0 where
  pub wide : (d : List ℚ) → Cone d → length d ≡ n
  pub zero : Cone (zeros n)
  pub sum : (a b : List ℚ) → Cone a → Cone b → Cone (plus a b)
  pub multiple : (s : ℚ) (d : List ℚ) → zero_ℚ ≤ℚ s → Cone d → Cone (scaled s d)

-- y is the objectives' value at some solution x of n entries, plus a member of the cone
pub record IsImage (n : ℕ) (rows : List (List ℚ)) (rights : List ℚ) (objectives : List (List ℚ))
    (Cone : List ℚ → Type 0) (y : List ℚ) : Type 0 where
  pub solution : List ℚ
  pub wide : length solution ≡ n
  pub meets : Meets rows rights solution
  pub beyond : List ℚ
  pub in_cone : Cone beyond
  pub same : y ≡ plus (values objectives solution) beyond

-- such an image is convex, and goes on for ever in the directions of the image with right sides 0
abbrev pub ImageIsConvex : (List ℚ → Type 0) → Type 0
ImageIsConvex Cone = (n q : ℕ) (rows : List (List ℚ)) (rights : List ℚ) (objectives : List (List ℚ)) →
    length objectives ≡ q → IsConvexCone q Cone →
    IsConvex q (IsImage n rows rights objectives Cone) (IsImage n rows (zeros (length rows)) objectives Cone)
