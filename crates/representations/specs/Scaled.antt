-- Solutions of inequalities whose bounds are multiplied.
use Rattle.std.specs.Prelude.{ℕ, List, ◌≡◌, ◌↔◌, length, All}
use Rattle.exact_field.specs.Rational.{ℚ, zero_ℚ, ◌*ℚ◌, ◌≤ℚ◌}
use Rattle.exact_field.specs.Vector.{dot}
use Rattle.polyhedra.specs.Vectors.{plus, scaled}
use Rattle.polyhedra.specs.Inequality.{Inequality}
use Rattle.representations.specs.Facets.{MeetsAll}

-- y meets the inequalities with k times their bounds: normal . y - bound k ≥ 0
abbrev pub MeetsTimes : ℚ → List Inequality → List ℚ → Type 0
MeetsTimes k es y = All (λ e. k *ℚ e.bound ≤ℚ dot e.normal y) es

-- r is a direction of their solutions
abbrev pub RecedesFrom : List Inequality → List ℚ → Type 0
RecedesFrom es r = All (λ e. zero_ℚ ≤ℚ dot e.normal r) es

-- y is k times a solution, plus a direction
pub record IsMultipleOf (n : ℕ) (es : List Inequality) (k : ℚ) (y : List ℚ) : Type 0 where
  pub solution : List ℚ
  pub direction : List ℚ
  pub solution_wide : length solution ≡ n
  pub direction_wide : length direction ≡ n
  pub meets : MeetsAll es solution
  pub recedes : RecedesFrom es direction
  pub same : y ≡ plus (scaled k solution) direction

-- where there is a solution, what meets the inequalities with k times their bounds is k times a
-- solution plus a direction
abbrev pub ScaledSolutions : Type 0
ScaledSolutions = (n : ℕ) (es : List Inequality) (some : List ℚ) → length some ≡ n →
    MeetsAll es some → (k : ℚ) (y : List ℚ) → zero_ℚ ≤ℚ k → length y ≡ n →
    MeetsTimes k es y ↔ IsMultipleOf n es k y
