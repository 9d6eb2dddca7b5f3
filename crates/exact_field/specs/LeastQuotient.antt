-- The least value over a list, and the greatest multiple that can be taken off a list of nonnegative values.
use Rattle.std.specs.Prelude.{◌≡◌, List, All, Contains}
use Rattle.exact_field.specs.Rational.{ℚ, zero_ℚ, ◌*ℚ◌, ◌-ℚ◌, ◌≤ℚ◌, ◌<ℚ◌}

-- x is an element at which f is least
pub record IsLeastAt {A : Type 0} (f : A → ℚ) (xs : List A) (x : A) : Type 0 where
  pub member : Contains xs x
  pub least : All (λ z. f x ≤ℚ f z) xs

-- e is the greatest number with f x - e (g x) at least 0 at each element: one where g is positive has the value 0,
-- so e is the least of the quotients f x / g x over the elements where g is positive
pub record IsGreatestStep {A : Type 0} (f g : A → ℚ) (xs : List A) (e : ℚ) : Type 0 where
  pub nonnegative : zero_ℚ ≤ℚ e
  pub stays : All (λ x. zero_ℚ ≤ℚ f x -ℚ e *ℚ g x) xs
  pub reached : (x : A) × Contains xs x × (zero_ℚ <ℚ g x) × (f x ≡ e *ℚ g x)
