-- What the floor quotients of two fractions say of their order.
use Rattle.std.specs.Prelude.{◌≡◌, ℕ, ◌+◌, ◌*◌, ◌<◌}
use Rattle.std.specs.Ordering.{nat_cmp}
use Rattle.frac128.specs.declared.order.Floors.{Floors}
use Rattle.frac128.specs.declared.order.Floors.TheVariants.{Differ, Same}

-- where the floor quotients of a / b and c / d differ, the order of the fractions; where both are one number q, the remainders
abbrev pub FloorsSay : ℕ → ℕ → ℕ → ℕ → Floors → Type 0
FloorsSay a b c d (Differ order) = order ≡ nat_cmp (a * d) (c * b)
FloorsSay a b c d (Same r s) = (q : ℕ) × (q * b + r ≡ a) × (q * d + s ≡ c) × (r < b) × (s < d)
