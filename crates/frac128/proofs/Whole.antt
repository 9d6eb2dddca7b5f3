-- A number over 1 is the whole number of its numerator.
use Rattle.std.proofs.Common.{◌≡◌, ℤ}
use Rattle.exact_field.specs.Rational.{ℚ, whole, same_parts}

pub is_whole : (q : ℚ) (n : ℤ) → q.num ≡ n → q.den ≡ 1 → q ≡ whole n
unfolding whole
is_whole q n same one = same_parts q (whole n) same one
