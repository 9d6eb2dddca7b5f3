-- The order of the rational numbers as answers: whether two are one, which is less, and the sign.
use Rattle.std.specs.Prelude.{ℤ, Bool, cond, ◌&&◌}
use Rattle.std.specs.Int.{int_signum}
use Rattle.std.specs.declared.cmp.Ordering.{Ordering}
use Rattle.std.specs.declared.cmp.Ordering.TheVariants.{Less, Equal, Greater}
use Rattle.exact_field.specs.Rational.{ℚ, le_ℚ}

-- whether p and q are one number: each is at most the other
abbrev pub same_ℚ : ℚ → ℚ → Bool
same_ℚ p q = le_ℚ p q && le_ℚ q p

-- Less, Equal or Greater, as p is to q
abbrev pub cmp_ℚ : ℚ → ℚ → Ordering
cmp_ℚ p q = cond (le_ℚ p q) (cond (le_ℚ q p) Equal Less) Greater

-- -1, 0 or 1
abbrev pub sign_ℚ : ℚ → ℤ
sign_ℚ q = int_signum q.num
