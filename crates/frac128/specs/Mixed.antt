-- A whole number by its quotient and its remainder.
use Rattle.std.specs.Prelude.{◌≡◌, ℕ, ℤ, pos, ◌+◌, ◌*◌, ◌+ℤ◌, ◌*ℤ◌, ◌^◌, ◌<◌, unsigned_abs}
use Rattle.frac128.specs.Signed.{signed}
use Rattle.frac128.specs.declared.joint.Mixed.{Mixed}
use Rattle.frac128.specs.declared.joint.Total.{Total}

-- the number whose quotient by `divisor` is `whole`, with the remainder `rest`
abbrev pub mixed_value : ℕ → Mixed → ℤ
mixed_value divisor m = m.whole *ℤ pos divisor +ℤ pos m.rest

-- m is n by quotient and remainder, and the quotient has a magnitude below 2^122
pub record IsMixed (divisor : ℕ) (n : ℤ) (m : Mixed) : Type 0 where
  pub value : mixed_value divisor m ≡ n
  pub rest : m.rest < divisor
  pub near : unsigned_abs m.whole < 2 ^ 122

-- t is n by sign and magnitude, the magnitude by quotient and remainder
pub record IsTotal (divisor : ℕ) (n : ℤ) (t : Total) : Type 0 where
  pub value : signed t.negative (t.whole * divisor + t.rest) ≡ n
  pub rest : t.rest < divisor
