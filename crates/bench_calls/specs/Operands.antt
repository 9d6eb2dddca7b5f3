-- What the operands stand for, and what is counted.
use Rattle.std.specs.Prelude.{ℕ, ℤ, pos, ◌+ℤ◌, ◌*ℤ◌, ◌^◌, Bool, ◌&&◌, cond, int_lt, unsigned_abs}
use Rattle.exact_field.specs.Rational.{ℚ, fraction}
use Rattle.frac128.specs.Held.{is_held}
use Rattle.bench_calls.specs.declared.fractions.Number.{Number}
use Rattle.bench_calls.specs.declared.fractions.Operands.{Operands}
use Rattle.bench_calls.specs.declared.fractions.Wide.{Wide}

-- a whole number by its upper and its lower 64 bits
abbrev pub wide_value : Wide → ℤ
wide_value w = w.high *ℤ pos (2 ^ 64) +ℤ pos w.low

-- the number that is given by its parts
abbrev pub number_of : Number → ℚ
number_of n = fraction (wide_value n.num) (unsigned_abs (wide_value n.den))

-- whether the denominator is positive and the number is held
abbrev pub is_operand : Number → Bool
is_operand n = int_lt (pos 0) (wide_value n.den) && is_held (number_of n)

-- the number of rounds where both operands are held and the test passes, and else 0
abbrev pub count : (ℚ → ℚ → Bool) → Operands → ℕ → ℕ
count test o rounds =
    cond (is_operand o.first && (is_operand o.second && test (number_of o.first) (number_of o.second))) rounds 0
