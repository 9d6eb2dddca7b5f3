-- What a fraction is made of, and when it cannot be made.
use Rattle.std.specs.Prelude.{◌≡◌, ◌≢◌, ℤ, pos, IsTrue, IsFalse, Result, MatchResult}
use Rattle.exact_field.specs.Rational.{ℚ, whole, ◌/ℚ◌}
use Rattle.frac128.specs.Held.{is_held}
use Rattle.frac128.specs.declared.fault.FracFault.{FracFault}
use Rattle.frac128.specs.declared.fault.FracFault.TheVariants.{ZeroDen, Wide}

-- why n / d is refused: d is 0, or d is not 0 and the exact number is not held
abbrev pub Refuses : ℤ → ℤ → FracFault → Type 0
Refuses n d ZeroDen = d ≡ pos 0
Refuses n d Wide = (d ≢ pos 0) × IsFalse (is_held (whole n /ℚ whole d))

-- the answer is the exact number n / d where d is not 0 and the number is held, and else the reason why not
abbrev pub Makes : ℤ → ℤ → Result ℚ FracFault → Type 0
Makes n d result = MatchResult result (λ q. (d ≢ pos 0) × (q ≡ whole n /ℚ whole d) × IsTrue (is_held q)) (Refuses n d)
