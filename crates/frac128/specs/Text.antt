-- The canonical text of a number: the numerator, and after a `/` the denominator where it is not 1.
use Rattle.std.specs.Prelude.{ℕ, List, [], ◌∷◌, ◌++◌, ◌==◌, if◌then◌else◌, decimal}
use Rattle.std.specs.Fmt.{signed_decimal}
use Rattle.exact_field.specs.Rational.{ℚ}

-- as bytes: 47 is the code of `/`
abbrev pub frac_text : ℚ → List ℕ
frac_text q = signed_decimal q.num ++ (if q.den == 1 then [] else 47 ∷ decimal q.den)
