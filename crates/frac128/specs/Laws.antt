-- The laws that the crate's law functions state.
use Rattle.std.specs.Prelude.{◌≡◌, IsTrue}
use Rattle.exact_field.specs.Rational.{ℚ}
use Rattle.frac128.specs.Held.{is_held}
use Rattle.frac128.specs.Text.{frac_text}

-- numbers that are held and have one text are one number
abbrev pub OneNumberPerText : Type 0
OneNumberPerText = (p q : ℚ) → IsTrue (is_held p) → IsTrue (is_held q) → frac_text p ≡ frac_text q → p ≡ q
