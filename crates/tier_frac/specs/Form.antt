-- The two sizes of a number, of which it has exactly one.
use Rattle.std.specs.Prelude.{◌≡◌, refl, cond, IsTrue, IsFalse}
use Rattle.exact_field.specs.Rational.{ℚ}
use Rattle.tier_frac.specs.Size.{is_small}
use Rattle.tier_frac.specs.declared.tier.Form.{Form}
use Rattle.tier_frac.specs.declared.tier.Form.TheVariants.{Small, Wide}

-- the number that is kept
abbrev pub number : Form → ℚ
number (Small q) = q
number (Wide q) = q

-- a number is small exactly where both parts fit into an `i64`
abbrev pub IsSized : Form → Type 0
IsSized (Small q) = IsTrue (is_small q)
IsSized (Wide q) = IsFalse (is_small q)

-- a number in the size that it has
abbrev pub sized : ℚ → Form
sized q = cond (is_small q) (Small q) (Wide q)

-- so a number has one representation
pub sized_number : (f : Form) → IsSized f → sized (number f) ≡ f
sized_number (Small q) h = rw h refl
sized_number (Wide q) h = rw h refl
