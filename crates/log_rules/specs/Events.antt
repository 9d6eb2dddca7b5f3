-- Tests and steps, the first that fails, and the steps of sums of products.
use Rattle.std.specs.Prelude.{ℕ, suc, Bool, true, false, ◌||◌, if◌then◌else◌, List, [], ◌∷◌, length, zip, Option, None, Some}
use Rattle.exact_field.specs.Field.{exact}
use Rattle.exact_field.specs.Rational.{ℚ, zero_ℚ, ◌+ℚ◌, ◌*ℚ◌}
use Rattle.exact_field.specs.declared.op.Op.{Op}
use Rattle.exact_field.specs.declared.op.Op.TheVariants as op
use Rattle.upper_image.specs.Spots.{dense}
use Rattle.frac128.specs.Sparse.{is_zero}
use Rattle.frac128.specs.declared.vectors.Spot.{Spot}
use Rattle.log_rules.specs.declared.rule.Rule.{Rule}

-- ---- events
-- a test of a rule, passed or not, or one operation on numbers
pub data Event : Type 0 where
  test : Rule → Bool → Event
  step : Op → ℚ → ℚ → Event

-- a rule that fails, or the operation of a step whose exact result is not held, with the step's
-- number in its entry
pub data Failure : Type 0 where
  wrong : Rule → Failure
  left : ℕ → Op → ℚ → ℚ → Failure

-- the first failure, where n is the number of the next step
abbrev pub first_failure : (ℚ → Bool) → ℕ → List Event → Option Failure
first_failure holds n [] = None
first_failure holds n (test r passed ∷ events) = elim passed [ true ↦ first_failure holds n events | false ↦ Some (wrong r) ]
first_failure holds n (step o a b ∷ events) =
    elim (holds (exact o a b)) [ true ↦ first_failure holds (suc n) events | false ↦ Some (left n o a b) ]

-- ---- sums of products
-- a product and then the sum with the total, for each two factors that are both not 0
abbrev pub sum_from : ℚ → List (ℚ × ℚ) → List Event
sum_from total [] = []
sum_from total ((a, b) ∷ factors) =
    if is_zero a || is_zero b then sum_from total factors
    else step op.Mul a b ∷ step op.Add total (a *ℚ b) ∷ sum_from (total +ℚ a *ℚ b) factors

-- the product of two vectors
abbrev pub dot_steps : List ℚ → List ℚ → List Event
dot_steps v w = sum_from zero_ℚ (zip v w)

-- the product of a vector and a sparse one
abbrev pub product_steps : List ℚ → List Spot → List Event
product_steps v spots = dot_steps v (dense (length v) spots)
