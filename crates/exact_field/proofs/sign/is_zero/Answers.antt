use Rattle.exact_field.specs.Rational.{zero_ℚ}
use Rattle.exact_field.specs.Order.{same_ℚ}
use Rattle.exact_field.proofs.Comparison.{same_ℚ-is}
use Rattle.exact_field.proofs.Signs.{passes, zero_is}
use Rattle.exact_field.proofs.sign.is_zero.Goals as goal

pub returns : goal.returns
returns g c =
    let p = g.F.Field.value c.args.x in
    let test = zero_is p c.sign.result c.sign.ensures in
    record { test = test; fact = passes _ (same_ℚ p zero_ℚ) _ test (same_ℚ-is p zero_ℚ) }
