use Rattle.std.proofs.Common.{map}
use Rattle.exact_field.specs.Rational.{zero_ℚ}
use Rattle.double_descr.proofs.steps.product.Goals as goal
use Rattle.double_descr.proofs.StepLists.{short_steps}

pub returns-in-Some : goal.returns-in-Some
returns-in-Some g c =
    let value = g.F.Field.value in
    (short_steps g.F.Field.holds zero_ℚ (map value c.args.row.now) (map value c.args.vector.now) c.in-Some.ensures.1, c.in-Some.ensures.0)

pub returns-in-Some-dot_over : goal.returns-in-Some-dot_over
returns-in-Some-dot_over g c =
    let value = g.F.Field.value in
    (short_steps g.F.Field.holds zero_ℚ (map value c.args.row.now) (map value c.args.vector.now) c.in-Some-dot_over.ensures.1, c.in-Some-dot_over.ensures.0)
