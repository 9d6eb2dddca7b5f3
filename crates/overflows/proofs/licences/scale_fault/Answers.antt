use Rattle.std.proofs.Common.{List, map, ap, ◌∙◌}
use Rattle.exact_field.specs.Rational.{ℚ}
use Rattle.deriv_log.specs.declared.licence.Place.TheVariants.{Scale}
use Rattle.overflows.specs.Steps.{in_numbers}
use Rattle.overflows.specs.declared.fault.SolveFault.TheVariants.{Left}
use Rattle.overflows.proofs.Licensed.{quotient_overflows}
use Rattle.overflows.proofs.licences.scale_fault.Goals as goal

pub returns-in-Ok-clause-licensed : goal.returns-in-Ok-clause-licensed
returns-in-Ok-clause-licensed g c = λ s scaled divisor at.
    let value = g.F.Field.value in
    quotient_overflows value g.F.Field.holds g.met.F.Field.holds_zero s c.args.trail c.fault_at.result (map value c.args.vector.now) c.args.entry c.args.left
    (c.fault_at.ensures.told
    ∙ ap (λ (v : List ℚ). Left (record { place = Scale v c.args.entry; left = in_numbers value c.args.left; trail = c.args.trail })) c.in-Ok.ensures.same)
    scaled divisor at
