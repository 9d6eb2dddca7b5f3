use Rattle.std.proofs.Common.{◌≡◌, drop}
use Rattle.std.specs.List.{list_all}
use Rattle.exact_field.specs.Order.{same_ℚ}
use Rattle.exact_field.specs.Rational.{one_ℚ}
use Rattle.polyhedra.specs.DoubleDescription.{magnitude, leading}
use Rattle.upper_image.specs.Spots.{pieces}
use Rattle.entry_checks.proofs.corner.are_normed.Given as goal

abbrev pub invariant-loop-a : goal.invariant-loop-a
invariant-loop-a l =
    list_all (λ d. same_ℚ (magnitude (leading d)) one_ℚ) (pieces l.count l.objs l.directions)
    ≡ list_all (λ d. same_ℚ (magnitude (leading d)) one_ℚ) (drop l.a (pieces l.count l.objs l.directions))
