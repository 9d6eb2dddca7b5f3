use Rattle.std.specs.Prelude.{IfSome}
use Rattle.std.proofs.Common.{◌≡◌, subst}
use Rattle.exact_field.specs.Rational.{ℚ, fraction}
use Rattle.frac128.proofs.Totals.{same_den_total}
use Rattle.frac128.proofs.frac.dot.Sum.plus.Goals as goal

pub returns-then-den-self : goal.returns-then-den-self
returns-then-den-self c =
    subst (λ (z : ℚ). IfSome c.of.result (λ s. fraction s.num s.den ≡ z))
    (same_den_total c.args.self.num c.args.num c.args.self.den c.args.den c.requires.positive c.if-den-self.true c.args.self.num_small c.requires.num_small)
    c.of.ensures
