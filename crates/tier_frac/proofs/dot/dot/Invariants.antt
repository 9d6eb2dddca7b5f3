use Rattle.exact_field.specs.Rational.{fraction}
use Rattle.exact_field.proofs.Products.{IsDotFrom}
use Rattle.frac128.specs.Held.{is_held}
use Rattle.tier_frac.proofs.dot.dot.Given as goal

abbrev pub invariant-loop-i : goal.invariant-loop-i
invariant-loop-i l = IsDotFrom is_held l.row l.vector l.i (fraction l.sum.num l.sum.den)
