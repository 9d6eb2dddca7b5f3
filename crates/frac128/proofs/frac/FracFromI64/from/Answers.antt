use Rattle.std.proofs.Common.{refl, arith}
use Rattle.std.proofs.lemmas.Int.{ints}
use Rattle.exact_field.specs.Rational.{suc-positive, coprime-one}
use Rattle.frac128.proofs.Whole.{is_whole}
use Rattle.frac128.proofs.frac.FracFromI64.from.Goals as goal

pub invariant_of-result : goal.invariant_of-result
invariant_of-result c = (suc-positive 0, (coprime-one _, tt))

pub returns : goal.returns
returns c = is_whole _ _ (omega (arith, ints, c.from.ensures)) refl
