use Rattle.std.proofs.Common.{refl}
use mir.Syntax.{w64}
use Rattle.std.proofs.lemmas.Int.{to_z-of_z}
use Rattle.exact_field.specs.Rational.{suc-positive, coprime-one}
use Rattle.frac128.proofs.Whole.{is_whole}
use Rattle.tier_frac.proofs.words.Words.whole.Goals as goal

pub invariant_of-result : goal.invariant_of-result
invariant_of-result c = (suc-positive 0, (coprime-one _, tt))

pub returns-clause-value : goal.returns-clause-value
returns-clause-value c = is_whole _ _ (to_z-of_z w64 c.args.v c.ranges.v) refl
