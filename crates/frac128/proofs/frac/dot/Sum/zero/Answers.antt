use Rattle.std.specs.Prelude.{pos}
use Rattle.exact_field.proofs.RationalLaws.{fraction-one}
use Rattle.frac128.proofs.frac.dot.Sum.zero.Goals as goal

pub returns : goal.returns
returns c = fraction-one (pos 0)
