-- The worked texts, computed.
use Rattle.std.proofs.Common.{refl}
use Rattle.std.specs.Fmt.{digits}
use Rattle.exact_field.specs.Gcd.{gcd}
use Rattle.exact_field.specs.Rational.{whole, fraction}
use Rattle.projection.specs.TextExamples.{WorkedTexts}

pub worked_texts : WorkedTexts
unfolding whole fraction gcd digits
worked_texts = record { triangle_is = refl; line_is = refl; empty_is = refl }
