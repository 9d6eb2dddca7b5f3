-- The worked lines, computed.
use Rattle.std.proofs.Common.{refl}
use Rattle.std.specs.Fmt.{digits}
use Rattle.exact_field.specs.Gcd.{gcd}
use Rattle.exact_field.specs.Rational.{whole, fraction}
use Rattle.commands.specs.LineExamples.{LineExamples}

pub examples : LineExamples
unfolding whole fraction gcd digits
examples = record { columns = refl; columns_turned = refl; sizes = refl; sizes_of_columns = refl; sizes_turned = refl; weights = refl; weights_turned = refl; second = refl; first = refl; empty_second = refl; empty_first = refl; no_multiplier = refl; other_part = refl; weighed = refl; operands_turned = refl; other_operation = refl; long_log = refl; long_problem = refl; rep = refl; rep_kind = refl; done = refl; no_shape = refl; no_memory = refl; read = refl; written = refl }
