use Rattle.std.proofs.Common.{◌*◌, ◌≤◌, ◌≡◌, ◌+◌, unsigned_abs, arith}
use Rattle.std.proofs.Math.Nat.{mul-le-mul_left}
use Rattle.std.proofs.lemmas.Int.{ints}
use Rattle.frac128.proofs.Carry.{negative_value}
use Rattle.frac128.proofs.joint.Mixed.of.Goals as goal

pub returns-else-rest-eq0-clause-value : goal.returns-else-rest-eq0-clause-value
returns-else-rest-eq0-clause-value c =
    let few : c.divide-size.result.0 * 1 ≤ c.divide-size.result.0 * c.args.divisor = mul-le-mul_left c.divide-size.result.0 c.requires.positive in
    let whole : c.divide-size.result.0 * c.args.divisor + c.divide-size.result.1 ≡ unsigned_abs c.args.number = omega (arith, ints, c.divide-size.ensures.whole, c.unsigned_abs.ensures.value) in
    negative_value c.args.divisor c.divide-size.result.0 c.divide-size.result.1 _ _ c.args.number whole (omega arith) (omega (arith, ints)) (omega arith) (omega (arith, ints))

pub returns-else-rest-eq0-clause-size : goal.returns-else-rest-eq0-clause-size
returns-else-rest-eq0-clause-size c =
    let few : c.divide-size.result.0 * 1 ≤ c.divide-size.result.0 * c.args.divisor = mul-le-mul_left c.divide-size.result.0 c.requires.positive in
    omega (arith, ints)
