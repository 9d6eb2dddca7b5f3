use Rattle.std.proofs.Common.{ℤ, ◌*◌, ◌<◌, ◌^◌, unsigned_abs, subst, arith}
use Rattle.std.proofs.lemmas.Int.{ints}
use Rattle.frac128.specs.Mixed.{IsTotal}
use Rattle.frac128.proofs.Carried.{computed_sum}
use Rattle.frac128.proofs.joint.numerator.Goals as goal

pub returns-then-is_short-2 : goal.returns-then-is_short-2
returns-then-is_short-2 c =
    let first : unsigned_abs c.args.a * c.args.x < 2 ^ 126 = grind (arith, ints, c.if-is_short.ensures, c.unsigned_abs.ensures.value) in
    let second : unsigned_abs c.args.c * c.args.y < 2 ^ 126 = grind (arith, ints, c.if-is_short-2.ensures, c.unsigned_abs-then-is_short.ensures.value) in
    subst (λ (n : ℤ). IsTotal c.args.divisor n c.of.result)
    (computed_sum c.args.a c.args.c c.args.x c.args.y c.ranges.a c.ranges.c (omega arith) (omega arith) first second)
    c.of.ensures
