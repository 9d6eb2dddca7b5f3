use Rattle.std.proofs.Common.{◌<◌, ◌≤◌, ◌*◌, ◌^◌, arith}
use Rattle.frac128.proofs.Carried.{short_product}
use Rattle.frac128.proofs.Divided.{long_product}
use Rattle.frac128.proofs.gcd.product_plus.Goals as goal

pub returns-then-bits-gt126 : goal.returns-then-bits-gt126
returns-then-bits-gt126 c few =
    let x = c.if-x-eq0.false in
    let y = c.if-y-eq0.false in
    let many : 2 ^ 125 ≤ c.args.x * c.args.y = long_product _ _ c.args.x c.args.y (c.bits.ensures.reached (omega arith)) (c.bits-2.ensures.reached (omega arith)) (omega arith) in
    absurd (omega arith)

pub overflow_mul-sum : goal.overflow_mul-sum
overflow_mul-sum c =
    let few : c.args.x * c.args.y < 2 ^ 126 = short_product _ _ c.args.x c.args.y c.bits.ensures.below c.bits-2.ensures.below c.if-bits-gt126.false in omega arith

pub overflow_add-sum : goal.overflow_add-sum
overflow_add-sum c =
    let few : c.args.x * c.args.y < 2 ^ 126 = short_product _ _ c.args.x c.args.y c.bits.ensures.below c.bits-2.ensures.below c.if-bits-gt126.false in omega arith
