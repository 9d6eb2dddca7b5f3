use Rattle.std.proofs.Common.{arith}
use Rattle.rep_convert.proofs.start.picked_rows.Goals as goal

pub overflow_add-number : goal.overflow_add-number
overflow_add-number c =
    let count = c.count-count.ensures in
    let fits = c.count-count.type_inv in
    let below = c.requires c.loop-number.number-index 0 c.loop-number-test.true in
    omega (arith, count, fits, below)
