use Rattle.std.proofs.Common.{◌+◌, arith}
use Rattle.frac128.proofs.Turns.{floors_lowered, cmp_less, cmp_greater}
use Rattle.frac128.proofs.order.floor_quotients.Goals as goal

pub returns-in-true-false : goal.returns-in-true-false
returns-in-true-false c = cmp_less _ _ _ _ (c.lower_both-left.ensures.0 + 1) c.requires.d_positive (omega (arith, c.lower_both-left.ensures.1)) (omega (arith, c.lower_both-left.ensures.2))

pub returns-in-false-true : goal.returns-in-false-true
returns-in-false-true c = cmp_greater _ _ _ _ (c.lower_both-left.ensures.0 + 1) c.requires.b_positive (omega (arith, c.lower_both-left.ensures.2)) (omega (arith, c.lower_both-left.ensures.1))

pub returns-in-false-false : goal.returns-in-false-false
returns-in-false-false c = floors_lowered _ _ _ _ _ _ _ c.divide_alike.result c.lower_both-left.ensures.1 c.lower_both-left.ensures.2 c.divide_alike.ensures
