use Rattle.std.proofs.Common.{◌+◌, arith}
use Rattle.frac128.proofs.Turns.{cmp_less, cmp_greater}
use Rattle.frac128.proofs.order.divide_alike.Goals as goal

pub returns-then-c-taken : goal.returns-then-c-taken
returns-then-c-taken c = cmp_greater _ _ _ _ c.divide-whole.result.0 c.requires.b_positive (omega (arith, c.in-Some.ensures.1)) (omega arith)

pub returns-else-other_rest-d : goal.returns-else-other_rest-d
returns-else-other_rest-d c = cmp_less _ _ _ _ (c.divide-whole.result.0 + 1) c.requires.d_positive (omega arith) (omega (arith, c.in-Some.ensures.1))

pub returns-in_default : goal.returns-in_default
returns-in_default c = cmp_greater _ _ _ _ c.divide-whole.result.0 c.requires.b_positive (omega (arith, c.in_default.ensures)) (omega arith)
