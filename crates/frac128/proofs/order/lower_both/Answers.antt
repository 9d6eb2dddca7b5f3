use Rattle.std.proofs.Common.{◌+◌, arith}
use Rattle.frac128.proofs.order.lower_both.Goals as goal

pub steps-init : goal.steps-init
steps-init c = (0, omega arith, omega arith)

pub steps-preserved : goal.steps-preserved
steps-preserved c = (c.steps.invariant.0 + 1, omega arith, omega arith)
