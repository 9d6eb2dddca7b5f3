use Rattle.std.proofs.Common.{arith}
use Rattle.double_descr.proofs.pairs.meets_enough.Goals as goal
use Rattle.double_descr.proofs.Covering.{few_met}

pub returns : goal.returns
returns g c = λ n all generators minus two within few.
    few_met g.F.Field.value n all generators c.args.plus.now minus two c.saturating_sub-least.result
    (omega (arith, c.saturating_sub-least.ensures, c.len.ensures, c.args.plus.now.vector.ok)) c.shares.result c.args.rows.now within c.shares.ensures few
