use Rattle.std.proofs.Common.{arith}
use Rattle.std.proofs.lemmas.Bool.{eqb-true}
use Rattle.solver.proofs.naming.names_all_cuts.Goals as goal

pub returns : goal.returns
returns c = λ all q k low high.
    c.named_count.ensures k low (
    let n = c.cut_count.ensures q in
    let same = eqb-true c.named_count.result c.cut_count.result all in omega (arith, same, n, high))
