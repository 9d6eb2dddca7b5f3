use Rattle.lin_rows.specs.System.{system_of}
use Rattle.exact_simplex.proofs.Faults.{same_fault}
use Rattle.exact_simplex.proofs.solve.solve_and_keep.Goals as goal

pub returns-in-Err-clause-left : goal.returns-in-Err-clause-left
returns-in-Err-clause-left g c =
    let value = g.F.Field.value in
    same_fault value g.F.Field.holds (system_of value c.args.system) c.in-Err.fault c.lp_fault.result c.lp_fault.ensures c.in-Err.ensures.left
