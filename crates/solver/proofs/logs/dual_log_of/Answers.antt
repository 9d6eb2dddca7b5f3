use Rattle.solver.proofs.Ended.{anyhow, fault_ends}
use Rattle.solver.proofs.logs.dual_log_of.Goals as goal

pub returns-in_err-log-clause-end : goal.returns-in_err-log-clause-end
returns-in_err-log-clause-end g c =
    fault_ends g.file g.F.Field.holds c.from_residual-in_err-log.result c.in_err-log.field-0.0
    c.from_residual-in_err-log.ensures.1
    (anyhow g.file g.F.Field.holds (c.in_ok-duality.ensures.ok g.file c.requires.1.1).sound _ c.in_err-log.field-0.0 c.in_err-log.ensures.left)
