use Rattle.std.proofs.Common.{[]}
use Rattle.lin_rows.proofs.Errors.{err_holds}
use Rattle.outer_approx.specs.Task.{setting}
use Rattle.overflows.specs.Faults.{Overflows}
use Rattle.lower_image.proofs.search.Search.turn.Goals as goal

pub returns-in_err-add-in-Overflowed-clause-left : goal.returns-in_err-add-in-Overflowed-clause-left
returns-in_err-add-in-Overflowed-clause-left g c = λ trail.
    err_holds c.from_residual-in_err-add-in-Overflowed.result c.in_err-add-in-Overflowed.field-0.0
    (Overflows g.F.Field.holds (setting g.task trail) [])
    c.from_residual-in_err-add-in-Overflowed.ensures.1 (c.in_err-add-in-Overflowed.ensures.left trail)
