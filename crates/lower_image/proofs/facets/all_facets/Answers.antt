use Rattle.lin_rows.proofs.Errors.{err_holds}
use Rattle.lower_image.proofs.Licensed.{err_then, licensed_after, licensed_without, opening_of}
use Rattle.lower_image.proofs.facets.all_facets.Goals as goal

pub returns-in_err-directions-clause-left : goal.returns-in_err-directions-clause-left
returns-in_err-directions-clause-left g c =
    let fault = c.in_err-directions.field-0.0 in
    err_holds c.from_residual.result fault _ c.from_residual.ensures.1
    (licensed_without g.F.Field.holds g.task c.requires.1.1.1.0 fault c.in_err-directions.ensures.left)

pub returns-clause-left : goal.returns-clause-left
returns-clause-left g c =
    let holds = g.F.Field.holds in
    let fit = c.requires.1.1.1.0 in
    err_then c.facets_over.result (c.facets_over.ensures.left (opening_of holds g.task fit)) (λ fault over. licensed_after holds g.task fit fault over)
