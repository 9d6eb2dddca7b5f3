use Rattle.lin_rows.specs.Read.{numbers}
use Rattle.overflows.proofs.Starts.{made_of_start}
use Rattle.cone_dual.proofs.Licences.{start_alone, start_over}
use Rattle.cone_dual.proofs.described.start_rows.Goals as goal

pub returns-in-Ok-clause-made : goal.returns-in-Ok-clause-made
returns-in-Ok-clause-made g c =
    let value = g.F.Field.value in
    let rows = c.args.rows.now in
    made_of_start rows.width (numbers value rows.list) c.in-Ok.dd c.in-Ok.ensures.ok

pub returns-in-Err-clause-place : goal.returns-in-Err-clause-place
returns-in-Err-clause-place g c = λ family.
    let value = g.F.Field.value in
    let rows = c.args.rows.now in
    start_over value g.F.Field.holds family rows.width (numbers value rows.list) c.in-Err.fault c.start_fault.result c.in-Err.ensures.left c.start_fault.ensures.told

pub returns-in-Err-clause-told : goal.returns-in-Err-clause-told
returns-in-Err-clause-told g c =
    let value = g.F.Field.value in
    let rows = c.args.rows.now in
    start_alone value g.F.Field.holds g.met.F.Field.holds_zero rows.width (numbers value rows.list) c.in-Err.fault c.start_fault.result c.in-Err.ensures.left c.start_fault.ensures.told
