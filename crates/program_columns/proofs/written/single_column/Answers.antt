use Rattle.lin_rows.specs.Lines.{entries}
use Rattle.std.proofs.Common.{ap}
use Rattle.program_columns.proofs.Entered.{single_line}
use Rattle.program_columns.proofs.written.single_column.Goals as goal

pub returns : goal.returns
returns g c = λ n high.
    let value = g.F.Field.value in
    single_line n c.args.place (value c.args.value) (entries value c.new-list.result)
    (entries value c.push_kept.new.list) (ap (entries value) c.new-list.ensures) c.requires high
    c.in_ok-push_kept.ensures
