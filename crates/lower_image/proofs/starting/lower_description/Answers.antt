use Rattle.std.proofs.Common.{map}
use Rattle.std.proofs.lemmas.Result.{IfOk-weaker}
use Rattle.lin_rows.specs.Read.{numbers}
use Rattle.outer_approx.specs.Task.{setting}
use Rattle.lower_image.proofs.Started.{first_described, first_may, first_rank}
use Rattle.lower_image.proofs.starting.lower_description.Goals as goal

pub describe_rows-requires : goal.describe_rows-requires
describe_rows-requires g c =
    let value = g.F.Field.value in
    let rows = c.in_ok-rows.rows in
    first_rank g.F.Field.holds g.task c.requires.1.1.1.0 (map value c.args.x.now) (numbers value c.args.directions.now.list) (numbers value rows.list) rows.width
    c.requires.1.1.1.1.0 c.requires.1.1.1.1.1.1 c.in_ok-rows.ensures.rows c.in_ok-rows.ensures.width

pub returns-clause-ok : goal.returns-clause-ok
returns-clause-ok g c =
    let value = g.F.Field.value in
    let rows = c.in_ok-rows.rows in
    IfOk-weaker c.describe_rows.result _ _
    (λ dd is.
    first_described g.F.Field.holds g.task c.requires.1.1.1.0 (map value c.args.x.now) (numbers value c.args.directions.now.list) (numbers value rows.list) rows.width
    c.requires.1.1.1.1.0 c.requires.1.1.1.1.1.1 c.in_ok-rows.ensures.rows c.in_ok-rows.ensures.width dd is)
    c.describe_rows.ensures.ok

pub returns-clause-left : goal.returns-clause-left
returns-clause-left g c = λ trail.
    let value = g.F.Field.value in
    let rows = c.in_ok-rows.rows in
    c.describe_rows.ensures.left (setting g.task trail)
    (first_may g.F.Field.holds g.task c.requires.1.1.1.0 (map value c.args.x.now) (numbers value c.args.directions.now.list) (numbers value rows.list) rows.width
    c.requires.1.1.1.1.0 c.requires.1.1.1.1.1.1 c.in_ok-rows.ensures.rows c.in_ok-rows.ensures.width trail)
