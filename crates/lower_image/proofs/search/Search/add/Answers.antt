use Rattle.std.proofs.Common.{◌≡◌, map}
use Rattle.std.proofs.lemmas.Result.{on_ok_weaker}
use Rattle.outer_approx.specs.Task.{setting}
use Rattle.lower_image.proofs.Searched.{more_rows, row_long, row_may, with_row}
use Rattle.lower_image.proofs.search.Search.add.Goals as goal

pub add_row-requires : goal.add_row-requires
add_row-requires g c = row_long g.F.Field.value g.F.Field.holds g.task c.args.self.now c.requires.1.0 c.args.row.now c.requires.1.1

pub returns-clause-searching : goal.returns-clause-searching
returns-clause-searching g c =
    let value = g.F.Field.value in
    let s = c.args.self.now in
    on_ok_weaker c.add_row.result
    (λ (added : c.add_row.new.dd ≡ more_rows s.dd (map value c.args.row.now)).
    with_row value g.F.Field.holds g.task s c.requires.1.0 c.add_row.new.dd c.args.row.now c.requires.1.1 added)
    c.add_row.ensures.ok

pub returns-clause-left : goal.returns-clause-left
returns-clause-left g c = λ trail.
    c.add_row.ensures.left (setting g.task trail)
    (row_may g.F.Field.value g.F.Field.holds g.task c.args.self.now c.requires.1.0 c.args.row.now trail c.requires.1.1)
