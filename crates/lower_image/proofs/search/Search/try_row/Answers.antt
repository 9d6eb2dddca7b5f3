use Rattle.lower_image.proofs.Searched.{row_long, with_row}
use Rattle.lower_image.proofs.search.Search.try_row.Goals as goal

pub add-requires : goal.add-requires
add-requires g c = row_long g.F.Field.value g.F.Field.holds g.task c.args.self.now c.requires.1.0 c.args.row.now c.requires.1.1

pub returns-in-Ok-clause-searching : goal.returns-in-Ok-clause-searching
returns-in-Ok-clause-searching g c =
    with_row g.F.Field.value g.F.Field.holds g.task c.args.self.now c.requires.1.0 c.add.new.self c.args.row.now c.requires.1.1 c.in-Ok.ensures.ok
