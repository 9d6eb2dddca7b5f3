use Rattle.rep_conv.proofs.GivenRows.{side_sorted, some_entries}
use Rattle.rep_conv.proofs.giving.sides.Goals as goal

pub found_sides-requires : goal.found_sides-requires
found_sides-requires c = some_entries c.requires.0 c.requires.1 c.requires.2 c.args.generators.now c.requires.3

pub returns : goal.returns
returns c width s lines h = side_sorted width s lines c.args.generators.now h c.in_ok-found.found c.sort_vectors.result c.in_ok-found.ensures c.sort_vectors.ensures
