use Rattle.rep_conv.proofs.GivenRows.{height_sorted, some_entries}
use Rattle.rep_conv.proofs.giving.heights.Goals as goal

pub take_level-requires : goal.take_level-requires
take_level-requires c = some_entries c.requires.0 c.requires.1 c.requires.2 c.args.generators.now c.requires.3

pub returns : goal.returns
returns c width s lines h = height_sorted width s lines c.args.generators.now h c.args.t c.in_ok-found.found c.sort_vectors.result c.in_ok-found.ensures c.sort_vectors.ensures
