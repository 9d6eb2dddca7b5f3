use Rattle.word_lines.specs.Parts.{is_formed_spot}
use Rattle.commands.proofs.HeldLists.{list_held}
use Rattle.commands.proofs.held.read_sparse.Goals as goal

pub returns : goal.returns
returns c =
    list_held is_formed_spot c.args.list.now c.as_slice.result.now c.as_slice.ensures.items c.as_slice.ensures.bound c.read_list_of_spots.ensures
