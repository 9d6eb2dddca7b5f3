use Rattle.frac128.specs.Held.{is_held}
use Rattle.commands.proofs.HeldLists.{list_held}
use Rattle.commands.proofs.held.read_vector.Goals as goal

pub returns : goal.returns
returns c =
    list_held is_held c.args.list.now c.as_slice.result.now c.as_slice.ensures.items c.as_slice.ensures.bound c.read_list_of_numbers.ensures
