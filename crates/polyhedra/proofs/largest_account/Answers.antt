use Rattle.polyhedra.proofs.LargestTightSets.{largest_account}
use Rattle.polyhedra.proofs.largest_account.Goals as goal

pub returns : goal.returns
returns c = largest_account
