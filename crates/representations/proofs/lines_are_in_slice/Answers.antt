use Rattle.representations.proofs.Slices.{lines_are_in_slice}
use Rattle.representations.proofs.lines_are_in_slice.Goals as goal

pub returns : goal.returns
returns g c = lines_are_in_slice g.C.Region.members
