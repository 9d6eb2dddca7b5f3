use Rattle.representations.proofs.Slices.{vertices_are_in_slice}
use Rattle.representations.proofs.vertices_are_in_slice.Goals as goal

pub returns : goal.returns
returns g c = vertices_are_in_slice g.C.Region.members
