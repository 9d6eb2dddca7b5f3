use Rattle.lineality.proofs.HalfPlaneExample.{half_plane_example}
use Rattle.lineality.proofs.half_plane_example.Goals as goal

pub returns : goal.returns
returns c = half_plane_example
