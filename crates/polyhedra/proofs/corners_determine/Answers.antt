use Rattle.polyhedra.proofs.Corners.{corners_determine}
use Rattle.polyhedra.proofs.corners_determine.Goals as goal

pub returns : goal.returns
returns c = corners_determine
