use Rattle.representations.proofs.Examples.{face_example}
use Rattle.representations.proofs.face_example.Goals as goal

pub returns : goal.returns
returns c = face_example
