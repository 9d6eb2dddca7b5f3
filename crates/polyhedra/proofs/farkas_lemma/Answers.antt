use Rattle.polyhedra.proofs.Farkas.{farkas}
use Rattle.polyhedra.proofs.farkas_lemma.Goals as goal

pub returns : goal.returns
returns c = farkas
