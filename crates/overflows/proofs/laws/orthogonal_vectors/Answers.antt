use Rattle.overflows.proofs.Orthogonal.{orthogonal_vectors}
use Rattle.overflows.proofs.laws.orthogonal_vectors.Goals as goal

pub returns : goal.returns
returns c = orthogonal_vectors
