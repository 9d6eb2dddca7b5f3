use Rattle.polyhedra.proofs.Sparse.{product_of_sparse}
use Rattle.polyhedra.proofs.product_of_sparse.Goals as goal

pub returns : goal.returns
returns c = product_of_sparse
