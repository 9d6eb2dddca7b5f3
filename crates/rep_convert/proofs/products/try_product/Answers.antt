use Rattle.rep_convert.proofs.Starting.{term_same}
use Rattle.rep_convert.proofs.products.try_product.Goals as goal

pub returns-in-Err-clause-left : goal.returns-in-Err-clause-left
returns-in-Err-clause-left c = λ rep allowed.
    c.term_left.ensures rep c.args.row.now c.args.v.now allowed (term_same c.args.row.now c.args.v.now c.in-Err.fault c.in-Err.ensures.left)
