use Rattle.std.proofs.Common.{arith}
use Rattle.exact_field.proofs.Products.{dot_start, dot_end}
use Rattle.frac128.specs.Held.{is_held}
use Rattle.frac128.proofs.Totals.{dot_more, fraction_held}
use Rattle.frac128.proofs.frac.dot.dot.Goals as goal

pub loop-i-init : goal.loop-i-init
loop-i-init c = dot_start is_held c.args.row.now c.args.vector.now _ c.zero-sum.ensures

pub loop-i-preserved : goal.loop-i-preserved
loop-i-preserved c =
    let next = c.in_ok-sum.sum in
    dot_more c.args.row.now c.args.vector.now c.loop-i.i c.index-row-i.result c.index-vector-i.result _ _ (omega arith) c.requires c.index-row-i.is c.index-vector-i.is c.loop-i.invariant
    c.in_ok-sum.ensures.value c.in_ok-sum.ensures.held
    (fraction_held _ _ next.positive (let few = next.num_small in omega arith) (let few = next.den_small in omega arith))

pub returns : goal.returns
returns c = dot_end (λ q. q) is_held c.args.row.now c.args.vector.now c.loop-i.i _ c.reduce.result (omega arith) c.loop-i.invariant c.reduce.ensures
