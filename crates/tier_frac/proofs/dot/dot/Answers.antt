use Rattle.std.proofs.Common.{◌≡◌, Some, ap, ◌∙◌, subst, arith}
use Rattle.std.specs.Bool.{IsTrue}
use Rattle.exact_field.specs.Rational.{ℚ, fraction, ◌+ℚ◌, ◌*ℚ◌}
use Rattle.frac128.specs.Held.{is_held}
use Rattle.exact_field.proofs.Products.{dot_start, dot_end}
use Rattle.frac128.proofs.Totals.{dot_more, fraction_held}
use Rattle.tier_frac.proofs.dot.dot.Goals as goal

pub loop-i-init : goal.loop-i-init
loop-i-init c = dot_start is_held c.args.row.now c.args.vector.now _ c.zero-sum.ensures

pub loop-i-preserved : goal.loop-i-preserved
loop-i-preserved c =
    let next = c.in_ok-sum.sum in
    let product : c.frac.result *ℚ c.frac-in-loop-i.result ≡ c.index-row-i.result *ℚ c.index-vector-i.result =
    ap (λ (z : ℚ). z *ℚ c.frac-in-loop-i.result) c.frac.ensures ∙ ap (λ (z : ℚ). c.index-row-i.result *ℚ z) c.frac-in-loop-i.ensures in
    dot_more c.args.row.now c.args.vector.now c.loop-i.i c.index-row-i.result c.index-vector-i.result _ _ (omega arith) c.requires c.index-row-i.is c.index-vector-i.is c.loop-i.invariant
    (c.in_ok-sum.ensures.value ∙ ap (λ (z : ℚ). fraction c.loop-i.sum.num c.loop-i.sum.den +ℚ z) product)
    (subst (λ (z : ℚ). IsTrue (is_held z)) product c.in_ok-sum.ensures.held)
    (fraction_held _ _ next.positive (let few = next.num_small in omega arith) (let few = next.den_small in omega arith))

pub returns : goal.returns
returns c = dot_end (λ q. q) is_held c.args.row.now c.args.vector.now c.loop-i.i _ (Some c.from_frac.result) (omega arith) c.loop-i.invariant (c.from_frac.ensures ∙ c.in_ok-reduce.ensures)
