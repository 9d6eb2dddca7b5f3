use Rattle.std.proofs.Common.{map, sym, arith}
use Rattle.frac128.specs.Sparse.{is_zero}
use Rattle.std.proofs.lemmas.List.{length-map}
use Rattle.lp_form.proofs.Steps.{one_fails, nought, not_nought, all_more}
use Rattle.vlp_matrices.proofs.Lists.{map-at}
use Rattle.lp_form.proofs.cone.is_zero_vector.Goals as goal

pub returns-then-not-is_zero : goal.returns-then-not-is_zero
returns-then-not-is_zero g c =
    let value = g.F.Field.value in
    let vector = c.args.vector.now in
    sym (one_fails (λ q. is_zero q) (map value vector) c.loop-x.x-index (value c.x-item.result) (omega (arith, length-map vector value)) (map-at value vector c.loop-x.x-index c.x-item.result c.loop-x-test.true c.x-item.is)
    (not_nought (value c.x-item.result) c.is_zero.result c.is_zero.ensures.fact c.if-not-is_zero.true))

pub loop-x-preserved : goal.loop-x-preserved
loop-x-preserved g c =
    let value = g.F.Field.value in
    let vector = c.args.vector.now in
    all_more value vector c.loop-x.x-index c.x-item.result c.loop-x-test.true c.x-item.is c.loop-x.invariant (nought (value c.x-item.result) c.is_zero.result c.is_zero.ensures.fact c.if-not-is_zero.false)
