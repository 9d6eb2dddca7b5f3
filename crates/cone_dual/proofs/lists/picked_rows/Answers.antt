use Rattle.std.proofs.Common.{ap, sym, ◌∙◌, length, arith}
use Rattle.cone_dual.proofs.Wide.{row_long}
use Rattle.cone_dual.proofs.lists.picked_rows.Goals as goal

pub push_row-requires : goal.push_row-requires
push_row-requires g c =
    let value = g.F.Field.value in
    let k = c.loop-k.k-index in
    let low = c.requires.from_one k 0 c.loop-k-test.true in
    let high = c.requires.to_end k 0 c.loop-k-test.true in
    ap length c.as_slice.ensures.items
    ∙ row_long value c.args.q c.args.vectors.now _ c.index-vectors-k.result c.requires.wide (omega (arith, low, high)) c.index-vectors-k.is
    ∙ sym c.loop-k.invariant.width
