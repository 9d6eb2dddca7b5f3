use Rattle.std.proofs.Common.{ap, sym, ◌∙◌, length}
use Rattle.cone_dual.proofs.Wide.{row_long}
use Rattle.lower_image.proofs.spanning.nonzero_rows.Goals as goal

pub push_nonzero-requires : goal.push_nonzero-requires
push_nonzero-requires g c =
    let value = g.F.Field.value in
    ap length c.as_slice.ensures.items
    ∙ row_long value c.args.q c.args.vectors.now c.loop-vector.vector-index c.vector-item.result c.requires c.loop-vector-test.true c.vector-item.is
    ∙ sym c.loop-vector.invariant.width
