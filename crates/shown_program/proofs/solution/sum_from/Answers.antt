use Rattle.std.proofs.Common.{arith, refl}
use Rattle.shown_program.proofs.Summed.{summed_end, summed_more, summed_none}
use Rattle.shown_program.proofs.solution.sum_from.Goals as goal

pub loop-k-init : goal.loop-k-init
loop-k-init g c =
    summed_none g.F.Field.value c.args.program.now c.args.columns.now c.args.values.now
    c.args.total.now c.requires.zero

pub loop-k-preserved : goal.loop-k-preserved
loop-k-preserved g c =
    summed_more g.F.Field.value c.args.program.now c.args.columns.now c.args.values.now c.loop-k.k
    c.index-values-k.result c.column.result.now c.loop-k.total c.add_multiple.new.total
    c.loop-k-test.true (omega (arith, c.requires.each)) c.index-values-k.is c.column.ensures.spots
    c.add_multiple.auto.total (c.if-not-add_multiple.ensures refl) c.loop-k.invariant

pub returns : goal.returns
returns g c = λ told.
    let value = g.F.Field.value in
    summed_end value c.args.program.now c.args.columns.now c.args.values.now c.loop-k.k
    c.loop-k.total (omega arith) (omega (arith, c.requires.each))
    c.args.goal.now (c.are_same.ensures told) c.loop-k.invariant
