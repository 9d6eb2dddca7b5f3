use Rattle.std.proofs.Common.{drop, map, sym, ◌∙◌}
use Rattle.polyhedra.proofs.Lists.{drop_value}
use Rattle.double_descr.proofs.points.leading_entry.Goals as goal
use Rattle.double_descr.proofs.StepLists.{leading_here, leading_at}

pub returns-then-not-is_zero : goal.returns-then-not-is_zero
returns-then-not-is_zero g c =
    let value = g.F.Field.value in
    leading_here (drop c.loop-entry.entry-index (map value c.args.vector.now)) _ (value c.entry-item.result)
    (drop_value value c.args.vector.now c.loop-entry.entry-index c.entry-item.result c.loop-entry-test.true c.entry-item.is)
    (sym c.is_zero.ensures.test ∙ c.if-not-is_zero.true) ∙ c.loop-entry.invariant

pub loop-entry-preserved : goal.loop-entry-preserved
loop-entry-preserved g c =
    let value = g.F.Field.value in
    leading_at (drop c.loop-entry.entry-index (map value c.args.vector.now)) _ (value c.entry-item.result)
    (drop_value value c.args.vector.now c.loop-entry.entry-index c.entry-item.result c.loop-entry-test.true c.entry-item.is)
    (sym c.is_zero.ensures.test ∙ c.if-not-is_zero.false) ∙ c.loop-entry.invariant
