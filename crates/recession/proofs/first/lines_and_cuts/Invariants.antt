use Rattle.std.proofs.Common.{◌+◌, length, reverse, ◌-◌}
use Rattle.recession.proofs.Grown.{AreGrown}
use Rattle.recession.proofs.first.lines_and_cuts.Given as goal

abbrev pub ghost-next_of : goal.ghost-next_of
ghost-next_of g a = g.task

abbrev pub invariant-loop-alloc : goal.invariant-loop-alloc
invariant-loop-alloc g l = AreGrown g.F.Field.value g.task l.cuts (reverse l.lines)

abbrev pub decreases-loop-alloc : goal.decreases-loop-alloc
decreases-loop-alloc g l = length l.form.p - (length l.cuts + length l.lines)
