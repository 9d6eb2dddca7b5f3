use Rattle.std.proofs.Common.{take}
use Rattle.outer_approx.proofs.Pushed.{IsFilled}
use Rattle.outer_approx.proofs.log.with_cuts.Given as goal

abbrev pub ghost-push_cut : goal.ghost-push_cut
ghost-push_cut g a = g.task

abbrev pub invariant-loop-cut : goal.invariant-loop-cut
invariant-loop-cut g l = IsFilled g.F.Field.value g.task (take l.cut-index l.cuts) l.trail
