use Rattle.shown_program.proofs.Summed.{AreSummed}
use Rattle.shown_program.proofs.solution.sum_from.Given as goal

abbrev pub invariant-loop-k : goal.invariant-loop-k
invariant-loop-k g l = AreSummed g.F.Field.value l.program l.columns l.values l.k l.total
