use Rattle.recession.specs.Logs.{task_of}
use Rattle.benson_dual.specs.Logs.{task_by}
use Rattle.benson_dual.proofs.engine.dual_with.Given as goal

abbrev pub ghost-first_cuts : goal.ghost-first_cuts
ghost-first_cuts g a = task_by g.F.Field.value g.file a.c.now a.weights.now

abbrev pub ghost-contradiction_log : goal.ghost-contradiction_log
ghost-contradiction_log g a = g.file

abbrev pub ghost-everything_log : goal.ghost-everything_log
ghost-everything_log g a = task_of g.file a.opening

abbrev pub ghost-facet_log : goal.ghost-facet_log
ghost-facet_log g a = g.file
