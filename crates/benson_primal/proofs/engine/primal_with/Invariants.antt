use Rattle.std.proofs.Common.{map}
use Rattle.recession.specs.Logs.{task_of}
use Rattle.benson_primal.proofs.engine.primal_with.Given as goal

abbrev pub ghost-first_cuts : goal.ghost-first_cuts
ghost-first_cuts g a = record { file = g.file; c = map g.F.Field.value a.c.now; weights = map g.F.Field.value a.weights.now }

abbrev pub ghost-contradiction_log : goal.ghost-contradiction_log
ghost-contradiction_log g a = g.file

abbrev pub ghost-everything_log : goal.ghost-everything_log
ghost-everything_log g a = task_of g.file a.opening

abbrev pub ghost-log_of_image : goal.ghost-log_of_image
ghost-log_of_image g a = record { file = g.file; c = map g.F.Field.value a.c.now; weights = map g.F.Field.value a.weights.now }
