use Rattle.benson_dual.specs.Logs.{task_by}
use Rattle.benson_dual.proofs.engine.facet_log.Given as goal

abbrev pub ghost-image_log : goal.ghost-image_log
ghost-image_log g a = task_by g.F.Field.value g.file a.image.now.c.now a.image.now.weights.now
