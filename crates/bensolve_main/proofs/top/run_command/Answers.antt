use Rattle.bensolve_main.proofs.Stages.{shape_quiet}
use Rattle.bensolve_main.proofs.top.run_command.Goals as goal

pub returns-in-Ok-clause-log_out : goal.returns-in-Ok-clause-log_out
returns-in-Ok-clause-log_out g c = λ none. c.tell.ensures.quiet (shape_quiet _ c.in-Ok.reply _ _ none c.in-Ok.ensures.told)
