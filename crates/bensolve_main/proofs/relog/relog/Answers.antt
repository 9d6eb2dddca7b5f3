use Rattle.commands.specs.Tasks.Task.{relog}
use Rattle.bensolve_main.proofs.Stages.{end_halts, end_told, relog_refusals}
use Rattle.bensolve_main.proofs.relog.relog.Goals as goal

pub returns-in-Err-clause-told : goal.returns-in-Err-clause-told
returns-in-Err-clause-told g c =
    end_told relog c.args.file.now (relog_refusals c.args.file.now) c.in-Err.end _ _
    c.end_reply.result c.in-Err.ensures.err c.end_reply.ensures.told

pub returns-in-Err-clause-halts : goal.returns-in-Err-clause-halts
returns-in-Err-clause-halts g c = end_halts c.in-Err.end c.args.file.now _ _ c.end_reply.result c.in-Err.ensures.err c.end_reply.ensures.halts
