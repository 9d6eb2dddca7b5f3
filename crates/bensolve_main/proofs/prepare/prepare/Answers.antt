use Rattle.bensolve_main.proofs.Fits.{logged_logs, logged_read, problem_logs, problem_read}
use Rattle.bensolve_main.proofs.Stages.{one_halts, one_replies, uncalled}
use Rattle.bensolve_main.proofs.prepare.prepare.Goals as goal

pub one_text-requires-clause-reads : goal.one_text-requires-clause-reads
one_text-requires-clause-reads g c = problem_read c.args.command c.in-Problem.problem c.requires c.in-Problem.is

pub returns-in-Problem-clause-told : goal.returns-in-Problem-clause-told
returns-in-Problem-clause-told g c =
    one_replies _ _ _ _ _ c.one_text.result
    (problem_logs c.args.command c.in-Problem.problem c.in-Problem.is) (uncalled _) c.one_text.ensures.told

pub returns-in-Problem-clause-halts : goal.returns-in-Problem-clause-halts
returns-in-Problem-clause-halts g c =
    one_halts _ _ _ c.one_text.result
    (problem_read c.args.command c.in-Problem.problem c.requires c.in-Problem.is) (uncalled _) c.one_text.ensures.halts

pub one_text-requires-in-Log-clause-reads : goal.one_text-requires-in-Log-clause-reads
one_text-requires-in-Log-clause-reads g c =
    logged_read c.args.command c.in-Log.problem c.in-Log.log c.requires c.in-Log.is

pub returns-in-Log-clause-told : goal.returns-in-Log-clause-told
returns-in-Log-clause-told g c =
    one_replies _ _ _ _ _ c.one_text-in-Log.result
    (logged_logs c.args.command c.in-Log.problem c.in-Log.log c.in-Log.is) (uncalled _) c.one_text-in-Log.ensures.told

pub returns-in-Log-clause-halts : goal.returns-in-Log-clause-halts
returns-in-Log-clause-halts g c =
    one_halts _ _ _ c.one_text-in-Log.result
    (logged_read c.args.command c.in-Log.problem c.in-Log.log c.requires c.in-Log.is) (uncalled _) c.one_text-in-Log.ensures.halts
