use Rattle.std.proofs.Common.{map, string_bytes}
use Rattle.bensolve_main.proofs.Commands.{accepted_of, complete_of, outcome_of, words_of}
use Rattle.bensolve_main.proofs.Fits.{command_fits}
use Rattle.bensolve_main.proofs.top.run.Goals as goal

pub run_command-requires : goal.run_command-requires
run_command-requires g c = command_fits _ _ (map string_bytes c.args.words.now) c.command_in.ensures c.in-Some.is

pub returns-in-Some-clause-words : goal.returns-in-Some-clause-words
returns-in-Some-clause-words g c = words_of _ _ _ c.run_command.result _ _ c.command_in.ensures c.in-Some.is c.run_command.ensures.outcome

pub returns-in-Some-clause-outcome : goal.returns-in-Some-clause-outcome
returns-in-Some-clause-outcome g c = outcome_of _ _ _ c.run_command.result _ _ c.command_in.ensures c.in-Some.is c.run_command.ensures.outcome

pub returns-in-Some-clause-complete : goal.returns-in-Some-clause-complete
returns-in-Some-clause-complete g c = complete_of _ _ _ c.run_command.result _ _ c.command_in.ensures c.in-Some.is c.run_command.ensures.outcome

pub returns-in-Some-clause-accepted : goal.returns-in-Some-clause-accepted
returns-in-Some-clause-accepted g c = accepted_of _ _ _ c.run_command.result _ _ c.command_in.ensures c.in-Some.is c.run_command.ensures.outcome
