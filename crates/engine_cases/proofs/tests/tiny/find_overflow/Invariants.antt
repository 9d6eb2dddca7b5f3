use Rattle.engine_cases.proofs.tests.tiny.find_overflow.Given as goal

abbrev pub ghost-log_of : goal.ghost-log_of
ghost-log_of g a = a.problem.now

abbrev pub ghost-dual_log_of : goal.ghost-dual_log_of
ghost-dual_log_of g a = a.problem.now
