use Rattle.solver.proofs.Accepted.{all_accepted}
use Rattle.solver.proofs.answering.solve_dual.Goals as goal

pub returns-clause-accepted : goal.returns-clause-accepted
returns-clause-accepted c = all_accepted _ _ c.facet_solution_of.ensures.ok
