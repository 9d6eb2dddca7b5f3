use Rattle.exact_simplex.proofs.solve.solve_from_hint.Goals as goal

pub returns-clause-hint : goal.returns-clause-hint
returns-clause-hint g c = λ best. c.in_ok-done.ensures.best c.args.columns.now (c.in_ok-begun.ensures.hint best)
