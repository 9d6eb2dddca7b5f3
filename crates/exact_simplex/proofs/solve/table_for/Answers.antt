use Rattle.exact_simplex.proofs.NextCost.{table_for}
use Rattle.exact_simplex.proofs.solve.table_for.Goals as goal

pub returns-then-has_same_equations : goal.returns-then-has_same_equations
returns-then-has_same_equations g c =
    let last = c.before-2.inside in
    table_for g.F.Field.value last.system c.args.system.now last.tableau (c.has_same_equations.ensures c.if-has_same_equations.true) c.before-2.invariant.table
