use Rattle.std.proofs.Common.{ℕ, List, subst, take}
use Rattle.exact_simplex.specs.Beginnings.{IsBegun, IsBegunBest}
use Rattle.exact_simplex.specs.GoingOn.{CanGoOn}
use Rattle.exact_simplex.specs.Hint.{IsBestAt, NameSame}
use Rattle.lin_rows.specs.System.{system_of}
use Rattle.exact_simplex.proofs.Faults.{optimal_with}
use Rattle.exact_simplex.proofs.Programs.{equation_count_is}
use Rattle.exact_simplex.proofs.solve.finish.Goals as goal

pub returns-in_ok-tableau-in-At-clause-best : goal.returns-in_ok-tableau-in-At-clause-best
returns-in_ok-tableau-in-At-clause-best g c =
    let value = g.F.Field.value in
    let p = c.args.system.now in
    let s = system_of value p in
    let basis : List ℕ = c.in-At.tableau.basis in
    λ columns begun.
    let on : CanGoOn value p c.in-At.tableau = subst (IsBegun value p) c.in-At.is c.requires in
    let found : IsBestAt s columns c.in-At.tableau = subst (IsBegunBest s columns) c.in-At.is begun in
    optimal_with c.in_ok-tableau-in-At.end (take p.rows basis) (NameSame columns) (subst (λ (k : ℕ). NameSame columns (take k basis)) (equation_count_is value p on.lengths) found.same) (c.in_ok-tableau-in-At.ensures.still found.best)
