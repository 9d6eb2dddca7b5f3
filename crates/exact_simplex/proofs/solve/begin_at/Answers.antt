use Rattle.std.proofs.Common.{Option, subst}
use Rattle.std.specs.Prelude.{IsSomeAnd, MatchOption, ⊤}
use Rattle.lin_rows.specs.Tableau.{Dictionary}
use Rattle.exact_simplex.specs.Hint.{AreSolved, IsBestAt, IsHinted}
use Rattle.lin_rows.specs.System.{system_of}
use Rattle.exact_simplex.proofs.Hinted.{hinted_feasible, hinted_idle}
use Rattle.exact_simplex.proofs.solve.begin_at.Goals as goal

pub returns-in-Some-clause-begun : goal.returns-in-Some-clause-begun
returns-in-Some-clause-begun g c =
    let value = g.F.Field.value in
    let s = system_of value c.args.system.now in
    let hinted = subst (λ (o : Option Dictionary). MatchOption o ⊤ (IsHinted s)) c.in-Some.is c.in_ok-tableau.ensures.hinted in
    let solved = subst (λ (o : Option Dictionary). MatchOption o ⊤ (AreSolved s)) c.in-Some.is c.in_ok-tableau.ensures.solved in
    record { lengths = c.requires; feasible = hinted_feasible value s c.in-Some.tableau hinted solved; idle = hinted_idle value s c.in-Some.tableau hinted solved }

pub returns-in-Some-clause-hint : goal.returns-in-Some-clause-hint
returns-in-Some-clause-hint g c =
    let value = g.F.Field.value in
    let s = system_of value c.args.system.now in
    λ best. subst (λ (o : Option Dictionary). IsSomeAnd o (IsBestAt s c.args.columns.now)) c.in-Some.is (c.in_ok-tableau.ensures.best best)

pub returns-in-None-clause-hint : goal.returns-in-None-clause-hint
returns-in-None-clause-hint g c =
    let value = g.F.Field.value in
    let s = system_of value c.args.system.now in
    λ best. absurd (subst (λ (o : Option Dictionary). IsSomeAnd o (IsBestAt s c.args.columns.now)) c.in-None.is (c.in_ok-tableau.ensures.best best))
