use Rattle.std.proofs.Common.{subst}
use Rattle.benson_primal.specs.Search.{IsRound}
use Rattle.benson_primal.proofs.Searched.{grown_from}
use Rattle.benson_primal.proofs.search.Search.turn.Goals as goal

pub returns-in_ok-settle-in-Overflowed-clause-grown : goal.returns-in_ok-settle-in-Overflowed-clause-grown
returns-in_ok-settle-in-Overflowed-clause-grown g c =
    let value = g.F.Field.value in
    let old = c.args.self.now in
    let advanced = c.advance.new.self in
    let round = subst (λ r. IsRound value g.task c.args.scope old advanced r) c.in-Overflowed.is c.in_ok-advance.ensures.round in
    λ yes. grown_from value g.task old.trail advanced.trail c.settle.new.self.trail round.0.rows_same c.in_ok-settle-in-Overflowed.ensures.grown
