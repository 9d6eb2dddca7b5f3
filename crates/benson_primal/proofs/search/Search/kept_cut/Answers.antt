use Rattle.benson_primal.proofs.Searched.{next_stays}
use Rattle.benson_primal.proofs.search.Search.kept_cut.Goals as goal

pub returns-in-None-clause-cut : goal.returns-in-None-clause-cut
returns-in-None-clause-cut g c =
    next_stays g.F.Field.value g.task c.args.self.now.trail c.own_cut.new.self.trail c.args.found.cut c.in_ok-own.ensures.rows.rows_same c.requires.1.1.next
