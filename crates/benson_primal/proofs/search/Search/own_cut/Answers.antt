use Rattle.std.proofs.Common.{rules}
use Rattle.outer_approx.proofs.LiveVectors.{live_at}
use Rattle.benson_primal.proofs.search.Search.own_cut.Goals as goal

pub ask_at-requires : goal.ask_at-requires
ask_at-requires g c κs within =
    let s = c.args.self.now in
    let live = live_at g.F.Field.value g.task s.trail c.args.g c.in_ok-full.full c.as_slice.result.now c.as_slice.ensures.items c.in_ok-full.ensures.live in
    (search rules, (c.requires.1.0, (live, c.requires.1.1.1)))
