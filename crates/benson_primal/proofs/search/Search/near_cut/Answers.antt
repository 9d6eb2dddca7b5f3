use Rattle.std.proofs.Common.{rules, ap, map, ◌∙◌}
use Rattle.outer_approx.proofs.LiveVectors.{live_at}
use Rattle.benson_primal.proofs.search.Search.near_cut.Goals as goal

pub ask_near-requires : goal.ask_near-requires
ask_near-requires g c κs within =
    let s = c.args.self.now in
    let value = g.F.Field.value in
    let live = live_at value g.task s.trail c.args.g c.in_ok-full.full c.as_slice.result.now c.as_slice.ensures.items c.in_ok-full.ensures.live in
    (search rules, (c.requires.1.0, (c.requires.1.1, (live, λ v listed. ap (map value) c.as_slice.ensures.items ∙ c.in_ok-full.ensures.only v listed))))
