use Rattle.std.proofs.Common.{rules}
use Rattle.benson_primal.proofs.Marked.{all_reached}
use Rattle.benson_primal.proofs.engine.describe.Goals as goal

pub end_solved-requires : goal.end_solved-requires
end_solved-requires g c κs within =
    let s = c.approximate.new.self in
    (search rules, (c.in_ok-approximate.ensures.searching.outer, all_reached s.trail s.dd c.in_ok-approximate.ensures.reached))
