use Rattle.benson_primal.proofs.Turned.{turn_falls}
use Rattle.benson_primal.proofs.search.Search.approximate.Goals as goal

pub loop-smaller : goal.loop-smaller
loop-smaller g c =
    turn_falls g.F.Field.value g.task c.loop.self.trail c.turn.new.self.trail (c.in_ok-turn.ensures.grown c.if-branch.true)
