use Rattle.lower_image.proofs.Searched.{turn_falls}
use Rattle.lower_image.proofs.search.Search.approximate.Goals as goal

pub loop-smaller : goal.loop-smaller
loop-smaller g c = turn_falls g.task c.loop.self.dd c.turn.new.self.dd (c.in_ok-turn.ensures.grown c.if-branch.true)
