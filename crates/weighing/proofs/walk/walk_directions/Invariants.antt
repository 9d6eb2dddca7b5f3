use Rattle.std.proofs.Common.{take, All}
use Rattle.weighing.specs.Stages.{direction, IsPassed}
use Rattle.weighing.proofs.walk.walk_directions.Given as goal

abbrev pub invariant-loop-index : goal.invariant-loop-index
invariant-loop-index l = All (λ g. IsPassed l.direction l.w (direction g.y)) (take l.index l.directions)
