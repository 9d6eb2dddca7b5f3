use Rattle.std.proofs.Common.{take, All}
use Rattle.weighing.specs.Stages.{line, IsPassed}
use Rattle.weighing.proofs.walk.walk_lines.Given as goal

abbrev pub invariant-loop-index : goal.invariant-loop-index
invariant-loop-index l = All (λ g. IsPassed l.direction l.w (line g.d)) (take l.index l.lines)
