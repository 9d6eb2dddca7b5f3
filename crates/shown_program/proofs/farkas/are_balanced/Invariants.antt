use Rattle.std.proofs.Common.{All, map, take}
use Rattle.shown_program.specs.Tests.{IsFirstPrice}
use Rattle.shown_program.proofs.farkas.are_balanced.Given as goal

abbrev pub invariant-loop-column : goal.invariant-loop-column
invariant-loop-column g l =
    let value = g.F.Field.value in
    All (IsFirstPrice value l.program (map value l.y)) (take l.column-index l.columns)
