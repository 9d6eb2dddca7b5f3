use Rattle.std.proofs.Common.{map}
use Rattle.shown_program.specs.Tests.{ArePriced}
use Rattle.shown_program.proofs.prices.tight_columns.Given as goal

abbrev pub invariant-loop-k : goal.invariant-loop-k
invariant-loop-k g l =
    let value = g.F.Field.value in
    ArePriced value l.program (map value l.y) l.k l.tight.items
