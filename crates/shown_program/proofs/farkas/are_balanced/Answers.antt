use Rattle.std.proofs.Common.{All, List, ℕ, arith, map, refl, subst}
use Rattle.std.proofs.lemmas.List.{take_all}
use Rattle.std.proofs.lemmas.List.Elements.{All-more}
use Rattle.shown_program.specs.Tests.{IsFirstPrice}
use Rattle.shown_program.proofs.farkas.are_balanced.Goals as goal

pub loop-column-preserved : goal.loop-column-preserved
loop-column-preserved g c =
    let value = g.F.Field.value in
    All-more (IsFirstPrice value c.args.program.now (map value c.args.y.now)) c.args.columns.now
    c.loop-column.column-index 0 c.loop-column-test.true c.loop-column.invariant
    (c.if-not-is_balanced.ensures refl)

pub returns : goal.returns
returns g c = λ told.
    let value = g.F.Field.value in
    subst (λ (cs : List ℕ). All (IsFirstPrice value c.args.program.now (map value c.args.y.now)) cs)
    (take_all c.loop-column.column-index c.args.columns.now (omega arith))
    c.loop-column.invariant
