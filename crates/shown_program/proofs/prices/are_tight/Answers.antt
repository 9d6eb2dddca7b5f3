use Rattle.std.proofs.Common.{All, IsTrue, List, ℕ, arith, subst}
use Rattle.std.proofs.lemmas.List.{take_all}
use Rattle.std.proofs.lemmas.List.Elements.{All-more}
use Rattle.shown_program.specs.Marks.{mark_at}
use Rattle.shown_program.proofs.prices.are_tight.Goals as goal

pub loop-column-preserved : goal.loop-column-preserved
loop-column-preserved c =
    All-more (λ j. IsTrue (mark_at c.args.tight.now j)) c.args.columns.now
    c.loop-column.column-index 0 c.loop-column-test.true c.loop-column.invariant
    c.if-not-tight-column.false

pub returns : goal.returns
returns c = λ told.
    subst (λ (cs : List ℕ). All (λ j. IsTrue (mark_at c.args.tight.now j)) cs)
    (take_all c.loop-column.column-index c.args.columns.now (omega arith))
    c.loop-column.invariant
