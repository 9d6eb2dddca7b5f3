use Rattle.std.proofs.Common.{List, All, IsTrue, subst}
use Rattle.std.proofs.lemmas.List.{take_all}
use Rattle.std.proofs.lemmas.List.Elements.{All-more}
use Rattle.exact_field.specs.Rational.{ℚ}
use Rattle.frac128.specs.Held.{is_held}
use Rattle.overflows.proofs.written.fractions_are_written.Goals as goal

pub loop-q-preserved : goal.loop-q-preserved
loop-q-preserved c =
    All-more (λ q. IsTrue (is_held q)) c.args.list.now c.loop-q.q-index c.q-item.result c.loop-q-test.true c.loop-q.invariant
    (subst (λ (q : ℚ). IsTrue (is_held q)) c.q-item.is c.num-num.ensures.held)

pub returns : goal.returns
returns c =
    subst (λ (xs : List ℚ). All (λ q. IsTrue (is_held q)) xs) (take_all c.loop-q.q-index c.args.list.now c.loop-q-test.false) c.loop-q.invariant
