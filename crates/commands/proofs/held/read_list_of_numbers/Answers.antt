use Rattle.std.proofs.Common.{List, All, IsTrue, subst}
use Rattle.std.proofs.lemmas.List.{take_all}
use Rattle.std.proofs.lemmas.List.Elements.{All-more}
use Rattle.exact_field.specs.Rational.{ℚ}
use Rattle.frac128.specs.Held.{is_held}
use Rattle.commands.proofs.held.read_list_of_numbers.Goals as goal

pub loop-number-preserved : goal.loop-number-preserved
loop-number-preserved c =
    All-more (λ q. IsTrue (is_held q)) c.args.list.now c.loop-number.number-index c.number-item.result c.loop-number-test.true c.loop-number.invariant
    (subst (λ (q : ℚ). IsTrue (is_held q)) c.number-item.is c.read_number.ensures)

pub returns : goal.returns
returns c =
    subst (λ (xs : List ℚ). All (λ q. IsTrue (is_held q)) xs) (take_all c.loop-number.number-index c.args.list.now c.loop-number-test.false) c.loop-number.invariant
