use Rattle.std.proofs.Common.{List, All, IsTrue, subst}
use Rattle.std.proofs.lemmas.List.{take_all}
use Rattle.std.proofs.lemmas.List.Elements.{All-more}
use Rattle.frac128.specs.declared.vectors.Spot.{Spot}
use Rattle.word_lines.specs.Parts.{is_formed_spot}
use Rattle.commands.proofs.held.read_list_of_spots.Goals as goal

pub loop-spot-preserved : goal.loop-spot-preserved
loop-spot-preserved c =
    All-more (λ s. IsTrue (is_formed_spot s)) c.args.list.now c.loop-spot.spot-index c.spot-item.result c.loop-spot-test.true c.loop-spot.invariant
    (subst (λ (s : Spot). IsTrue (is_formed_spot s)) c.spot-item.is c.read_spot.ensures)

pub returns : goal.returns
returns c =
    subst (λ (xs : List Spot). All (λ s. IsTrue (is_formed_spot s)) xs) (take_all c.loop-spot.spot-index c.args.list.now c.loop-spot-test.false) c.loop-spot.invariant
