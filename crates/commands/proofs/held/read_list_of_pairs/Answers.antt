use Rattle.std.proofs.Common.{List, All, IsTrue, subst}
use Rattle.std.proofs.lemmas.List.{take_all}
use Rattle.std.proofs.lemmas.List.Elements.{All-more}
use Rattle.word_lines.specs.declared.part.LogPair.{LogPair}
use Rattle.word_lines.specs.Parts.{is_formed_pair}
use Rattle.commands.proofs.held.read_list_of_pairs.Goals as goal

pub loop-pair-preserved : goal.loop-pair-preserved
loop-pair-preserved c =
    All-more (λ p. IsTrue (is_formed_pair p)) c.args.list.now c.loop-pair.pair-index _ c.loop-pair-test.true c.loop-pair.invariant c.read_pair.ensures

pub returns : goal.returns
returns c =
    subst (λ (xs : List LogPair). All (λ p. IsTrue (is_formed_pair p)) xs) (take_all c.loop-pair.pair-index c.args.list.now c.loop-pair-test.false) c.loop-pair.invariant
